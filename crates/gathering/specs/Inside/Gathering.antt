-- Messages that wait to be added, so that equal ones are added at once. A slot is a number: the record at which a message begins, and
-- 8,192 for each message like it.
use Rattle.std.specs.Prelude.{◌≡◌, Result, Ok, Err, false, List, [], ◌∷◌, ℕ, zero, suc, ◌+◌, ◌*◌, ◌/◌, ◌%◌, ◌≤◌, ◌<◌, length, take, drop, get_or}
use Rattle.value_table.specs.Value.{record_size, span_at, Values, encode, Valid}
use Rattle.value_table.specs.Judged.{messages}
use Rattle.type_arena.specs.declared.record_store.NoRoom.{NoRoom}
use Rattle.counting_theory.specs.Trie.{nil, size, ◌⊞◌, lookup}
use Rattle.counting_theory.specs.Inside.TrieLaws.{append}
use Rattle.counting_theory.specs.Label.{Label, Counting, CountingType}
use Rattle.counting_theory.specs.declared.equivalence.Equivalence.{Equivalence}
use Rattle.counting_theory.specs.Inside.Times.{times}
use Rattle.counting_theory.specs.Raw.{raw, profile_of}
use Rattle.counting_theory.specs.Encoding.{type_size}
use Rattle.byte_records.specs.Inside.Numbers.{numbers_of}
use Rattle.inference.specs.Inside.Inferring.{keys_per_record, TableRun, ArenaHolds}

-- the bytes of a slot, and the slots that some bytes have room for
abbrev pub slot_size : ℕ
slot_size = 8

abbrev pub slots_of : List ℕ → List ℕ
slots_of s = numbers_of slot_size (length s / slot_size) s

abbrev pub slot_start : ℕ → ℕ
slot_start v = v % 8192

abbrev pub slot_count : ℕ → ℕ
slot_count v = v / 8192

abbrev pub slot_number : (first count : ℕ) → ℕ
slot_number first count = first + 8192 * count

-- the bytes of the message at record i of a table, and the message
abbrev pub bytes_of_message : List ℕ → ℕ → List ℕ
bytes_of_message t i = take (record_size * span_at t i) (drop (record_size * i) t)

abbrev pub message_at : List ℕ → ℕ → Values
message_at t i = messages (bytes_of_message t i)

-- raw material of the message at record i, n times
unfoldable pub message_raw : Equivalence → List ℕ → ℕ → ℕ → CountingType
message_raw e t i zero = nil
message_raw e t i (suc n) = times (suc n) (raw e false (message_at t i))

abbrev pub slot_raw : Equivalence → List ℕ → ℕ → CountingType
slot_raw e t v = message_raw e t (slot_start v) (slot_count v)

unfoldable pub waiting : Equivalence → List ℕ → List ℕ → CountingType
waiting e t [] = nil
waiting e t (v ∷ slots) = append (slot_raw e t v) (waiting e t slots)

-- the two records of t begin messages of the same bytes
abbrev pub SameMessage : List ℕ → ℕ → ℕ → Type 0
SameMessage t j i = (span_at t j ≡ span_at t i) × (bytes_of_message t j ≡ bytes_of_message t i)

-- a message of t begins at record i
pub record MessageAt (t : List ℕ) (i : ℕ) : Type 0 where
  pub some : 1 ≤ span_at t i
  pub within : record_size * (i + span_at t i) ≤ length t
  pub run : TableRun false (bytes_of_message t i) (message_at t i)

-- `count` messages of t before record i wait, all like the one at record `first`
pub record Waits (t : List ℕ) (i first count : ℕ) : Type 0 where
  pub start : first ≤ i
  pub few : count ≤ i
  pub bound : count * span_at t first ≤ i
  pub message : 1 ≤ count → MessageAt t first

-- they wait in slot v
abbrev pub Slot : List ℕ → ℕ → ℕ → Type 0
Slot t i v = Waits t i (slot_start v) (slot_count v)

abbrev pub Slots : List ℕ → ℕ → List ℕ → Type 0
Slots t i slots = (k : ℕ) → k < length slots → Slot t i (get_or slots k 0)

-- there are slots, at most as many as the arena a has room for records, and `keys` has room for the key lists of the arena
pub record Roomy (a slots keys : List ℕ) : Type 0 where
  pub some : slot_size ≤ length slots
  pub few : type_size * (length slots / slot_size) ≤ length a
  pub enough : length a ≤ keys_per_record * length keys

-- The m records of the arena a hold f. With what waits in the slots and the messages left from record i on it is all that the messages
-- of t give, at each path.
pub record Gathering (e : Equivalence) (t a : List ℕ) (m i : ℕ) (slots : List ℕ) : Type 0 where
  pub f : CountingType
  pub free : List ℕ
  pub left : Values
  pub holds : ArenaHolds e false a m 0 f [] free
  pub left-bytes : drop (record_size * i) t ≡ encode left
  pub valid : Valid left
  pub held : Slots t i slots
  pub same : (p : List Label) → ◌⊞◌ Counting (lookup Counting f p) (◌⊞◌ Counting (lookup Counting (waiting e t slots) p) (lookup Counting (raw e false left) p)) ≡ lookup Counting (raw e false (messages t)) p

-- that, or the arena has too little room for the profile of the messages
abbrev pub GatheredTo : Equivalence → List ℕ → ℕ → Result ℕ NoRoom → List ℕ → List ℕ → Type 0
GatheredTo e t i (Ok m) a slots = Gathering e t a m i slots
GatheredTo e t i (Err _) a slots = length a < type_size * size (profile_of e (messages t))
