-- Change 6 of document 02: the tag-bus inference, always under label and with keys 1 to 64. What it answers and leaves, for every input,
-- and that its type is that of call 2.
use Rattle.std.specs.Prelude.{Result, ◌≡◌, Bool, false, cond, not, ◌||◌, List, [], ◌++◌, ℕ, zero, suc, ◌-◌, ◌*◌, ◌%◌, ◌≤◌, eqb, ltb, length}
use Rattle.byte_records.specs.Number.{Bytes, zeros}
use Rattle.value_table.specs.Value.{max_length, KeysUpTo}
use Rattle.value_table.specs.Outcome.{Outcome, accepted}
use Rattle.value_table.specs.Judged.{judged_up_to, messages}
use Rattle.counting_theory.specs.Trie.{size}
use Rattle.counting_theory.specs.Label.{CountingType}
use Rattle.counting_theory.specs.declared.equivalence.Equivalence.TheVariants.{Label as by_label}
use Rattle.counting_theory.specs.Raw.{profile_of}
use Rattle.counting_theory.specs.Encoding.{type_size, encode}
use Rattle.counting_theory.specs.Answers.{equivalence_number, Written, turned_down, Left, leaves, bad_buffers, inferred}
use Rattle.answers.specs.declared.Refusal.{Refusal}
use Rattle.answers.specs.Outcomes.{left_by}
use Rattle.key_word.specs.Word.{word_bits}
use Rattle.tag_bus.specs.Entries.{entry_size, entries, entry_count, Exact}

-- What the call answers with the bytes of the type, and the bytes of the entries; none where it is turned down.
pub record TagBus : Type 0 where
  pub written : Written
  pub entries : List ℕ

abbrev pub no_tag_bus : ℕ → ℕ → TagBus
no_tag_bus number place = record { written = turned_down number place; entries = [] }

-- 1: also a length of the entries that is no multiple of an entry's, or above the limit
unfoldable pub bad_entries_length : ℕ → Bool
bad_entries_length n = not (eqb (n % entry_size) 0) || ltb max_length n

-- 11: the type has more records than the arena, or there are more entries than their buffer, of `room` bytes, holds
abbrev pub stored_with_entries : ℕ → ℕ → CountingType → TagBus
stored_with_entries arena room f =
    cond (ltb arena (type_size * size f) || ltb room (entry_size * entry_count f)) (no_tag_bus 11 0)
    (record { written = record { outcome = accepted (size f); bytes = encode f }; entries = entries f })

abbrev pub tag_bus_from : Outcome → List ℕ → ℕ → ℕ → TagBus
tag_bus_from o table arena room =
    elim o.number [ zero ↦ stored_with_entries arena room (profile_of by_label (messages table)) | suc k ↦ no_tag_bus (suc k) o.place ]

-- The call: 1, the table's own refusal with its place, where 17 is a key above 64, then 11. Its buffers are given by their lengths.
unfoldable pub inferred_tag_bus : List ℕ → ℕ → ℕ → ℕ → TagBus
inferred_tag_bus table arena work room =
    cond (bad_buffers (length table) arena work || bad_entries_length room) (no_tag_bus 1 0) (tag_bus_from (judged_up_to word_bits table) table arena room)

-- What the call leaves: its answer, the arena, the working buffer and the entries.
pub record LeftWithEntries : Type 0 where
  pub left : Left
  pub entries : List ℕ

abbrev pub left_with_entries : Result ℕ Refusal → List ℕ → List ℕ → List ℕ → LeftWithEntries
left_with_entries answered arena work entries = record { left = left_by answered arena work; entries = entries }

-- behind the last entry are zeros
abbrev pub leaves_tag_bus : TagBus → List ℕ → List ℕ → List ℕ → LeftWithEntries
leaves_tag_bus t arena work entries =
    record { left = leaves t.written arena work; entries = t.entries ++ zeros (length entries - length t.entries) }

-- the call is accepted
abbrev pub Accepted : List ℕ → ℕ → ℕ → ℕ → Type 0
Accepted table arena work room = (inferred_tag_bus table arena work room).written.outcome.number ≡ 0

-- Accepted, its answer and the type's bytes are those of call 2 under label.
abbrev pub LikeGeneral : Type 0
LikeGeneral = (table : List ℕ) (arena work room : ℕ) → Bytes table → Accepted table arena work room →
    (inferred_tag_bus table arena work room).written ≡ inferred table (equivalence_number by_label) arena work

-- And they are those of call 2, refusals included, wherever no key is above 64 and the entries have room.
abbrev pub GeneralAlike : Type 0
GeneralAlike = (table : List ℕ) (arena work room : ℕ) → Bytes table → KeysUpTo word_bits table → bad_entries_length room ≡ false →
    entry_size * entry_count (profile_of by_label (messages table)) ≤ room →
    (inferred_tag_bus table arena work room).written ≡ inferred table (equivalence_number by_label) arena work

-- Accepted, each entry has exactly the keys of its addend.
abbrev pub EntriesExact : Type 0
EntriesExact = (table : List ℕ) (arena work room : ℕ) → Bytes table → Accepted table arena work room → Exact (profile_of by_label (messages table))
