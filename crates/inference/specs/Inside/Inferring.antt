-- Inference in place, as the contracts inside state it: the key list in the working buffer, runs of values as parts of a table, and
-- the siblings that an arena holds.
use Rattle.std.specs.Prelude.{◌≡◌, Result, Ok, Err, Bool, true, cond, List, [], ◌∷◌, ◌++◌, eqb, ltb, leb, length}
use Rattle.std.proofs.Math.Option.{Option, none, some}
use Prim.Native.Nat.Ordering.{eq}
use Prim.Native.Nat.Ordering.{gt}
use Prim.Native.Nat.Ordering.{lt}
use Prim.Native.Nat.{ℕ, suc, ◌+◌, ◌-◌, ◌*◌, ◌/◌, ◌≤◌, ◌<◌, Ordering}
use Rattle.byte_records.specs.Inside.Numbers.{numbers_of}
use Rattle.value_table.specs.Value.{max_length, record_kind, last_scalar, KeysUpTo, Values, keys, Distinct, ValidAt}
use Rattle.value_table.specs.Value as table
use Rattle.value_table.specs.Inside.RecordBytes.{record_at}
use Rattle.value_table.specs.Judged.{messages}
use Rattle.value_table.specs.Acceptance.{Table}
use Rattle.std.specs.declared.cmp.Ordering as code
use Rattle.std.specs.declared.ops.ControlFlow.{ControlFlow}
use Rattle.std.specs.declared.ops.ControlFlow.TheVariants.{Break, Continue}
use Rattle.type_arena.specs.declared.record_store.NoRoom.{NoRoom}
use Rattle.inference.specs.declared.placing.Put.{Put}
use Rattle.inference.specs.declared.inferring.Item.{Item}
use Rattle.inference.specs.declared.wanted.Wanted.{Wanted}
use Rattle.counting_theory.specs.Payload.{Payload, join}
use Rattle.counting_theory.specs.Inside.Times.{times}
use Rattle.counting_theory.specs.Trie.{nil, node, size, insert, add, Sorted}
use Rattle.counting_theory.specs.Inside.TrieLaws.{append}
use Rattle.counting_theory.specs.Label.{Label, field_kind, listed, label_of, compare_keys, compare_label, Counting, CountingType}
use Rattle.counting_theory.specs.declared.equivalence.Equivalence.{Equivalence}
use Rattle.counting_theory.specs.Raw.{ascending, raw}
use Rattle.counting_theory.specs.Encoding.{type_size, type_kind, type_span, header, encode, Tagged}
use Rattle.key_word.specs.Word.{word_bits}
use Rattle.type_arena.specs.Inside.Arena.{keys_in, label_at}
use Rattle.type_arena.specs.Inside.LabelOrder.{ordering_of}
use Rattle.type_arena.specs.Inside.Payload.{LengthsKept, item_payload}

-- the bytes of a key, and the first n keys of a key list in bytes
abbrev pub key_size : ℕ
key_size = 2

abbrev pub keys_of : ℕ → List ℕ → List ℕ
keys_of n w = numbers_of key_size n w

-- how many keys have the bytes of a type record
abbrev pub keys_per_record : ℕ
keys_per_record = type_size / key_size

-- no key is above the next one
abbrev pub AtMostFirst : ℕ → List ℕ → Type 0
AtMostFirst x [] = Unit {0}
AtMostFirst x (y ∷ ys) = x ≤ y

abbrev pub Rising : List ℕ → Type 0
Rising [] = Unit {0}
Rising (x ∷ xs) = AtMostFirst x xs × Rising xs

-- how many keys at the front are below k
unfoldable pub leading : ℕ → List ℕ → ℕ
leading k [] = 0
leading k (x ∷ xs) = cond (ltb x k) (suc (leading k xs)) 0

-- t is the part of a table with the valid values vs, which stand there as a record's fields or not (as_fields), and are read as fields
-- where `field` is true. A field's value is also read as a run of its own; then its key makes no difference.
pub record TableRun (field : Bool) (t : List ℕ) (vs : Values) : Type 0 where
  pub bytes : t ≡ table.encode vs
  pub short : length t ≤ max_length
  pub as_fields : Bool
  pub depth : ℕ
  pub valid : ValidAt as_fields depth vs
  pub fields : field ≡ true → as_fields ≡ true
  pub distinct : field ≡ true → Distinct (keys vs)

pub record SomeRun (field : Bool) (t : List ℕ) : Type 0 where
  pub values : Values
  pub run : TableRun field t values

-- where key lists come from words, no key in t is above 64
pub record KeysFit (words : Bool) (t : List ℕ) : Type 0 where
  pub upto : words ≡ true → KeysUpTo word_bits t

-- how many records the value at record i has, where a scalar has one
abbrev pub step_at : List ℕ → ℕ → ℕ
step_at t i = cond (leb (table.kind_at t i) last_scalar) 1 (table.span_at t i)

-- w begins with the ascending keys of vs; or vs has more fields than w has room for keys
abbrev pub ListedIn : Values → Result ℕ NoRoom → List ℕ → Type 0
ListedIn vs (Ok n) w = (keys_of n w ≡ ascending (keys vs)) × (key_size * n ≤ length w)
ListedIn vs (Err _) w = length w < key_size * length (keys vs)

-- the label of a kind and a key, with the first n keys of w as its key list
abbrev pub wanted : Equivalence → ℕ → ℕ → ℕ → List ℕ → Label
wanted e kind key n w = label_of e kind key (keys_of n w)

-- the same of the label that is looked for, whose key list is in bytes
abbrev pub label_of_wanted : Wanted → Label
label_of_wanted w = wanted w.equivalence w.kind w.key (length w.keys.now / key_size) w.keys.now

-- what a kind and a key tell of the order between their label, whatever its key list, and that of record p
abbrev pub HeadTells : Equivalence → ℕ → ℕ → List ℕ → ℕ → ControlFlow code.Ordering ℕ → Type 0
HeadTells e kind key b p (Break o) = (keys : List ℕ) → ordering_of o ≡ compare_label (label_of e kind key keys) (label_at e b p)
HeadTells e kind key b p (Continue end) =
    (end ≡ p + type_span b p) × (type_kind b p ≡ record_kind) ×
    ((keys : List ℕ) → compare_keys keys (keys_in b p) ≡ compare_label (label_of e kind key keys) (label_at e b p))

-- where the label l stands among siblings (Ok), or would (Err), in records from `at`
abbrev pub Found : Type 0
Found = Result ℕ ℕ

unfoldable pub spot_here : Ordering → ℕ → Found → Found
spot_here lt at later = Err at
spot_here eq at later = Ok at
spot_here gt at later = later

unfoldable pub spot : Label → ℕ → CountingType → Found
spot l at nil = Err at
spot l at (node k count c s) = spot_here (compare_label l k) at (spot l (at + (1 + size c)) s)

-- the label l stands at record p of the siblings f
abbrev pub StandsAt : Label → CountingType → ℕ → Type 0
StandsAt l f p = Ok p ≡ spot l 0 f

-- each kind, key and length fits its bytes; a count need not, since sums wrap
abbrev pub NumbersFit : CountingType → Type 0
NumbersFit nil = Unit {0}
NumbersFit (node l a c s) = ((l.kind < 256) × (l.key < 65536) × LengthsKept a) × NumbersFit c × NumbersFit s

-- f is a union or, where `field` is true, a record's run of fields, as inference makes them
pub record InferredSiblings (e : Equivalence) (field : Bool) (f : CountingType) : Type 0 where
  pub tagged : Tagged e field f
  pub sorted : Sorted Counting f
  pub numbers : NumbersFit f

-- the arena a is the siblings f, of n records, then q, the `rest` records that are in use behind them, then what is free
pub record ArenaHolds (e : Equivalence) (field : Bool) (a : List ℕ) (n rest : ℕ) (f : CountingType) (q free : List ℕ) : Type 0 where
  pub bytes : a ≡ encode f ++ (q ++ free)
  pub count : n ≡ size f
  pub used : length q ≡ type_size * rest
  pub short : length a ≤ max_length
  pub siblings : InferredSiblings e field f

-- a sibling of f, or the end, is at record `from`
pub record Starts (from : ℕ) (f : CountingType) : Type 0 where
  pub first : CountingType
  pub last : CountingType
  pub whole : f ≡ append first last
  pub count : from ≡ size first

-- a sibling of f, or the end, is at record p, and a search for l from there on gives what one of all siblings gives
pub record Ahead (l : Label) (f : CountingType) (p : ℕ) : Type 0 where
  pub starts : Starts p f
  pub same : spot l p starts.last ≡ spot l 0 f

-- what comes of passing siblings of f from record `from` on: where l stands or would, or from where on it is ahead
abbrev pub PassedTo : Label → CountingType → ℕ → ControlFlow Found ℕ → Type 0
PassedTo l f from (Break x) = x ≡ spot l 0 f
PassedTo l f from (Continue p) = (from ≤ p) × Ahead l f p

-- where a search may begin after a label was found at record p of n: there, or behind it among fields, if a sibling is there
abbrev pub resumed : Bool → List ℕ → ℕ → ℕ → ℕ
resumed field a p n = cond field (cond (ltb (p + type_span a p) n) (p + type_span a p) p) p

-- the same of some siblings, where one of them starts: to be added to, or only to be searched
pub record HeldFrom (e : Equivalence) (a : List ℕ) (n rest from : ℕ) : Type 0 where
  pub field : Bool
  pub f : CountingType
  pub q : List ℕ
  pub free : List ℕ
  pub holds : ArenaHolds e field a n rest f q free
  pub starts : Starts from f

pub record Shown (e : Equivalence) (a : List ℕ) (n from : ℕ) : Type 0 where
  pub rest : ℕ
  pub held : HeldFrom e a n rest from

-- P holds of any siblings that stand in the first n records of b, where one of them, or the end, is at record `from`
abbrev pub OfShown : Equivalence → List ℕ → ℕ → ℕ → (CountingType → Type 0) → Type 0
OfShown e b n from P = (field : Bool) (rest : ℕ) (f : CountingType) (q free : List ℕ) → ArenaHolds e field b n rest f q free → Starts from f → P f

-- the same of siblings and of what is in use behind them
abbrev pub OfHeld : Equivalence → List ℕ → ℕ → ℕ → ℕ → (CountingType → List ℕ → Type 0) → Type 0
OfHeld e a n rest from P = (field : Bool) (f : CountingType) (q free : List ℕ) → ArenaHolds e field a n rest f q free → Starts from f → P f q

-- w has room for as many key lists as a type in the arena a can have keys
abbrev pub KeyRoom : List ℕ → List ℕ → Type 0
KeyRoom a w = length a ≤ keys_per_record * length w

-- some siblings to which a run of values, or of fields, is to be added
pub record HeldRun (e : Equivalence) (field : Bool) (a : List ℕ) (n rest : ℕ) : Type 0 where
  pub f : CountingType
  pub q : List ℕ
  pub free : List ℕ
  pub holds : ArenaHolds e field a n rest f q free

-- the siblings around the label l: those before it, its payload if it stands there, its children, and those after it
pub record Split : Type 0 where
  pub before : CountingType
  pub payload : Option Payload
  pub content : CountingType
  pub after : CountingType

unfoldable pub split_here : Ordering → Label → Payload → CountingType → CountingType → Split → Split
split_here lt k a c s later = record { before = nil; payload = none; content = nil; after = node k a c s }
split_here eq k a c s later = record { before = nil; payload = some a; content = c; after = s }
split_here gt k a c s later = record { before = node k a c later.before; payload = later.payload; content = later.content; after = later.after }

unfoldable pub split : Label → CountingType → Split
split l nil = record { before = nil; payload = none; content = nil; after = nil }
split l (node k a c s) = split_here (compare_label l k) k a c s (split l s)

-- what was there, and more
unfoldable pub grown : Option Payload → Payload → Payload
grown none a = a
grown (some b) a = join b a

-- the payload a stands at l, in record p of the n records of siblings in b
pub record Counted (x : Split) (l : Label) (a : Payload) (q : List ℕ) (p n : ℕ) (b : List ℕ) : Type 0 where
  pub place : p ≡ size x.before
  pub count : n ≡ size x.before + (1 + (size x.content + size x.after))
  pub free : List ℕ
  pub bytes : b ≡ encode x.before ++ (header l (1 + size x.content) a ++ (encode x.content ++ (encode x.after ++ (q ++ free))))

-- that, or b has fewer than the records that are needed
abbrev pub CountedWithin : ℕ → Split → Label → Payload → List ℕ → Result Put NoRoom → List ℕ → Type 0
CountedWithin needed x l a q (Ok put) b = Counted x l (grown x.payload a) q put.at put.records b
CountedWithin needed x l a q (Err _) b = length b < type_size * needed

-- with `rest` records in use behind the siblings f, and none yet below the label
abbrev pub PlacedAt : Label → Payload → CountingType → List ℕ → ℕ → Result Put NoRoom → List ℕ → Type 0
PlacedAt l a f q rest r b = let x = split l f in CountedWithin (size x.before + (1 + (size x.content + size x.after)) + rest) x l a q r b

-- the siblings g are there, or there is too little room for them
pub record Grown (g : CountingType) (q : List ℕ) (n : ℕ) (b : List ℕ) : Type 0 where
  pub count : n ≡ size g
  pub free : List ℕ
  pub bytes : b ≡ encode g ++ (q ++ free)

abbrev pub AddedAt : CountingType → ℕ → List ℕ → ℕ → Result Put NoRoom → List ℕ → Type 0
AddedAt g place q rest (Err _) b = length b < type_size * (size g + rest)
AddedAt g place q rest (Ok put) b = Grown g q put.records b × (put.at ≡ place)

abbrev pub Added : CountingType → List ℕ → ℕ → Result ℕ NoRoom → List ℕ → Type 0
Added g q rest (Err _) b = length b < type_size * (size g + rest)
Added g q rest (Ok n) b = Grown g q n b

-- the label of an item with the values vs below it: the class of a value with this content, or a field
abbrev pub label_for : Equivalence → ℕ → ℕ → Values → Label
label_for e kind key vs = label_of e kind key (ascending (keys vs))

-- the siblings f with that item added w times
abbrev pub with_item : Equivalence → ℕ → ℕ → ℕ → Values → CountingType → CountingType
with_item e kind key w vs f = insert Counting (label_for e kind key vs) (item_payload w kind vs) (add Counting (times w (raw e (eqb kind record_kind) vs))) f

-- a weight is at least 1, and no more than a table has bytes, also with the bytes of the run t for each
pub record Weighed (w : ℕ) (t : List ℕ) : Type 0 where
  pub some : 1 ≤ w
  pub small : w ≤ max_length
  pub bound : w * length t ≤ max_length

-- the key list that the label asks for is in w; or the record has more fields than w has room for keys
abbrev pub LabelListed : Equivalence → ℕ → Values → Result ℕ NoRoom → List ℕ → Type 0
LabelListed e kind vs (Ok n) w = (listed e kind (keys_of n w) ≡ listed e kind (ascending (keys vs))) × (key_size * n ≤ length w)
LabelListed e kind vs (Err _) w = (kind ≡ record_kind) × (length w < key_size * length (keys vs))

-- What stands at record i of a run: the kind and key of its label, the byte from which what is below it is read, and the record behind
-- it. A field's value is read as a run of its own.
pub record ItemAt (field : Bool) (t : List ℕ) (i : ℕ) (x : Item) : Type 0 where
  pub kind-is : x.kind ≡ cond field field_kind (table.kind_at t i)
  pub key-is : x.key ≡ cond field (table.key_at t i) 0
  pub start_is : x.start ≡ cond field (table.record_size * i) (table.record_size * (i + 1))
  pub next-is : x.next ≡ i + table.span_at t i

-- n records of t from i on have the bytes of those from j on
pub record EqualRecords (t : List ℕ) (i j n : ℕ) : Type 0 where
  pub within : table.record_size * (j + n) ≤ length t
  pub same : (x : ℕ) → x < n → record_at t (i + x) ≡ record_at t (j + x)

-- the same, and no more up to record `end`
pub record MostEqualRecords (t : List ℕ) (i j end n : ℕ) : Type 0 where
  pub equal : EqualRecords t i j n
  pub upto : j + n ≤ end
  pub differ : j + n < end → record_at t (i + n) ≡ record_at t (j + n) → ⊥

-- n values like the one from record i to next directly follow it, and no more
pub record MostEqualValues (t : List ℕ) (i next n : ℕ) : Type 0 where
  pub equal : EqualRecords t i next ((next - i) * n)
  pub differ : EqualRecords t i next ((next - i) * (n + 1)) → ⊥

-- t is the table of its messages, as call 1 accepts it
pub record AcceptedTable (t : List ℕ) : Type 0 where
  pub count : ℕ
  pub is-table : Table t (messages t) count
