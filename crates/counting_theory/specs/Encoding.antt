-- 'Type arena' of document 01: types as bytes, and which tries are types.
use Rattle.std.specs.Prelude.{◌≡◌, Bool, true, false, List, [], ◌∷◌, ◌++◌, ℕ, zero, suc, ◌+◌, ◌/◌, ◌≤◌, eqb, ltb, length, drop}
use Rattle.byte_records.specs.Format.{Format, width_of, field_at, fields_at, record_bytes}
use Rattle.value_table.specs.Value.{record_kind, array_kind, last_scalar}
use Rattle.counting_theory.specs.Payload.{Payload, payload_format, numbers, of_numbers}
use Rattle.counting_theory.specs.Trie.{nil, node, size}
use Rattle.counting_theory.specs.Label.{Label, label_of, field_label, CountingType}
use Rattle.counting_theory.specs.declared.equivalence.Equivalence.{Equivalence}

-- the fields of a type record: kind, zero, key and span, then the payload's
abbrev pub type_format : Format
type_format = 1 ∷ 1 ∷ 2 ∷ 4 ∷ payload_format

-- bytes of a type record
abbrev pub type_size : ℕ
type_size = width_of type_format

-- how many type records b has, and the fields of record i
abbrev pub type_records : List ℕ → ℕ
type_records b = length b / type_size

unfoldable pub type_kind : List ℕ → ℕ → ℕ
type_kind = field_at type_format 0

unfoldable pub type_zero : List ℕ → ℕ → ℕ
type_zero = field_at type_format 1

unfoldable pub type_key : List ℕ → ℕ → ℕ
type_key = field_at type_format 2

unfoldable pub type_span : List ℕ → ℕ → ℕ
type_span = field_at type_format 3

unfoldable pub type_payload : List ℕ → ℕ → Payload
type_payload b i = of_numbers (drop 4 (fields_at type_format b i))

-- the key list of a label is not written: the children have it
abbrev pub record_numbers : Label → ℕ → Payload → List ℕ
record_numbers l span a = l.kind ∷ 0 ∷ l.key ∷ span ∷ numbers a

unfoldable pub header : Label → ℕ → Payload → List ℕ
header l span a = record_bytes type_format (record_numbers l span a)

unfoldable pub encode : CountingType → List ℕ
encode nil = []
encode (node l a children next) = header l (1 + size children) a ++ (encode children ++ encode next)

unfoldable pub sibling_keys : CountingType → List ℕ
sibling_keys nil = []
sibling_keys (node l a children next) = l.key ∷ sibling_keys next

-- the type in records i to end, read by the spans; k bounds the number of records
unfoldable pub decode : Equivalence → List ℕ → ℕ → ℕ → ℕ → CountingType
decode eq b zero i end = nil
decode eq b (suc k) i end =
    elim (ltb i end) [
      | true ↦ let children = decode eq b k (i + 1) (i + type_span b i) in
          node (label_of eq (type_kind b i) (type_key b i) (sibling_keys children)) (type_payload b i) children (decode eq b k (i + type_span b i) end)
      | false ↦ nil
    ]

unfoldable pub type_of : Equivalence → List ℕ → CountingType
type_of eq b = decode eq b (type_records b) 0 (type_records b)

-- An addend has a kind 1 to 6, and its label is its class, which its children tell.
pub record AddendShape (eq : Equivalence) (l : Label) (children : CountingType) : Type 0 where
  pub kind-low : 1 ≤ l.kind
  pub kind-high : l.kind ≤ array_kind
  pub tagged : l ≡ label_of eq l.kind 0 (sibling_keys children)
  pub scalar : l.kind ≤ last_scalar → children ≡ nil

-- f is a union of addends, or (field ≡ true) the run of a record's fields, each with the union of its values
abbrev pub Tagged : Equivalence → Bool → CountingType → Type 0
Tagged eq field nil = Unit {0}
Tagged eq true (node l a children next) = (l ≡ field_label l.key) × Tagged eq false children × Tagged eq true next
Tagged eq false (node l a children next) = AddendShape eq l children × Tagged eq (eqb l.kind record_kind) children × Tagged eq false next
