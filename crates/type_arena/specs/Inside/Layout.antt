-- Type records of any layout, by their size and by how their fields are read: the fields inside a record, its label, and the parts of a run.
use Rattle.std.specs.Prelude.{◌≡◌, ℕ, zero, suc, ◌+◌, ◌-◌, ◌*◌, ◌≤◌, true, false, List, [], ◌∷◌, length, nat_lt}
use Rattle.value_table.specs.Value.{record_kind}
use Rattle.byte_records.specs.Inside.Chain.{Chain}
use Rattle.counting_theory.specs.Label.{Label, label_of}
use Rattle.counting_theory.specs.declared.equivalence.Equivalence.{Equivalence}

-- how a field of record i of b is read
abbrev pub Reader : Type 0
Reader = List ℕ → ℕ → ℕ

-- the keys of the fields in records i to end; k bounds their number
unfoldable pub keys_by : (key span : Reader) → List ℕ → ℕ → ℕ → ℕ → List ℕ
keys_by key span b zero i end = []
keys_by key span b (suc k) i end =
    elim (nat_lt i end) [
      | true ↦ key b i ∷ keys_by key span b k (i + span b i) end
      | false ↦ []
    ]

-- the keys of the fields inside record p, and its label
abbrev pub keys_inside : (key span : Reader) → List ℕ → ℕ → List ℕ
keys_inside key span b p = keys_by key span b (span b p - 1) (p + 1) (p + span b p)

unfoldable pub label_by : (kind key span : Reader) → Equivalence → List ℕ → ℕ → Label
label_by kind key span e b p = label_of e (kind b p) (key b p) (keys_inside key span b p)

-- the fields inside the record at p, which has been checked
pub record FieldsBy (size : ℕ) (key span : Reader) (b : List ℕ) (p : ℕ) : Type 0 where
  pub keys : List ℕ
  pub chain : Chain (span b) (key b) (p + span b p) (p + 1) keys
  pub within : size * (p + span b p) ≤ length b

-- record p stands in b, with what its label is read from
pub record LabelledBy (size : ℕ) (kind key span : Reader) (b : List ℕ) (p : ℕ) : Type 0 where
  pub whole : size * p + size ≤ length b
  pub fields : kind b p ≡ record_kind → FieldsBy size key span b p
