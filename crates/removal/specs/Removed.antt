-- Change 3 of document 02: a part is taken out of a whole. What the call answers and writes, for every input, and what that means.
use Rattle.std.specs.Prelude.{◌≡◌, true, false, cond, not, ◌||◌, List, ◌↔◌, ltb, length}
use Rattle.std.proofs.Math.Option.{Option, none, some}
use Prim.Native.Nat.Ordering.{eq}
use Prim.Native.Nat.Ordering.{gt}
use Prim.Native.Nat.Ordering.{lt}
use Prim.Native.Nat.{ℕ, ◌-◌, ◌≤◌, compare, Ordering}
use Rattle.byte_records.specs.Number.{Bytes}
use Rattle.value_table.specs.Outcome.{accepted}
use Rattle.removal_theory.specs.Payload.{Payload}
use Rattle.counting_theory.specs.declared.equivalence.Equivalence.{Equivalence}
use Rattle.removal_theory.specs.Label.{Counting, CountingType}
use Rattle.removal_theory.specs.Encoding.{type_records, type_of}
use Rattle.removal_theory.specs.WellFormed.{field_counts, well_formed, bad_type_length}
use Rattle.counting_theory.specs.Answers.{equivalence_of, equivalence_number, Written, turned_down}
use Rattle.removal_theory.specs.Answers.{stored, largest_arena, merged}
use Rattle.removal.specs.Difference.{Taken, short, gone, left, difference}

-- what is left of a count from which another is taken
unfoldable pub taken_by : Ordering → ℕ → Taken Payload
taken_by lt n = short
taken_by eq n = gone
taken_by gt n = left (record { count = n })

unfoldable pub taken : Payload → Payload → Taken Payload
taken a b = taken_by (compare a.count b.count) (a.count - b.count)

-- the difference, if it keeps the rule for the counts of fields: under kind a field's may pass its record's
abbrev pub keeping_fields : Equivalence → Option CountingType → Option CountingType
keeping_fields e none = none
keeping_fields e (some f) = cond (field_counts e f) (some f) none

unfoldable pub removed_type : Equivalence → (whole part : CountingType) → Option CountingType
removed_type e whole part = keeping_fields e (difference Counting taken whole part)

-- The call: 1, 2, 8, 9, 16, 11. n is the arena's length.
abbrev pub removed_types : Option CountingType → ℕ → Written
removed_types none n = turned_down 16 0
removed_types (some f) n = stored n f

abbrev pub removed_under : Option Equivalence → List ℕ → List ℕ → ℕ → Written
removed_under none whole part n = turned_down 2 0
removed_under (some e) whole part n =
    cond (not (well_formed e whole)) (turned_down 8 0)
    (cond (not (well_formed e part)) (turned_down 9 0)
    (removed_types (removed_type e (type_of e whole) (type_of e part)) n))

unfoldable pub removed : List ℕ → List ℕ → ℕ → ℕ → Written
removed whole part equivalence arena =
    cond (bad_type_length (length whole) || bad_type_length (length part) || bad_type_length arena) (turned_down 1 0)
    (removed_under (equivalence_of equivalence) whole part arena)

-- the bytes b are accepted as a type, with all its records
abbrev pub writes : List ℕ → Written
writes b = record { outcome = accepted (type_records b); bytes = b }

-- the type of bytes b, merged with the part, gives the whole
abbrev pub MergesTo : Equivalence → List ℕ → List ℕ → List ℕ → Type 0
MergesTo e b part whole = merged b part (equivalence_number e) largest_arena ≡ writes whole

-- whole and part are well-formed types, and n is a length that an arena may have
pub record Removable (e : Equivalence) (whole part : List ℕ) (n : ℕ) : Type 0 where
  pub whole-bytes : Bytes whole
  pub part_bytes : Bytes part
  pub whole_length : bad_type_length (length whole) ≡ false
  pub part_length : bad_type_length (length part) ≡ false
  pub arena-length : bad_type_length n ≡ false
  pub whole-formed : well_formed e whole ≡ true
  pub part-formed : well_formed e part ≡ true

-- there is at most one type which, merged with the part, gives the whole
abbrev pub AtMostOne : Type 0
AtMostOne = (e : Equivalence) (a b part whole : List ℕ) → Bytes a → Bytes b → Bytes part → MergesTo e a part whole → MergesTo e b part whole → a ≡ b

-- The call gives that type, unless it has more records than the arena; and it is 16 exactly when there is none.
abbrev pub GivesDifference : Type 0
GivesDifference = (e : Equivalence) (whole part : List ℕ) (n : ℕ) → Removable e whole part n →
    (b : List ℕ) → Bytes b → MergesTo e b part whole →
    removed whole part (equivalence_number e) n ≡ cond (ltb n (length b)) (turned_down 11 0) (writes b)

abbrev pub RefusesExactly : Type 0
RefusesExactly = (e : Equivalence) (whole part : List ℕ) (n : ℕ) → Removable e whole part n →
    (removed whole part (equivalence_number e) n ≡ turned_down 16 0) ↔ ((b : List ℕ) → Bytes b → ¬ MergesTo e b part whole)

-- Removing one part of a merge brings back the other's bytes, where the arena, of n bytes, holds them; m is that of the merge.
pub record BackAgain (e : Equivalence) (first second : List ℕ) (m n : ℕ) : Type 0 where
  pub without-second : length first ≤ n → removed (merged first second (equivalence_number e) m).bytes second (equivalence_number e) n ≡ writes first
  pub without-first : length second ≤ n → removed (merged first second (equivalence_number e) m).bytes first (equivalence_number e) n ≡ writes second

abbrev pub MergeUndone : Type 0
MergeUndone = (e : Equivalence) (first second : List ℕ) (m n : ℕ) → Bytes first → Bytes second →
    (merged first second (equivalence_number e) m).outcome.number ≡ 0 → bad_type_length n ≡ false → BackAgain e first second m n
