-- Change 8 of document 02: a type under label becomes the type under kind. What the call answers and writes, for every input, and what
-- that means.
use Rattle.std.specs.Prelude.{◌≡◌, Bool, false, cond, not, ◌||◌, List, ℕ, ◌≤◌, eqb, length}
use Rattle.byte_records.specs.Number.{Bytes}
use Rattle.counting_theory.specs.declared.equivalence.Equivalence.TheVariants.{Kind as by_kind, Label as by_label}
use Rattle.counting_theory.specs.Encoding.{type_records, type_of}
use Rattle.counting_theory.specs.WellFormed.{well_formed, bad_type_length}
use Rattle.counting_theory.specs.Answers.{equivalence_number, Written, turned_down, judged_type, inferred, merged_types, merged, largest_arena}
use Rattle.counting_theory.specs.Ways.{Accepted}
use Rattle.folding.specs.Fold.{kind_type}

-- 1: a type or an arena of a wrong length, or a working buffer that is not as long as the arena
abbrev pub bad_fold_lengths : ℕ → ℕ → ℕ → Bool
bad_fold_lengths type arena work = bad_type_length type || bad_type_length arena || not (eqb work arena)

-- The call: 1, 8, then 10 and 11 as in a merge.
unfoldable pub folded : List ℕ → ℕ → ℕ → Written
folded b arena work =
    cond (bad_fold_lengths (length b) arena work) (turned_down 1 0)
    (cond (not (well_formed by_label b)) (turned_down 8 0)
    (merged_types (kind_type (type_of by_label b)) arena))

-- the call on an arena of n bytes and a working buffer as long
abbrev pub folded_in : ℕ → List ℕ → Written
folded_in n b = folded b n n

abbrev pub IsAccepted : Written → Type 0
IsAccepted w = w.outcome.number ≡ 0

-- Folding the label type of an accepted table does what inference under kind does with the same arena, 11 included; m is the arena of
-- the label type.
abbrev pub FoldsInferred : Type 0
FoldsInferred = (table : List ℕ) (m n : ℕ) → Accepted table → IsAccepted (inferred table (equivalence_number by_label) m m) → bad_type_length n ≡ false →
    folded_in n (inferred table (equivalence_number by_label) m m).bytes ≡ inferred table (equivalence_number by_kind) n n

-- Two types under label are merged, and folded, with arenas that are large enough: each within the limit on totals.
pub record Foldable (first second : List ℕ) : Type 0 where
  pub first-bytes : Bytes first
  pub second-bytes : Bytes second
  pub merges : IsAccepted (merged first second (equivalence_number by_label) largest_arena)
  pub first-folds : IsAccepted (folded_in largest_arena first)
  pub second-folds : IsAccepted (folded_in largest_arena second)

-- Folding their merge does what merging the folded types under kind does, 10 and 11 included.
abbrev pub FoldsMerged : Type 0
FoldsMerged = (first second : List ℕ) (n : ℕ) → Foldable first second → bad_type_length n ≡ false →
    folded_in n (merged first second (equivalence_number by_label) largest_arena).bytes
    ≡ merged (folded_in largest_arena first).bytes (folded_in largest_arena second).bytes (equivalence_number by_kind) n

-- where the merge folds within the limit, so do its parts
abbrev pub PartsFold : Type 0
PartsFold = (first second : List ℕ) → Bytes first → Bytes second → IsAccepted (merged first second (equivalence_number by_label) largest_arena) →
    IsAccepted (folded_in largest_arena (merged first second (equivalence_number by_label) largest_arena).bytes) → Foldable first second

-- The folded type has no more records than the type under label, and call 4 accepts it under kind.
pub record FoldedType (b : List ℕ) (w : Written) : Type 0 where
  pub no_more : w.outcome.count ≤ type_records b
  pub formed : judged_type w.bytes (equivalence_number by_kind) ≡ w.outcome

abbrev pub FoldsToType : Type 0
FoldsToType = (b : List ℕ) (n : ℕ) → Bytes b → IsAccepted (folded_in n b) → FoldedType b (folded_in n b)
