-- Removal on bytes, as the code goes about it: what is left of a run and of a first addend, and what is stored.
use Rattle.std.specs.Prelude.{◌≡◌, Bool, true, false, cond, ◌&&◌, List, ◌++◌, ℕ, ◌+◌, ◌≤◌, length}
use Rattle.std.proofs.Math.Option.{Option, none, some}
use Rattle.std.proofs.lemmas.List.Edits.{sets}
use Rattle.counting_theory.specs.Trie.{nil}
use Rattle.counting_theory.specs.declared.equivalence.Equivalence.{Equivalence}
use Rattle.counting_theory.specs.declared.equivalence.Equivalence.TheVariants.{Kind as by_kind}
use Rattle.removal_theory.specs.Label.{Counting, CountingType}
use Rattle.removal_theory.specs.Encoding.{type_payload, encode, type_of}
use Rattle.counting_theory.specs.WellFormed.{max_total}
use Rattle.removal_theory.specs.WellFormed.{fields_of, field_counts}
use Rattle.type_arena.specs.declared.level.Level.{Level}
use Rattle.removal_arena.specs.Inside.Arena.{label_at}
use Rattle.removal_arena.specs.Inside.Addend.{front, body, Coded}
use Rattle.removal_arena.specs.Inside.Runs.{TypeRun}
use Rattle.std.specs.declared.option.Option as code
use Rattle.std.specs.declared.option.Option.TheVariants.{Some, None}
use Rattle.std.specs.Option.{unwrap_or}
use Rattle.removal.specs.Difference.{taken_node, difference}
use Rattle.removal.specs.Removed.{taken}

-- x is a run of records
pub record Run (x : List ℕ) : Type 0 where
  pub equivalence : Equivalence
  pub field : Bool
  pub coded : Coded equivalence field x

-- a run of the whole, with the most that a count of what is left may be: at a union the limit on totals, which no count passes
pub record WholeRun (level : Level) (limit : ℕ) (x : List ℕ) : Type 0 where
  pub run : TypeRun level x
  pub fields : field_counts by_kind (type_of level.equivalence x) ≡ true
  pub limited : level.field ≡ false → limit ≡ max_total

-- no count of siblings passes the limit, and inside no field's passes its record's
abbrev pub keeps_counts : ℕ → CountingType → Bool
keeps_counts limit f = fields_of by_kind limit f && field_counts by_kind f

-- the bytes of a difference, if it is there and keeps the counts
unfoldable pub bytes_left : ℕ → Option CountingType → Option (List ℕ)
bytes_left limit none = none
bytes_left limit (some f) = cond (keeps_counts limit f) (some (encode f)) none

-- what is left of run x when run y is taken out
unfoldable pub run_left : Equivalence → ℕ → List ℕ → List ℕ → Option (List ℕ)
run_left e limit x y = bytes_left limit (difference Counting taken (type_of e x) (type_of e y))

-- what is left of the first addend of x when that of y, which has its label, is taken out
unfoldable pub addend_left : Equivalence → ℕ → List ℕ → List ℕ → Option (List ℕ)
addend_left e limit x y =
    bytes_left limit
    (taken_node (taken (type_payload x 0) (type_payload y 0)) (label_at e x 0) (difference Counting taken (type_of e (body x)) (type_of e (body y))) (some nil))

-- one after the other, where both are there
unfoldable pub followed : Option (List ℕ) → Option (List ℕ) → Option (List ℕ)
followed none o = none
followed (some a) none = none
followed (some a) (some b) = some (a ++ b)

-- out with the bytes stored from byte k on, and where they end
unfoldable pub placed : List ℕ → ℕ → Option (List ℕ) → Option (List ℕ × ℕ)
placed out k none = none
placed out k (some b) = some (sets out k b, k + length b)

-- the code's answer for a run that is stored from byte k on
unfoldable pub remainder_at : code.Option ℕ → List ℕ → ℕ → Option (List ℕ × ℕ)
remainder_at (Some n) out k = some (out, k + n)
remainder_at None out k = none

-- what is left of the first addend of x by that of y is stored from byte k on, and is no longer than it
pub record AddendRemoved (e : Equivalence) (limit : ℕ) (x y out₀ : List ℕ) (k : ℕ) (out : List ℕ) (removed : code.Option ℕ) : Type 0 where
  pub room : unwrap_or removed 0 ≤ length (front x)
  pub left : remainder_at removed out k ≡ placed out₀ k (addend_left e limit x y)
