-- `fold_addend` and `fold_run` meet their contracts.
use mathlib.Core.Path.{◌≡◌}
use mathlib.Core.List.{List}
use Prim.Native.Nat.{ℕ, ◌+◌, ◌*◌, ◌≤◌}
use lib.ListN.{length}
use Rattle.counting_theory.specs.Label.{CountingType}
use Rattle.counting_theory.specs.declared.equivalence.Equivalence.TheVariants.{Kind as by_kind}
use Rattle.inference.specs.Inside.Inferring.{ArenaHolds, Starts}
use Rattle.folding.proofs.OnBytes.RunAdded.{RanTo}
use Rattle.folding.proofs.pass.+fold_addend_fold_run.Given as goal

abbrev pub decreases-fold_addend : goal.decreases-fold_addend
decreases-fold_addend l = 2 * length l.x.now

abbrev pub decreases-fold_run : goal.decreases-fold_run
decreases-fold_run l = 2 * length l.x.now + 1

abbrev pub invariant-fold_run-loop-y : goal.invariant-fold_run-loop-y
invariant-fold_run-loop-y l =
    (length l.a ≡ length l.initial.a) × (length l.y ≤ length l.x)
    × ((f : CountingType) (q free : List ℕ) → ArenaHolds by_kind l.field l.initial.a l.n l.rest f q free → Starts l.start f → RanTo l.field l.x f q l.a l.y l.last l.low)

abbrev pub decreases-fold_run-loop-y : goal.decreases-fold_run-loop-y
decreases-fold_run-loop-y l = length l.y
