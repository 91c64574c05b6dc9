-- `passes` meets its contract. The loop's invariant: no count so far is above the limit.
use mathlib.Core.Bool.{Bool}
use lib.ListN.{length}
use Rattle.counting_theory.specs.declared.equivalence.Equivalence.{Equivalence}
use Rattle.removal_arena.specs.Inside.Addend.{Coded}
use Rattle.removal.proofs.CountLimit.{Seeking}
use Rattle.removal.proofs.pass.passes.Given as goal

abbrev pub invariant-loop-x : goal.invariant-loop-x
invariant-loop-x l = (e : Equivalence) (field : Bool) → Coded e field l.a → Seeking e field l.limit l.a l.x

abbrev pub decreases-loop-x : goal.decreases-loop-x
decreases-loop-x l = length l.x
