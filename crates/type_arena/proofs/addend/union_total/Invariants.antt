-- `union_total` meets its contract. The loop's invariant: the sum so far and what is left give the total.
use Rattle.std.proofs.Common.{false, length}
use Rattle.counting_theory.specs.declared.equivalence.Equivalence.{Equivalence}
use Rattle.type_arena.specs.Inside.Addend.{Coded}
use Rattle.type_arena.proofs.UnionTotal.{Adding}
use Rattle.type_arena.proofs.addend.union_total.Given as goal

abbrev pub invariant-loop-x : goal.invariant-loop-x
invariant-loop-x l = (e : Equivalence) → Coded e false l.a → Adding e l.a l.x l.sum

abbrev pub decreases-loop-x : goal.decreases-loop-x
decreases-loop-x l = length l.x
