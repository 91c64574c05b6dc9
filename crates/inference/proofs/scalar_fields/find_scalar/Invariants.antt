-- `find_scalar` meets its contract.
use mathlib.Core.List.{List}
use mathlib.Core.Bool.{false}
use Prim.Native.Nat.{ℕ, ◌-◌}
use Rattle.counting_theory.specs.Label.{CountingType}
use Rattle.inference.specs.Inside.Inferring.{ArenaHolds}
use Rattle.inference.specs.Inside.ScalarFields.{plain}
use Rattle.inference.proofs.InPlace.Scalars.{Begun}
use Rattle.inference.proofs.scalar_fields.find_scalar.Given as goal
use Rattle.counting_theory.specs.declared.equivalence.Equivalence.{Equivalence}

abbrev pub invariant-loop-at : goal.invariant-loop-at
invariant-loop-at l = (e : Equivalence) (rest : ℕ) (f : CountingType) (q free : List ℕ) → ArenaHolds e false l.b l.n rest f q free → Begun e l.b l.n (plain e l.kind 0) f l.at

abbrev pub decreases-loop-at : goal.decreases-loop-at
decreases-loop-at l = l.n - l.at
