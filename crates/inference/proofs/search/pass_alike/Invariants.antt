-- `pass_alike` meets its contract. The loop's invariant: a sibling, or the end, is where it has come to, and the label is still ahead.
use mathlib.Core.List.{List}
use mathlib.Core.Bool.{Bool}
use Prim.Native.Nat.{ℕ, ◌+◌, ◌-◌, ◌≤◌}
use Rattle.counting_theory.specs.Label.{CountingType}
use Rattle.counting_theory.specs.Encoding.{type_span}
use Rattle.inference.specs.Inside.Inferring.{label_of_wanted, ArenaHolds, Starts, Ahead}
use Rattle.inference.proofs.search.pass_alike.Given as goal

abbrev pub invariant-loop-at : goal.invariant-loop-at
invariant-loop-at l =
    (l.p + type_span l.b l.p ≤ l.at) × ((field : Bool) (rest : ℕ) (f : CountingType) (q free : List ℕ) → ArenaHolds l.wanted.equivalence field l.b l.n rest f q free →
    (Starts l.p f → Starts l.at f) × (Ahead (label_of_wanted l.wanted) f (l.p + type_span l.b l.p) → Ahead (label_of_wanted l.wanted) f l.at))

abbrev pub decreases-loop-at : goal.decreases-loop-at
decreases-loop-at l = l.n - l.at
