-- `count_values` meets its contract.
use mathlib.Core.Path.{◌≡◌}
use mathlib.Core.Bool.{false}
use Prim.Native.Nat.{◌-◌, ◌/◌, ◌≤◌}
use lib.ListN.{length}
use Rattle.value_table.specs.Value.{record_size, Values}
use Rattle.inference.specs.Inside.Inferring.{TableRun}
use Rattle.inference.proofs.InPlace.Elements.{Passed}
use Rattle.inference.proofs.elements.count_values.Given as goal

abbrev pub invariant-loop-i : goal.invariant-loop-i
invariant-loop-i l = (l.end ≡ length l.t / record_size) × (l.n ≤ l.i) × ((vs : Values) → TableRun false l.t vs → Passed l.t vs l.i l.n)

abbrev pub decreases-loop-i : goal.decreases-loop-i
decreases-loop-i l = l.end - l.i
