-- `gather` meets its contract.
use Prim.Native.Nat.{◌-◌, ◌≤◌}
use Rattle.gathering.specs.Inside.Gathering.{slots_of, Gathering}
use Rattle.gathering.proofs.Source.gather.Given as goal

abbrev pub invariant-loop-i : goal.invariant-loop-i
invariant-loop-i l =
    Gathering l.self.equivalence l.self.table.now l.a l.m l.i (slots_of l.slots) × (l.i ≤ l.end)

abbrev pub decreases-loop-i : goal.decreases-loop-i
decreases-loop-i l = l.end - l.i
