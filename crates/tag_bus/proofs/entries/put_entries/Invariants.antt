-- `put_entries` meets its contract. The loop's invariant: the entries of the records passed stand in the front.
use Prim.Native.Nat.{◌-◌}
use Rattle.tag_bus.proofs.Pass.{Passed}
use Rattle.tag_bus.proofs.entries.put_entries.Given as goal

abbrev pub invariant-loop-i : goal.invariant-loop-i
invariant-loop-i l = Passed l.arena l.n l.initial.entries l.i l.at l.entries

abbrev pub decreases-loop-i : goal.decreases-loop-i
decreases-loop-i l = l.n - l.i
