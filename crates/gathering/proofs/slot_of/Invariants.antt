-- `slot_of` meets its contract.
use Prim.Native.Nat.{◌-◌, ◌<◌}
use Rattle.gathering.proofs.slot_of.Given as goal

abbrev pub invariant-loop-j : goal.invariant-loop-j
invariant-loop-j l = l.hash < 4294967296

abbrev pub decreases-loop-j : goal.decreases-loop-j
decreases-loop-j l = l.end - l.j
