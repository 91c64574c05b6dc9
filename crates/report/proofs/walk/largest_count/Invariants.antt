-- `largest_count` meets its contract: the largest count so far, and of the records left.
use mathlib.Core.Path.{◌≡◌}
use Prim.Native.Nat.{◌-◌, max}
use Rattle.report.specs.Inside.Walk.{largest_from}
use Rattle.report.proofs.walk.largest_count.Given as goal

abbrev pub invariant-loop-i : goal.invariant-loop-i
invariant-loop-i l = max l.largest (largest_from l.b (l.n - l.i) l.i) ≡ largest_from l.b l.n 0
