-- `digit_count` meets its contract: d divisions are done, and those of the rest are to come.
use mathlib.Core.Path.{◌≡◌}
use Prim.Native.Nat.{◌+◌}
use Rattle.report.specs.Decimal.{divisions, digit_count}
use Rattle.report.proofs.decimal.digit_count.Given as goal

abbrev pub invariant-loop-rest : goal.invariant-loop-rest
invariant-loop-rest l = digit_count l.n ≡ l.d + divisions l.rest l.rest

abbrev pub decreases-loop-rest : goal.decreases-loop-rest
decreases-loop-rest l = l.rest
