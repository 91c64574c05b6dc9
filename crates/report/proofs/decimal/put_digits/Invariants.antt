-- `put_digits` meets its contract: the first d digits are left to store, those of the rest.
use mathlib.Core.Path.{◌≡◌}
use lib.Seq.{sets}
use Rattle.report.specs.Decimal.{digits}
use Rattle.report.proofs.decimal.put_digits.Given as goal

abbrev pub invariant-loop-d : goal.invariant-loop-d
invariant-loop-d l = sets l.out l.at (digits l.d l.rest) ≡ sets l.initial.out l.at (digits l.count l.n)
