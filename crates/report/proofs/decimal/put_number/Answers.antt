-- `put_number` meets its contract.
use native.Mathlib.Omega.{arith}
use Rattle.report.specs.Decimal.{digit_count}
use Rattle.report.proofs.Digits.{length_digits}
use Rattle.report.proofs.decimal.put_number.Goals as goal

pub returns : goal.returns
returns c =
    let n = c.args.n in
    let d = c.digit_count.ensures in
    let h = rw d.0 at c.put_digits.ensures in
    (h, omega (arith, h.behind, length_digits (digit_count n) n, d))
