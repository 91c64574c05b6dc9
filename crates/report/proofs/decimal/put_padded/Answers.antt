-- `put_padded` meets its contract: the spaces, then the digits.
use native.Mathlib.Omega.{arith}
use Prim.Native.Nat.{ℕ, ◌-◌}
use lib.ListN.{length-replicate}
use Rattle.report.specs.Decimal.{digit_count}
use Rattle.report.proofs.Digits.{length_digits}
use Rattle.report.proofs.Storing.{stored-then}
use Rattle.report.proofs.decimal.put_padded.Goals as goal

pub put_digits-requires : goal.put_digits-requires
put_digits-requires c = let d = c.digit_count-count.ensures in omega (arith, d, c.saturating_sub.ensures, length-replicate {A = ℕ} c.saturating_sub.result 32, c.put_spaces-p.ensures.behind, c.requires)

pub returns : goal.returns
returns c =
    let n = c.args.n in
    let d = c.digit_count-count.ensures in
    let w = c.saturating_sub.ensures in
    let g = rw (w, d.0) at c.put_spaces-p.ensures in
    let h = rw d.0 at c.put_digits.ensures in
    (stored-then g h, omega (arith, g.behind, h.behind, length-replicate {A = ℕ} (c.args.width - digit_count n) 32, length_digits (digit_count n) n, d))
