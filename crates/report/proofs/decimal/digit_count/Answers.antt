-- `digit_count` meets its contract: d divisions are done, and those of the rest are to come.
use mathlib.Core.Path.{◌≡◌, refl}
use Prim.Native.Nat.{ℕ, ◌≤◌}
use borrow.Author.Rules.{rules}
use native.Mathlib.Omega.{arith}
use Rattle.counting_theory.specs.WellFormed.{max_total}
use Rattle.report.specs.Decimal.{divisions, digit_count}
use Rattle.report.specs.Inside.Room.{max_digits}
use Rattle.report.proofs.Digits.{division, first-division, one-digit, digits-at-most}
use Rattle.report.proofs.decimal.digit_count.Goals as goal

few : (n : ℕ) → n ≤ max_total → digit_count n ≤ max_digits
few n h = digits-at-most n max_digits (omega arith) (omega arith)

pub loop-rest-init : goal.loop-rest-init
loop-rest-init c = first-division c.args.n

pub overflow_add-d : goal.overflow_add-d
overflow_add-d c = omega (arith, c.loop-rest.invariant, few c.args.n (search rules))

pub loop-rest-preserved : goal.loop-rest-preserved
loop-rest-preserved c = let l = c.loop-rest in omega (arith, l.invariant, division l.rest (omega arith))

pub returns : goal.returns
unfolding divisions
returns c =
    let l = c.loop-rest in
    let n = c.args.n in
    let e : l.rest ≡ 0 = omega arith in
    let none : divisions l.rest l.rest ≡ 0 = rw e refl in
    let all : l.d ≡ digit_count n = omega (arith, l.invariant, none) in
    (all, omega (arith, one-digit n), omega (arith, few n (search rules)))
