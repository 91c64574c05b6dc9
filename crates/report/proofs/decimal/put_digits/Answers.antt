-- `put_digits` meets its contract: the first d digits are left to store, those of the rest.
use mathlib.Core.Path.{◌≡◌, sym, ap, ◌∙◌}
use Prim.Native.Nat.{ℕ, ◌+◌}
use native.Mathlib.Omega.{arith}
use Rattle.report.specs.Decimal.{digits}
use Rattle.report.proofs.Digits.{length_digits, digit-stored}
use Rattle.report.proofs.decimal.put_digits.Goals as goal

pub loop-d-preserved : goal.loop-d-preserved
loop-d-preserved c =
    let l = c.loop-d in
    digit-stored l.d l.rest l.out c.args.at (omega arith) ∙ l.invariant

pub returns : goal.returns
unfolding digits
returns c =
    let a = c.args in
    let l = c.loop-d in
    let e : l.d ≡ 0 = omega arith in
    record { bytes = rw e at l.invariant; behind = ap (λ (k : ℕ). a.at + k) (sym (length_digits a.count a.n)) }
