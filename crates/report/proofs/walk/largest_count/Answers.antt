-- `largest_count` meets its contract: the largest count so far, and of the records left.
use native.Mathlib.Omega.{arith}
use mathlib.Core.Path.{◌≡◌, sym, ap, ◌∙◌}
use Prim.Native.Nat.{◌-◌, max}
use Rattle.counting_theory.specs.Inside.TypeBytes.{type_count}
use Rattle.report.proofs.Largest.{largest-next, largest-done, larger-of}
use Rattle.report.proofs.walk.largest_count.Goals as goal

pub loop-i-init : goal.loop-i-init
loop-i-init c = let e : c.args.n - 0 ≡ c.args.n = omega arith in rw e (omega arith)

pub loop-i-preserved : goal.loop-i-preserved
loop-i-preserved c =
    let l = c.loop-i in
    let e : c.max-largest.result ≡ max l.largest (type_count c.args.b.now l.i) = c.max-largest.ensures ∙ larger-of l.largest c.count_at.result ∙ ap (λ k. max l.largest k) c.count_at.ensures in
    rw e (sym (largest-next c.args.b.now c.args.n l.i l.largest (omega arith)) ∙ l.invariant)

pub returns : goal.returns
returns c = largest-done c.args.b.now c.args.n c.loop-i.i c.loop-i.largest (omega arith) ∙ c.loop-i.invariant
