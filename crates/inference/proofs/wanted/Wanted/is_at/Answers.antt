-- `is_at` meets its contract. The loop's invariant: the keys before are the same.
use mathlib.Core.Path.{sym, ◌∙◌}
use native.Mathlib.Omega.{arith}
use borrow.Author.Tests.{eqb-true}
use Rattle.counting_theory.proofs.KeyOrder.{both_end}
use Rattle.inference.proofs.InPlace.Compare.{left-start, left-same}
use Rattle.inference.proofs.wanted.Wanted.is_at.Goals as goal

pub loop-i-init : goal.loop-i-init
loop-i-init c =
    let head = rw c.in-Continue.is at c.compare_head.ensures in
    rw head.0 (left-start (c.requires.fields head.1))

pub loop-i-preserved : goal.loop-i-preserved
loop-i-preserved c =
    rw c.span_at-j.ensures.0 (left-same c.loop-i.invariant (omega arith) c.if-j-end.false (omega arith))

pub returns : goal.returns
returns c z =
    let l = c.loop-i.invariant in
    sym (both_end l.comparing (omega (arith, l.most)) (eqb-true _ _ z) ∙ (rw c.in-Continue.is at c.compare_head.ensures).2 _)
