-- `merge_checked` meets its contract.
use mathlib.Core.Path.{sym, ◌∙◌}
use native.Mathlib.Omega.{arith}
use Rattle.merging.specs.Inside.Merging.{both, merged_bytes, exceeds}
use Rattle.answers.proofs.Fronts.{front-room, front_bytes, front-within, front-total, sets-front}
use Rattle.counting_type.proofs.merge_checked.Goals as goal

pub returns-then-merged : goal.returns-then-merged
unfolding both exceeds
returns-then-merged c = front-total _ _ _ (sym c.merge_types-merged.ensures.seen ∙ c.if-merged.true)

pub returns-then-arena-merged : goal.returns-then-arena-merged
unfolding both merged_bytes exceeds
returns-then-arena-merged c =
    let m = c.merge_types-merged in
    front-within _ _ (sym m.ensures.seen ∙ c.if-merged.false) _ _ (front-room _ _ _ (omega (arith, c.if-arena-merged.true, m.auto.arena, m.ensures.counted)))

pub returns : goal.returns
unfolding both merged_bytes exceeds
returns c =
    let m = c.merge_types-merged in
    rw m.ensures.counted
    (front-within _ _ (sym m.ensures.seen ∙ c.if-merged.false) _ _
    (front_bytes _ _ _ (omega (arith, c.if-arena-merged.false, m.auto.arena, m.ensures.counted))
    (rw m.ensures.bytes (sets-front _ _ (omega (arith, c.if-arena-merged.false, m.auto.arena, m.ensures.counted))))))
