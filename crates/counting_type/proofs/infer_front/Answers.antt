-- `infer_front` meets its contract.
use mathlib.Core.Path.{◌≡◌, refl, sym, ◌∙◌}
use mathlib.Core.Bool.{false, true≢false}
use lib.ListN.{length}
use Rattle.std.proofs.lemmas.Result.{err_from_is_err_and}
use Rattle.value_table.proofs.Acceptance.{accepts}
use Rattle.counting_theory.specs.Answers.{bad_buffers, inferred}
use Rattle.answers.specs.declared.Refusal.TheVariants.{Length, Equivalence}
use Rattle.answers.specs.Outcomes.{refusal_of_table}
use Rattle.answers.proofs.Fronts.{front-refused, refused-from}
use Rattle.inference.proofs.InPlace.AddItem.{added_full, added-records}
use Rattle.counting_type.proofs.Buffers.{allowed-buffers}
use Rattle.counting_type.proofs.InferredFront.{inferred-room, inferred-stored}
use Rattle.counting_type.proofs.infer_front.Goals as goal
use Rattle.counting_type.proofs.infer_front.Goals.{Else-bad_buffers}

pub returns-then-bad_buffers : goal.returns-then-bad_buffers
unfolding inferred
returns-then-bad_buffers c = front-refused Length _ (rw (sym c.bad_buffers.ensures ∙ c.if-bad_buffers.true) refl)

allowed : (c : goal.Else-bad_buffers) → bad_buffers (length c.args.table.now) (length c.args.arena.now) (length c.args.work.now) ≡ false
allowed c = sym c.bad_buffers.ensures ∙ c.if-bad_buffers.false

pub returns-in_err-equivalence : goal.returns-in_err-equivalence
unfolding inferred
returns-in_err-equivalence c =
    let p = err_from_is_err_and c.from_residual.result c.from_residual.ensures.1 in
    rw (p.1, p.2) (front-refused Equivalence _ (rw (allowed (goal.at.returns-in_err-equivalence c).Else-bad_buffers, c.in_err-equivalence.ensures) refl))

pub returns-in_err-judge : goal.returns-in_err-judge
unfolding inferred
returns-in_err-judge c =
    let p = err_from_is_err_and c.from_residual-in_err-judge.result c.from_residual-in_err-judge.ensures.1 in
    let error = c.in_err-judge.field-0.0 in
    rw (p.1, p.2) (front-refused (refusal_of_table error) _
    (rw (allowed (goal.at.returns-in_err-judge c).Else-bad_buffers, c.in_ok-equivalence.ensures, ← c.in_err-judge.ensures) (refused-from error _ _ _)))

-- key lists don't come from words
pub add_messages-requires : goal.add_messages-requires
add_messages-requires c =
    let l = allowed-buffers (length c.args.table.now) (length c.args.arena.now) (length c.args.work.now) (allowed (goal.at.add_messages-requires c).Else-bad_buffers) in
    (record { count = _; is-table = (accepts _ _ (λ p. (c.type_inv.table p).fits)).0 (sym c.in_ok-judge.ensures) }, l.0, l.1, record { upto = λ e. absurd (true≢false (sym e)) })

pub returns-in_err-add_messages : goal.returns-in_err-add_messages
unfolding inferred
returns-in_err-add_messages c =
    let p = err_from_is_err_and c.from_residual-in_err-add_messages.result c.from_residual-in_err-add_messages.ensures.1 in
    let k = c.add_messages in
    rw (p.1, p.2, allowed (goal.at.returns-in_err-add_messages c).Else-bad_buffers, c.in_ok-equivalence.ensures, ← c.in_ok-judge.ensures)
    (inferred-room _ _ _ k.auto.a (added_full _ _ _ _ _ _ c.in_err-add_messages.was k.ensures))

pub returns : goal.returns
unfolding inferred
returns c =
    let k = c.add_messages in
    rw (allowed (goal.at.returns c).Else-bad_buffers, c.in_ok-equivalence.ensures, ← c.in_ok-judge.ensures)
    (inferred-stored _ _ _ k.auto.a _ (added-records _ _ _ _ _ _ c.in_ok-add_messages.was k.ensures))
