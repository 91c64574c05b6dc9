-- `judge_type` meets its contract.
use mathlib.Core.Path.{sym, ◌∙◌}
use Rattle.std.proofs.lemmas.Result.{err_from_is_err_and}
use Rattle.counting_theory.specs.Answers.{judged_type}
use Rattle.counting_type.proofs.judge_type.Goals as goal

pub returns-then-bad_length : goal.returns-then-bad_length
unfolding judged_type
returns-then-bad_length c = simp (sym c.bad_length.ensures ∙ c.if-bad_length.true)

pub returns-in_err-try_from : goal.returns-in_err-try_from
unfolding judged_type
returns-in_err-try_from c =
    let p = err_from_is_err_and c.from_residual.result c.from_residual.ensures.1 in
    rw (p.1, p.2) (simp (sym c.bad_length.ensures ∙ c.if-bad_length.false, c.in_err-try_from.ensures))

pub returns-then-not-well_formed : goal.returns-then-not-well_formed
unfolding judged_type
returns-then-not-well_formed c = simp (sym c.bad_length.ensures ∙ c.if-bad_length.false, c.in_ok-try_from.ensures, sym c.well_formed-2.ensures ∙ c.if-not-well_formed.true)

pub returns : goal.returns
unfolding judged_type
returns c = simp (sym c.bad_length.ensures ∙ c.if-bad_length.false, c.in_ok-try_from.ensures, sym c.well_formed-2.ensures ∙ c.if-not-well_formed.false)
