-- `ct_judge_table` meets its contract: the three numbers are those of the judgement, which is the one that the table has.
use mathlib.Core.Path.{◌∙◌}
use Rattle.value_table.specs.Outcome.{refusal_of}
use Rattle.ct.proofs.Told.{told}
use Rattle.ct.proofs.ct_judge_table.Goals as goal

pub returns : goal.returns
returns c = told refusal_of (λ _ _ h. h) c.judge.result c.answer_of.result c.answer_of.ensures ∙ c.judge.ensures
