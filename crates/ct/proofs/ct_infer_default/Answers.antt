-- `ct_infer_default` meets its contract: the three numbers are those of the inference, which leaves the same buffers.
use mathlib.Core.Path.{◌∙◌}
use Rattle.answers.specs.Outcomes.{refusal_of}
use Rattle.ct.proofs.Told.{told}
use Rattle.ct.proofs.ct_infer_default.Goals as goal

pub returns : goal.returns
returns c =
    let answer = told refusal_of (λ _ _ h. h) c.infer_default.result c.answer_of.result c.answer_of.ensures in
    let k = c.infer_default in
    (λ i. record { outcome = answer i; arena = k.new.arena; work = k.new.work }) ∙ k.ensures
