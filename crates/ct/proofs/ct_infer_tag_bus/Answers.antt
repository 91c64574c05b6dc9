-- `ct_infer_tag_bus` meets its contract: the three numbers are those of the inference, which leaves the same buffers.
use mathlib.Core.Path.{◌∙◌}
use Rattle.answers.specs.Outcomes.{refusal_of}
use Rattle.ct.proofs.Told.{told}
use Rattle.ct.proofs.ct_infer_tag_bus.Goals as goal

pub returns : goal.returns
returns c =
    let answer = told refusal_of (λ _ _ h. h) c.infer_tag_bus.result c.answer_of.result c.answer_of.ensures in
    let k = c.infer_tag_bus in
    (λ i. record {
      left = record { outcome = answer i; arena = k.new.arena; work = k.new.work };
      entries = k.new.entries;
    })
    ∙ k.ensures
