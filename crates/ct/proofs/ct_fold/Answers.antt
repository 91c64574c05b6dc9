-- `ct_fold` meets its contract: the three numbers are those of the folding, which leaves the same buffers.
use mathlib.Core.Path.{◌∙◌}
use Rattle.answers.specs.Outcomes.{refusal_of}
use Rattle.ct.proofs.Told.{told}
use Rattle.ct.proofs.ct_fold.Goals as goal

pub returns : goal.returns
returns c =
    let answer = told refusal_of (λ _ _ h. h) c.fold.result c.answer_of.result c.answer_of.ensures in
    let k = c.fold in
    (λ i. record { outcome = answer i; arena = k.new.arena; work = k.new.work }) ∙ k.ensures
