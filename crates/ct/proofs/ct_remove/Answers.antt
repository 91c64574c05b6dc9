-- `ct_remove` meets its contract: the three numbers are those of removal, which leaves the same arena.
use mathlib.Core.Path.{◌∙◌}
use mathlib.Core.List.{[]}
use Rattle.answers.specs.Outcomes.{refusal_of}
use Rattle.ct.proofs.Told.{told}
use Rattle.ct.proofs.ct_remove.Goals as goal

pub returns : goal.returns
returns c =
    let answer = told refusal_of (λ _ _ h. h) c.remove.result c.answer_of.result c.answer_of.ensures in
    (λ i. record { outcome = answer i; arena = c.remove.new.arena; work = [] })
    ∙ c.remove.ensures
