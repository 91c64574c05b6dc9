-- `ct_read_text` meets its contract: the three numbers are those of the reading, which leaves the same table.
use mathlib.Core.Path.{◌∙◌}
use Rattle.text_reader.specs.Answer.{refusal_of_text}
use Rattle.ct.proofs.Told.{told}
use Rattle.ct.proofs.ct_read_text.Goals as goal

pub returns : goal.returns
returns c =
    let answer = told refusal_of_text (λ _ _ h. h) c.read_text.result c.answer_of.result c.answer_of.ensures in
    let k = c.read_text in
    (λ i. record { outcome = answer i; table = k.new.table }) ∙ k.ensures
