-- `same_word` meets its contract.
use mathlib.Core.Path.{sym, ◌∙◌}
use borrow.Author.Tests.{eqb-true}
use Rattle.key_book.proofs.same_key.same_word.Goals as goal

pub returns : goal.returns
returns c = λ e. sym c.number.ensures.0 ∙ eqb-true _ _ e ∙ c.number-2.ensures.0
