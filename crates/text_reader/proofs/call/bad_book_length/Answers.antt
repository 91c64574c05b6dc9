-- `bad_book_length` meets its contract.
use borrow.Author.Tests.{eq-eqb, ne_eqb}
use Rattle.json_theory.specs.Book.{bad_book_length}
use Rattle.text_reader.proofs.call.bad_book_length.Goals as goal

pub returns-then-n-ne0 : goal.returns-then-n-ne0
unfolding bad_book_length
returns-then-n-ne0 c = simp (ne_eqb _ _ c.if-n-ne0.true)

pub returns-else-n-ne0 : goal.returns-else-n-ne0
unfolding bad_book_length
returns-else-n-ne0 c = simp (eq-eqb _ _ c.if-n-ne0.false)
