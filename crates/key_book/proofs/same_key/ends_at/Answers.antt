-- `ends_at` meets its contract.
use mathlib.Core.Path.{◌∙◌}
use borrow.Author.Tests.{eqb-true}
use Rattle.key_book.proofs.GoodBook.{record-byte}
use Rattle.key_book.proofs.same_key.ends_at.Goals as goal

pub returns-else-n-eq-SIZE : goal.returns-else-n-eq-SIZE
returns-else-n-eq-SIZE c = λ e l. record-byte c.args.book.now c.args.i c.args.n l ∙ eqb-true _ _ e
