-- `is_key` meets its contract.
use mathlib.Core.Path.{sym, ◌∙◌}
use native.Mathlib.Omega.{arith}
use borrow.Author.Tests.{eqb-true}
use Rattle.key_book.proofs.Matching.{comparing-short}
use Rattle.key_book.proofs.same_key.is_key.Goals as goal

pub returns-then-to-from-lt8 : goal.returns-then-to-from-lt8
returns-then-to-from-lt8 c = λ t.
    comparing-short c.args.book.now c.args.i c.args.text.now c.args.from c.args.to
    (λ p. (c.type_inv.text p).fits) (λ p. (c.type_inv.book p).fits) c.requires.0 (omega arith)
    (sym c.short_word.ensures ∙ eqb-true _ _ t ∙ c.number.ensures.0)
