-- `good_book` meets its contract.
use mathlib.Core.Path.{◌≡◌}
use mathlib.Core.Bool.{true}
use Prim.Native.Nat.{◌/◌}
use lib.ListN.{length}
use native.Mathlib.Omega.{arith}
use borrow.Author.Rules.{rules}
use borrow.Author.Tests.{tests}
use Rattle.json_theory.specs.Book.{bad_book}
use Rattle.key_book.specs.Inside.Records.{Fine}
use Rattle.std.proofs.lemmas.Iterator.{YieldsList-from_range, cases_from_all}
use Rattle.key_book.proofs.GoodBook.{book-judged}
use Rattle.key_book.proofs.validity.good_book.Goals as goal

pub returns : goal.returns
returns c =
    let b = c.args.book.now in
    let keys = length b / 32 in
    book-judged b c.all.result
    (cases_from_all _ _ c.all.result (Fine b) (λ i. bad_book b ≡ true) c.all.ensures.ran (YieldsList-from_range 0 keys keys (cc) (omega arith))
    (λ i q k. search (rules, tests)) (λ i q k. search (rules, tests)))
