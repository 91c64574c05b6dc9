-- `good_at` meets its contract.
use mathlib.Core.Path.{sym, ◌∙◌, ap}
use native.Mathlib.Omega.{arith}
use Rattle.json_theory.specs.Book.{good_record}
use Rattle.key_book.proofs.GoodBook.{bad-record, good-last}
use Rattle.key_book.proofs.validity.good_at.Goals as goal

pub returns-else-good_key : goal.returns-else-good_key
returns-else-good_key c =
    rw c.if-good_key.false
    (bad-record _ _ (omega arith) (sym (ap good_record c.record.ensures.0) ∙ sym c.good_key.ensures ∙ c.if-good_key.false))

pub returns-else-keys-i : goal.returns-else-keys-i
returns-else-keys-i c =
    good-last _ _ c.ascends.result (sym (ap good_record c.record.ensures.0) ∙ sym c.good_key.ensures ∙ c.if-good_key.true) (omega arith)
    c.ascends.ensures
