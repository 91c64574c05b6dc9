-- `ascends` meets its contract.
use mathlib.Core.Path.{◌∙◌}
use Rattle.key_book.proofs.GoodBook.{before_from_cmp}
use Rattle.key_book.proofs.validity.ascends.Goals as goal

pub returns : goal.returns
returns c = rw (← c.record.ensures.0, ← c.record-2.ensures.0) (c.is_lt.ensures ∙ before_from_cmp _ _ c.cmp.result c.cmp.ensures)
