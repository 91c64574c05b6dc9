-- `text_end` meets its contract.
use Rattle.std.proofs.lemmas.Result.{err_from_is_err_and}
use Rattle.json_items.proofs.Leads.{string-breaks}
use Rattle.json_items.proofs.Items.{text-reads}
use Rattle.json_items.proofs.item.text_end.Goals as goal

pub returns-in_err-string_end : goal.returns-in_err-string_end
returns-in_err-string_end c =
    let p = err_from_is_err_and c.from_residual.result c.from_residual.ensures.1 in
    rw (p.1, p.2) (λ around. string-breaks around c.in_err-string_end.ensures)

pub returns : goal.returns
returns c = λ around. text-reads _ around c.in_ok-string_end.ensures
