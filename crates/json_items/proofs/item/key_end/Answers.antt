-- `key_end` meets its contract.
use Rattle.std.proofs.Common.{arith}
use Rattle.std.proofs.lemmas.Result.{err_from_is_err_and}
use Rattle.json_items.proofs.Items.{named-found, named-unlisted, named-escaped, named-faulty}
use Rattle.json_items.proofs.Keys.{goes-filled}
use Rattle.json_items.proofs.item.key_end.Goals as goal

pub returns-in_err-quote : goal.returns-in_err-quote
returns-in_err-quote c =
    let p = err_from_is_err_and c.from_residual.result c.from_residual.ensures.1 in
    rw (p.1, p.2) (named-faulty _ _ _ _ c.requires.0 c.in_err-quote.ensures)

pub returns-then-escaped : goal.returns-then-escaped
returns-then-escaped c = named-escaped _ _ _ _ c.requires.0 (rw c.if-escaped.true at c.in_ok-quote.ensures)

pub find-requires : goal.find-requires
find-requires c = goes-filled (λ i. omega (arith, c.type_inv.text i)) c.requires.0 c.in_ok-quote.ensures.chars.goes

pub returns-in-Some : goal.returns-in-Some
returns-in-Some c = named-found _ _ _ _ c.requires.0 c.in-Some.key (rw c.if-escaped.false at c.in_ok-quote.ensures) c.in-Some.ensures

pub returns-in-None : goal.returns-in-None
returns-in-None c = named-unlisted _ _ _ _ c.requires.0 (rw c.if-escaped.false at c.in_ok-quote.ensures) c.in-None.ensures
