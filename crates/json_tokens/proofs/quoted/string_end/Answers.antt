-- `string_end` meets its contract.
use Rattle.std.proofs.lemmas.Result.{err_from_is_err_and}
use Rattle.json_theory.proofs.Scanning.{stops-on}
use Rattle.json_tokens.proofs.Strings.{chars-plain, chars-on, string-upto}
use Rattle.json_tokens.proofs.quoted.string_end.Goals as goal

pub loop-from-init : goal.loop-from-init
loop-from-init c = (chars-plain c.plain_end-quote.ensures.running, c.plain_end-quote.ensures.running.upto)

pub returns-in_err-quote : goal.returns-in_err-quote
returns-in_err-quote c =
    let p = err_from_is_err_and c.from_residual.result c.from_residual.ensures.1 in
    rw (p.1, p.2) (stops-on c.loop-from.invariant.0.goes c.in_err-quote.ensures)

pub loop-from-preserved : goal.loop-from-preserved
loop-from-preserved c =
    let h = c.in_ok-quote.ensures in
    (chars-on _ _ _ _ _ c.byte_at-c.ensures c.loop-from.invariant.0 h, string-upto h.goes c.loop-from.invariant.1)
