-- `number_end` meets its contract.
use Rattle.std.proofs.Common.{Err}
use Rattle.std.proofs.lemmas.Result.{err_from_is_err_and}
use Rattle.json_tokens.specs.Inside.Tokens.{after_int, after_frac, no_more}
use Rattle.json_tokens.proofs.Numbers.{part_then}
use Rattle.json_tokens.proofs.scan.number_end.Goals as goal

pub returns-in_err-fraction : goal.returns-in_err-fraction
returns-in_err-fraction c =
    let p = err_from_is_err_and c.from_residual-in_err-fraction.result c.from_residual-in_err-fraction.ensures.1 in
    rw (p.1, p.2) (λ a h. part_then _ no_more after_int (c.in_ok-int.ensures a h) (Err c.in_err-fraction.field-0.0) c.in_err-fraction.ensures)

pub returns : goal.returns
returns c =
    λ a h. part_then _ no_more after_int (c.in_ok-int.ensures a h) _
    (λ b m k. part_then _ no_more after_frac (c.in_ok-fraction.ensures b m k) _ c.exponent_end.ensures)
