-- `some_digits` meets its contract.
use Rattle.std.proofs.Common.{arith, rules, of_calls, refl, sym, ap, ◌∙◌}
use Rattle.json_theory.specs.Parts.{is_digit}
use Rattle.json_theory.specs.Inside.Scanning.{byte_at}
use Rattle.json_tokens.proofs.scan.some_digits.Goals as goal

pub returns-then-end-from : goal.returns-then-end-from
returns-then-end-from c =
    let r = c.run_end-end.ensures is_digit (λ x b k. search (rules, of_calls)) refl in
    (refl, ap (λ i. is_digit (byte_at c.args.text.now i)) (sym c.if-end-from.true) ∙ r.fails)

pub returns-else-end-from : goal.returns-else-end-from
returns-else-end-from c =
    let r = c.run_end-end.ensures is_digit (λ x b k. search (rules, of_calls)) refl in (r, omega (arith, r.running.from))
