-- `run_end` meets its contract.
use Rattle.std.proofs.Common.{◌≡◌, ◌∙◌, true, false, arith, rules, drop, length-drop}
use Rattle.std.proofs.lemmas.List.{take_all}
use Rattle.std.proofs.lemmas.Iterator.{YieldsList-from_slice, IsFirst-from_position}
use Rattle.json_tokens.proofs.Tokens.{run-first, run-whole}
use Rattle.json_tokens.proofs.scan.run_end.Goals as goal

pub returns-in-Some : goal.returns-in-Some
returns-in-Some g c test t z =
    let rest = drop c.args.from c.args.text.now in
    run-first test _ _ c.requires.start _
    (IsFirst-from_position _ _ _ (λ x. test x ≡ false) (λ x. test x ≡ true) c.in-Some.ensures.ran
    (YieldsList-from_slice rest (c.iter.ensures.rest ∙ take_all _ rest (omega (arith, length-drop c.args.from c.args.text.now)))) (λ x q k. search (rules, t)) (λ x q k. search (rules, t)))

pub returns : goal.returns
returns g c test t z =
    let rest = drop c.args.from c.args.text.now in
    run-whole test _ _ c.requires.start z
    (IsFirst-from_position _ _ _ (λ x. test x ≡ false) (λ x. test x ≡ true) c.in-None.ensures.ran
    (YieldsList-from_slice rest (c.iter.ensures.rest ∙ take_all _ rest (omega (arith, length-drop c.args.from c.args.text.now)))) (λ x q k. search (rules, t)) (λ x q k. search (rules, t)))
