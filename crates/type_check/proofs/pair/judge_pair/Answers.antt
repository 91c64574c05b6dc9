-- `judge_pair` meets its contract.
use mathlib.Core.Path.{sym, ◌∙◌}
use Rattle.std.proofs.lemmas.Grind.{common_steps}
use native.Mathlib.Omega.{arith}
use Rattle.counting_theory.proofs.WellFormed.AcceptsExactly.{well-formed-type}
use Rattle.type_check.proofs.pair.judge_pair.Goals as goal

pub returns : goal.returns
returns c =
    let first = sym c.well_formed-2.ensures ∙ c.if-not-well_formed.false in
    let second = sym c.well_formed-3.ensures ∙ c.if-not-well_formed-2.false in
    ((well-formed-type _ _ (λ p. (c.type_inv.first p).fits) (grind (arith, common_steps))).0 first, (well-formed-type _ _ (λ p. (c.type_inv.second p).fits) (grind (arith, common_steps))).0 second, λ work. grind (arith, common_steps))
