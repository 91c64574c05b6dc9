-- `remove_checked` meets its contract.
use Rattle.std.proofs.Common.{◌≡◌, arith}
use Rattle.answers.specs.declared.Refusal.TheVariants.{NotPart}
use Rattle.removal.specs.Inside.Removing.{remainder_at}
use Rattle.removal_arena.proofs.Runs.{type-run, type-short}
use Rattle.removal.proofs.WholeTypes.{type-whole, front-not-part, front-no-room, front-removed}
use Rattle.std.proofs.lemmas.Result.{err_from_is_err_and}
use Rattle.removal.proofs.remove_checked.Goals as goal

pub remove_union-requires : goal.remove_union-requires
remove_union-requires c =
    let a = c.args in
    rw c.whole-level.ensures
    (type-whole a.equivalence _ c.requires.fact, type-run a.equivalence _ c.requires.fact_2, omega (arith, type-short c.requires.fact))

pub returns-in_err-n : goal.returns-in_err-n
unfolding remainder_at
returns-in_err-n c =
    let p = err_from_is_err_and c.from_residual.result c.from_residual.ensures.1 in
    let z = rw c.in_err-n.ensures.ok_part at c.in_err-n.ensures.value in
    let e : c.in_err-n.field-0.0 ≡ NotPart = cc in
    rw (p.1, p.2, e)
    (front-not-part _ _ _ c.requires.fact c.requires.fact_2 _ _ _ (rw (c.in_err-n.ensures.ok_part, c.whole-level.ensures) at c.remove_union.ensures))

pub returns-then-arena-n : goal.returns-then-arena-n
unfolding remainder_at
returns-then-arena-n c =
    front-no-room _ _ _ c.requires.fact c.requires.fact_2 _ _ _ (rw (c.in_ok-n.ensures.ok_part, c.whole-level.ensures) at c.remove_union.ensures) (omega (arith, c.if-arena-n.true, c.remove_union.auto.out))

pub returns : goal.returns
unfolding remainder_at
returns c =
    front-removed _ _ _ c.requires.fact c.requires.fact_2 _ _ _ (rw (c.in_ok-n.ensures.ok_part, c.whole-level.ensures) at c.remove_union.ensures) (omega (arith, c.if-arena-n.false, c.remove_union.auto.out))
