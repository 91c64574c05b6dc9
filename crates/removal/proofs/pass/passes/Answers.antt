-- `passes` meets its contract. The loop's invariant: no count so far is above the limit.
use mathlib.Core.Path.{ap}
use native.Mathlib.Omega.{arith}
use lib.ListN.{length}
use Rattle.type_arena.proofs.FirstAddend.{not-empty, is-empty}
use Rattle.removal_arena.proofs.FirstAddend.{headed}
use Rattle.removal.proofs.CountLimit.{seeking-start, seeking-first, seeking-next, seeking-found, seeking-done}
use Rattle.removal.proofs.pass.passes.Goals as goal

pub loop-x-init : goal.loop-x-init
loop-x-init c = seeking-start _ _

pub count_at-requires : goal.count_at-requires
count_at-requires c =
    let u = c.requires in
    let h = seeking-first (c.loop-x.invariant u.equivalence u.field u.coded) (not-empty c.is_empty.ensures c.loop-x-test.true) in
    omega arith

pub returns-then-limit-count_at : goal.returns-then-limit-count_at
returns-then-limit-count_at c = λ e field k. seeking-found (c.loop-x.invariant e field k) (not-empty c.is_empty.ensures c.loop-x-test.true) c.count_at.ensures c.if-limit-count_at.true

pub rest_of-x-requires : goal.rest_of-x-requires
rest_of-x-requires c =
    let u = c.requires in
    headed (seeking-first (c.loop-x.invariant u.equivalence u.field u.coded) (not-empty c.is_empty.ensures c.loop-x-test.true))

pub loop-x-smaller : goal.loop-x-smaller
loop-x-smaller c =
    let u = c.requires in
    let h = seeking-first (c.loop-x.invariant u.equivalence u.field u.coded) (not-empty c.is_empty.ensures c.loop-x-test.true) in
    omega (arith, ap length c.rest_of-x.ensures)

pub loop-x-preserved : goal.loop-x-preserved
loop-x-preserved c =
    λ e field k. seeking-next (c.loop-x.invariant e field k) (not-empty c.is_empty.ensures c.loop-x-test.true)
    c.count_at.ensures c.if-limit-count_at.false c.rest_of-x.ensures

pub returns : goal.returns
returns c = λ e field k. seeking-done (c.loop-x.invariant e field k) (is-empty c.is_empty.ensures c.loop-x-test.false)
