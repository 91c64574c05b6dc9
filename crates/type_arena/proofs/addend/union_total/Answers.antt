-- `union_total` meets its contract. The loop's invariant: the sum so far and what is left give the total.
use Rattle.std.proofs.Common.{length, refl, ap, arith}
use Rattle.type_arena.proofs.FirstAddend.{headed, not-empty, is-empty}
use Rattle.type_arena.proofs.UnionTotal.{adding-first, adding-next, adding-done}
use Rattle.type_arena.proofs.addend.union_total.Goals as goal

pub count_at-sum-requires : goal.count_at-sum-requires
count_at-sum-requires c =
    let u = c.requires in
    let h = adding-first (c.loop-x.invariant u.equivalence u.coded) (not-empty c.is_empty.ensures c.loop-x-test.true) in
    omega arith

pub overflow_add-sum : goal.overflow_add-sum
overflow_add-sum c =
    let u = c.requires in
    let w = adding-next (c.loop-x.invariant u.equivalence u.coded) (not-empty c.is_empty.ensures c.loop-x-test.true) c.count_at-sum.ensures refl in
    omega (arith, w.same, u.limit)

pub rest_of-x-requires : goal.rest_of-x-requires
rest_of-x-requires c =
    let u = c.requires in
    headed (adding-first (c.loop-x.invariant u.equivalence u.coded) (not-empty c.is_empty.ensures c.loop-x-test.true))

pub loop-x-smaller : goal.loop-x-smaller
loop-x-smaller c =
    let u = c.requires in
    let h = adding-first (c.loop-x.invariant u.equivalence u.coded) (not-empty c.is_empty.ensures c.loop-x-test.true) in
    omega (arith, ap length c.rest_of-x.ensures)

pub loop-x-preserved : goal.loop-x-preserved
loop-x-preserved c =
    λ e k. adding-next (c.loop-x.invariant e k) (not-empty c.is_empty.ensures c.loop-x-test.true) c.count_at-sum.ensures c.rest_of-x.ensures

pub returns : goal.returns
returns c = λ e k. adding-done (c.loop-x.invariant e k) (is-empty c.is_empty.ensures c.loop-x-test.false)
