-- `merge_types` meets its contract.
use Rattle.type_arena.proofs.Runs.{type-run, type-short}
use native.Mathlib.Omega.{arith}
use Rattle.merging.proofs.merge_types.Goals as goal

pub merge_union-requires : goal.merge_union-requires
merge_union-requires c =
    let p = c.requires.fact in
    let q = c.requires.fact_2 in
    record { type_run = rw c.whole.ensures (type-run c.args.equivalence _ p, type-run c.args.equivalence _ q); b_bound = omega (arith, type-short p, type-short q) }

pub returns : goal.returns
returns c = rw c.whole.ensures at c.merge_union.ensures
