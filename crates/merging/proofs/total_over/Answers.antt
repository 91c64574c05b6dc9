-- `total_over` meets its contract.
use mathlib.Core.Path.{refl, ◌∙◌}
use borrow.Author.Tests.{not-true, not-false}
use Rattle.type_arena.proofs.Runs.{total-low, total-fields, run-union, run-total}
use native.Mathlib.Omega.{arith}
use Rattle.merging.proofs.total_over.Goals as goal

pub union_total-requires : goal.union_total-requires
union_total-requires c = run-union (not-true _ c.if-not-level.true) c.requires.0

pub union_total-requires-then-not-level : goal.union_total-requires-then-not-level
union_total-requires-then-not-level c = run-union (not-true _ c.if-not-level.true) c.requires.1

pub overflow_add-result : goal.overflow_add-result
overflow_add-result c =
    let p = c.requires in
    let f = not-true c.args.level.field c.if-not-level.true in
    omega (arith, run-total f p.0 c.union_total.ensures, run-total f p.1 c.union_total-then-not-level.ensures, total-low p.0, total-low p.1)

pub returns-else-not-level : goal.returns-else-not-level
returns-else-not-level c =
    let p = c.requires in
    let f = not-false _ c.if-not-level.false in
    c.if-not-level.false ∙ rw (total-fields (rw f at p.0.coded), total-fields (rw f at p.1.coded)) refl

pub returns-then-not-level : goal.returns-then-not-level
returns-then-not-level c =
    let p = c.requires in
    let f = not-true _ c.if-not-level.true in
    rw (run-total f p.0 c.union_total.ensures, run-total f p.1 c.union_total-then-not-level.ensures) refl
