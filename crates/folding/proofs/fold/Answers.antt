-- `fold` meets its contract.
use mathlib.Core.Path.{◌∙◌}
use native.Mathlib.Omega.{arith}
use Rattle.byte_records.proofs.Clear.{cleared-whole}
use Rattle.answers.proofs.Fronts.{front_length, front-cleared}
use Rattle.folding.proofs.Calls.{exact-folded}
use Rattle.folding.proofs.fold.Goals as goal

pub overflow_mul-unwrap_or : goal.overflow_mul-unwrap_or
overflow_mul-unwrap_or c = omega (arith, front_length (exact-folded _ _ _) c.fold_front-answered.ensures, c.unwrap_or.ensures)

pub clear_from-requires : goal.clear_from-requires
clear_from-requires c = omega (arith, front_length (exact-folded _ _ _) c.fold_front-answered.ensures, c.unwrap_or.ensures)

pub returns : goal.returns
returns c =
    let k = c.fold_front-answered in
    let a = c.args in
    front-cleared (exact-folded _ _ _) k.ensures a.arena.now _ a.work.now _ k.auto.arena
    (rw c.unwrap_or.ensures at c.clear_from.ensures) (c.clear_from-2.ensures ∙ cleared-whole a.work.now)
