-- `merge` meets its contract.
use mathlib.Core.Path.{refl}
use mathlib.Core.List.{[]}
use native.Mathlib.Omega.{arith}
use Rattle.answers.proofs.Fronts.{front_length, front-cleared}
use Rattle.answers.proofs.Exact.{exact-merged}
use Rattle.counting_type.proofs.merge.Goals as goal

pub overflow_mul-unwrap_or : goal.overflow_mul-unwrap_or
overflow_mul-unwrap_or c = omega (arith, front_length (exact-merged _ _ _ _) c.merge_front-answered.ensures, c.unwrap_or.ensures)

pub clear_from-requires : goal.clear_from-requires
clear_from-requires c = omega (arith, front_length (exact-merged _ _ _ _) c.merge_front-answered.ensures, c.unwrap_or.ensures)

pub returns : goal.returns
returns c =
    let answered = c.merge_front-answered in
    front-cleared (exact-merged _ _ _ _) answered.ensures c.args.arena.now _ [] _ answered.auto.arena (rw c.unwrap_or.ensures at c.clear_from.ensures) refl
