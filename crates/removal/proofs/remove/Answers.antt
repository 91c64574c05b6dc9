-- `remove` meets its contract.
use mathlib.Core.Path.{refl}
use mathlib.Core.List.{[]}
use native.Mathlib.Omega.{arith}
use Rattle.removal_check.proofs.Fronts.{front_length, front-cleared}
use Rattle.removal.proofs.WholeTypes.{exact-removed}
use Rattle.removal.proofs.remove.Goals as goal

pub overflow_mul-unwrap_or : goal.overflow_mul-unwrap_or
overflow_mul-unwrap_or c = omega (arith, front_length (exact-removed _ _ _ _) c.remove_front-answered.ensures, c.unwrap_or.ensures)

pub clear_from-requires : goal.clear_from-requires
clear_from-requires c = omega (arith, front_length (exact-removed _ _ _ _) c.remove_front-answered.ensures, c.unwrap_or.ensures)

pub returns : goal.returns
returns c = front-cleared (exact-removed _ _ _ _) c.remove_front-answered.ensures c.args.arena.now _ [] _ c.remove_front-answered.auto.arena (rw c.unwrap_or.ensures at c.clear_from.ensures) refl
