-- `remove_addend` and `remove_union` meet their contracts.
use Rattle.std.proofs.Common.{◌+◌, ◌*◌, length}
use Rattle.removal_arena.proofs.Runs.{rank}
use Rattle.removal.proofs.OnBytes.RemovalLoop.{State}
use Rattle.removal.proofs.pass.+remove_addend_remove_union.Given as goal

abbrev pub decreases-remove_addend : goal.decreases-remove_addend
decreases-remove_addend l = 2 * rank l.level

abbrev pub decreases-remove_union : goal.decreases-remove_union
decreases-remove_union l = 2 * rank l.level + 1

abbrev pub invariant-remove_union-loop-y : goal.invariant-remove_union-loop-y
invariant-remove_union-loop-y l = State l.level l.limit l.whole l.part l.initial.out l.at l.x l.y l.out l.end

abbrev pub decreases-remove_union-loop-y : goal.decreases-remove_union-loop-y
decreases-remove_union-loop-y l = length l.x + length l.y
