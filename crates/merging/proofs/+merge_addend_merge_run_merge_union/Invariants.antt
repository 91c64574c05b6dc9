-- `merge_addend`, `merge_run` and `merge_union` meet their contracts.
use Prim.Native.Nat.{◌+◌, ◌*◌}
use lib.ListN.{length}
use Rattle.type_arena.proofs.Runs.{rank}
use Rattle.merging.proofs.TypeMerge.MergeLoop.{State}
use Rattle.merging.proofs.+merge_addend_merge_run_merge_union.Given as goal

abbrev pub decreases-merge_addend : goal.decreases-merge_addend
decreases-merge_addend l = 3 * rank l.level

abbrev pub decreases-merge_run : goal.decreases-merge_run
decreases-merge_run l = 3 * rank l.level + 1

abbrev pub decreases-merge_union : goal.decreases-merge_union
decreases-merge_union l = 3 * rank l.level + 2

abbrev pub invariant-merge_run-loop-level : goal.invariant-merge_run-loop-level
invariant-merge_run-loop-level l = State l.level l.first l.second l.initial.out l.initial.at l.initial.over l.x l.y l.out l.at l.over

abbrev pub decreases-merge_run-loop-level : goal.decreases-merge_run-loop-level
decreases-merge_run-loop-level l = length l.x + length l.y
