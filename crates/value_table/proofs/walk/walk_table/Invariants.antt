-- `walk_table` meets its contract.
use Rattle.value_table.specs.Inside.EarlierFields.{Latest}
use Rattle.value_table.proofs.WalkLoop.{Walking}
use Rattle.value_table.proofs.walk.walk_table.Given as goal

abbrev pub invariant-loop-i : goal.invariant-loop-i
invariant-loop-i l = Walking l.largest l.table l.walk.levels l.walk.depth l.i × Latest l.table l.i l.latest
