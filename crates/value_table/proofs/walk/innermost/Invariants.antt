-- `innermost` meets its contract. The loop's invariant: the levels inside level d end at record i.
use mathlib.Core.Path.{◌≡◌}
use Rattle.value_table.specs.Inside.EarlierFields.{innermost}
use Rattle.value_table.proofs.walk.innermost.Given as goal

abbrev pub invariant-loop-d : goal.invariant-loop-d
invariant-loop-d l = innermost l.levels l.d l.i ≡ innermost l.levels l.depth l.i
