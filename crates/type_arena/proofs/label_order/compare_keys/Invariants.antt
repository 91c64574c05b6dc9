-- `compare_keys` meets its contract. The loop's invariant: the key lists compare as the keys before and what is left of them.
use Rattle.std.proofs.Common.{◌-◌}
use Rattle.counting_theory.proofs.KeyOrder.{Comparing}
use Rattle.type_arena.specs.Inside.Layout.{keys_inside}
use Rattle.type_arena.specs.Inside.LabelOrder.{ordering_of}
use Rattle.type_arena.proofs.label_order.compare_keys.Given as goal

abbrev pub invariant-loop-i : goal.invariant-loop-i
invariant-loop-i g l = Comparing (g.L.Layout.span l.b) (g.L.Layout.key l.b) l.x_end (g.L.Layout.span l.c) (g.L.Layout.key l.c) l.y_end (keys_inside g.L.Layout.key g.L.Layout.span l.b l.x) (keys_inside g.L.Layout.key g.L.Layout.span l.c l.y) (ordering_of l.so_far) l.i l.j

abbrev pub decreases-loop-i : goal.decreases-loop-i
decreases-loop-i g l = l.x_end - l.i
