-- A run of values is added item by item, and an item with the run below it.
use mathlib.Core.Path.{◌≡◌}
use mathlib.Core.Bool.{cond}
use mathlib.Core.List.{List}
use Prim.Native.Nat.{ℕ, ◌+◌, ◌*◌, ◌-◌, ◌/◌}
use lib.Dec.{eqb}
use lib.ListN.{length}
use Rattle.value_table.specs.Value.{record_size, record_kind, Values}
use Rattle.counting_theory.specs.Label.{CountingType}
use Rattle.inference.specs.Inside.Inferring.{TableRun, ArenaHolds}
use Rattle.inference.specs.Inside.ScalarFields.{AddedSoFar}
use Rattle.inference.proofs.inferring.+add_item_add_run.Given as goal

abbrev pub decreases-add_item : goal.decreases-add_item
decreases-add_item l = 2 * (2 * length l.item.now.below.now + cond (eqb l.item.now.kind record_kind) 1 0) + 1

abbrev pub decreases-add_run : goal.decreases-add_run
decreases-add_run l = 2 * (2 * length l.t.now + cond l.field 1 0)

abbrev pub invariant-add_run-loop-i : goal.invariant-add_run-loop-i
invariant-add_run-loop-i l =
    (l.end ≡ length l.t / record_size) × (length l.a ≡ length l.initial.a) × (length l.work ≡ length l.initial.work)
    × ((f : CountingType) (q free : List ℕ) (vs : Values) → ArenaHolds l.equivalence l.field l.initial.a l.n l.rest f q free → TableRun l.field l.t vs → AddedSoFar l.equivalence l.field l.weight vs f q l.a l.t l.m l.i l.from)

abbrev pub decreases-add_run-loop-i : goal.decreases-add_run-loop-i
decreases-add_run-loop-i l = l.end - l.i
