-- `settle` meets its contract.
use mathlib.Core.Path.{◌≡◌}
use mathlib.Core.List.{[], ◌∷◌}
use Prim.Native.Nat.{suc}
use native.Mathlib.Numerals.{add-one}
use native.Mathlib.Omega.{arith}
use lib.ListN.{get_or, drop, drop_of_length-le}
use lib.Seq.{drop-cons}
use Rattle.std.proofs.lemmas.Result.{err_from_is_err_and}
use Rattle.value_table.specs.Value.{records}
use Rattle.gathering.specs.Inside.Gathering.{slots_of, message_raw, slot_raw, Gathering}
use Rattle.inference.proofs.InPlace.Runs.{whole-records}
use Rattle.inference.proofs.InPlace.TableRun.{table-run}
use Rattle.gathering.proofs.Waiting.SlotBytes.{length-slots}
use Rattle.gathering.proofs.Waiting.Settled.{settled-added, settled-full, settled-end}
use Rattle.gathering.proofs.Source.settle.Goals as goal
use Rattle.gathering.proofs.Source.settle.Goals.{After-read_slot}

-- the slot at hand is the first of those that are left
module _ (c : goal.After-read_slot) where
  slot-first : Gathering c.args.self.now.equivalence c.args.self.now.table.now c.loop-k.a c.loop-k.n (records c.args.self.now.table.now) (get_or (slots_of c.args.slots.now) c.loop-k.k 0 ∷ drop (suc c.loop-k.k) (slots_of c.args.slots.now))
  slot-first =
      let s = c.args.slots.now in
      rw (drop-cons (slots_of s) c.loop-k.k 0 (omega (arith, c.loop-k-test.true, length-slots s))) at c.loop-k.invariant

  raw-is : message_raw c.args.self.now.equivalence c.args.self.now.table.now c.read_slot.result.first c.read_slot.result.count
      ≡ slot_raw c.args.self.now.equivalence c.args.self.now.table.now (get_or (slots_of c.args.slots.now) c.loop-k.k 0)
  raw-is = λ i. message_raw c.args.self.now.equivalence c.args.self.now.table.now (c.read_slot.ensures.0 i) (c.read_slot.ensures.1 i)

pub add_waiting-requires : goal.add_waiting-requires
add_waiting-requires c =
    let s = c.requires in
    let g = slot-first (goal.at.add_waiting-requires c).After-read_slot in
    (record { f = g.f; q = []; free = g.free; holds = g.holds }, rw (c.read_slot.ensures.0, c.read_slot.ensures.1) (g.held 0 (omega arith)), (table-run s.0.is-table).short, omega (arith, s.2.enough), s.3)

pub returns-in_err-n : goal.returns-in_err-n
returns-in_err-n c =
    let g = slot-first (goal.at.returns-in_err-n c).After-read_slot in
    let w = c.add_waiting in
    let p = err_from_is_err_and c.from_residual.result c.from_residual.ensures.1 in
    rw p.1 (omega (arith, settled-full _ _ g w.new.a (rw (c.in_err-n.was, raw-is (goal.at.returns-in_err-n c).After-read_slot) at (w.ensures g.f g.free g.holds))))

pub loop-k-preserved : goal.loop-k-preserved
loop-k-preserved c =
    let g = slot-first (goal.at.loop-k-preserved c).After-read_slot in
    let w = c.add_waiting in
    rw (add-one c.loop-k.k) (settled-added _ _ g _ w.new.a (omega (arith, w.auto.a, g.holds.short)) (rw (c.in_ok-n.was, raw-is (goal.at.loop-k-preserved c).After-read_slot) at (w.ensures g.f g.free g.holds)))

pub returns : goal.returns
returns c =
    let s = c.args.slots.now in
    let z = drop_of_length-le (slots_of s) {i = c.loop-k.k} (omega (arith, c.loop-k-test.false, length-slots s)) in
    settled-end (rw z at c.loop-k.invariant) (omega (arith, whole-records _ _ c.requires.0.is-table.bytes))
