-- `take_message` meets its contract.
use mathlib.Core.List.{[]}
use mathlib.Core.Path.{◌≡◌}
use Prim.Native.Nat.{ℕ, ◌+◌, ◌<◌}
use native.Mathlib.Omega.{arith}
use lib.ListN.{length, get_or}
use Rattle.gathering.specs.Inside.Gathering.{slots_of, slot_number, Waits}
use Rattle.gathering.proofs.Waiting.SlotBytes.{length-slots}
use Rattle.gathering.proofs.Waiting.GatherLoop.{here, slot-later, taken-same, taken-to}
use Rattle.gathering.proofs.Source.take_message.Goals as goal
use Rattle.gathering.proofs.Source.take_message.Goals.{After-read_slot-waiting}

-- the slot that is read
module _ (c : goal.After-read_slot-waiting) where
  inside : c.slot_of-k.result < length (slots_of c.args.slots.now)
  inside = omega (arith, c.slot_of-k.ensures, length-slots c.args.slots.now)

  slot-holds : Waits c.args.self.now.table.now c.args.i c.read_slot-waiting.result.first c.read_slot-waiting.result.count
  slot-holds = rw (c.read_slot-waiting.ensures.0, c.read_slot-waiting.ensures.1) (c.requires.0.held c.slot_of-k.result inside)

pub span_at-requires : goal.span_at-requires
span_at-requires c =
    let s = c.requires in
    let m = here s.0 s.2 s.1 in
    omega (arith, m.some, m.within)

pub slot_of-k-requires : goal.slot_of-k-requires
slot_of-k-requires c =
    let s = c.requires in
    (omega (arith, (here s.0 s.2 s.1).within, c.span_at.ensures.0, c.min.ensures), s.2, omega (arith, s.3.some), omega (arith, s.3.few, s.0.holds.short))

pub same_message-requires : goal.same_message-requires
same_message-requires c =
    let s = c.requires in
    let m = here s.0 s.2 s.1 in
    ((slot-holds (goal.at.same_message-requires c).After-read_slot-waiting).start, m.some, m.within, s.2)

pub overflow_add-more : goal.overflow_add-more
overflow_add-more c =
    let s = c.requires in
    omega (arith, (slot-holds (goal.at.overflow_add-more c).After-read_slot-waiting).few, s.1, s.2)

pub put_slot-requires-clause-fits : goal.put_slot-requires-clause-fits
put_slot-requires-clause-fits c =
    let s = c.requires in
    let x = slot-holds (goal.at.put_slot-requires-clause-fits c).After-read_slot-waiting in
    omega (arith, x.few, x.start, s.1, s.2)

pub returns-then-same_message : goal.returns-then-same_message
returns-then-same_message c =
    let s = c.requires in
    let v : ℕ = get_or (slots_of c.args.slots.now) c.slot_of-k.result 0 in
    let r = c.read_slot-waiting in
    let e : slot_number r.result.first (r.result.count + 1) ≡ v + 8192 = omega (arith, r.ensures) in
    rw (c.put_slot.ensures, e)
    (taken-same s.0 s.2 s.1 c.slot_of-k.result (inside (goal.at.returns-then-same_message c).After-read_slot-waiting) (rw r.ensures.0 at (c.same_message.ensures.0 c.if-same_message.true)))

pub add_waiting-requires : goal.add_waiting-requires
add_waiting-requires c =
    let s = c.requires in
    let g = s.0 in
    (record { f = g.f; q = []; free = g.free; holds = g.holds }, slot-later (omega (arith, s.1)) (slot-holds (goal.at.add_waiting-requires c).After-read_slot-waiting), s.2, s.3.enough, s.4)

pub returns : goal.returns
returns c =
    let s = c.requires in
    let g = s.0 in
    let w = c.add_waiting in
    rw c.put_slot-2.ensures
    (taken-to g s.2 s.1 c.slot_of-k.result (inside (goal.at.returns c).After-read_slot-waiting) (omega (arith, s.1, s.2)) w.result w.new.a (omega (arith, w.auto.a, g.holds.short)) (rw (c.read_slot-waiting.ensures.0, c.read_slot-waiting.ensures.1) at (w.ensures g.f g.free g.holds)))
