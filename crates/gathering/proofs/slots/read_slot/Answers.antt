-- `read_slot` meets its contract.
use Rattle.std.proofs.Common.{ap, ◌∙◌}
use Rattle.gathering.specs.Inside.Gathering.{slot_start, slot_count}
use Rattle.gathering.proofs.Waiting.SlotBytes.{slot_read}
use Rattle.gathering.proofs.slots.read_slot.Goals as goal

pub returns : goal.returns
returns c =
    let e = c.number-slot.ensures.0 ∙ slot_read c.args.slots.now c.args.k c.requires in
    (ap slot_start e, ap slot_count e)
