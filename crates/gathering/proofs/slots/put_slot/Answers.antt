-- `put_slot` meets its contract.
use Rattle.gathering.proofs.Waiting.SlotBytes.{slot-put}
use Rattle.gathering.proofs.slots.put_slot.Goals as goal

pub returns : goal.returns
returns c = rw c.store_number.ensures (slot-put c.args.slots.now c.args.k _ c.requires.fits c.requires.room)
