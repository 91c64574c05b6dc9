-- `slot_of` meets its contract.
use Prim.Native.Nat.{◌*◌, ◌/◌}
use Rattle.gathering.proofs.Waiting.SlotBytes.{scaled_fits, scaled-below}
use Rattle.gathering.proofs.slot_of.Goals as goal

pub overflow_mul-result-2 : goal.overflow_mul-result-2
overflow_mul-result-2 c =
    record { fits = scaled_fits (c.loop-j.hash * 2654435769 / 65536) c.args.slots c.requires.3 }

pub returns : goal.returns
returns c =
    scaled-below (c.loop-j.hash * 2654435769 / 65536) c.args.slots c.requires.2
