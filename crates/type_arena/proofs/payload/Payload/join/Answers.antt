-- `join` meets its contract.
use Rattle.std.proofs.Common.{refl}
use Rattle.type_arena.specs.Inside.Payload.{payload_of}
use Rattle.type_arena.proofs.PayloadBytes.{wrapped-join}
use Rattle.type_arena.proofs.payload.Payload.join.Goals as goal

pub returns : goal.returns
unfolding payload_of
returns c =
    let x = c.args in
    wrapped-join (payload_of x.self) (payload_of x.other) _ refl c.min.ensures c.max.ensures
