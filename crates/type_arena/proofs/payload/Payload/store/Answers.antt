-- `store` meets its contract.
use Rattle.type_arena.proofs.RecordBytes.{sets-payload}
use Rattle.type_arena.specs.Inside.Payload.{payload_of}
use Rattle.type_arena.proofs.payload.Payload.store.Goals as goal

pub returns : goal.returns
unfolding payload_of
returns c =
    let a = c.args in
    cc (sets-payload (payload_of a.self) a.out.now a.at)
