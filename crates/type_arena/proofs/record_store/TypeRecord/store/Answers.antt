-- `store` meets its contract.
use Rattle.std.proofs.Common.{arith}
use Rattle.type_arena.proofs.RecordBytes.{sets-record}
use Rattle.type_arena.specs.Inside.Payload.{payload_of}
use Rattle.type_arena.proofs.record_store.TypeRecord.store.Goals as goal

pub returns : goal.returns
returns c =
    let a = c.args in
    let r = a.self in
    cc (sets-record r.kind r.key r.span (payload_of r.payload) a.out.now a.at (omega arith))
