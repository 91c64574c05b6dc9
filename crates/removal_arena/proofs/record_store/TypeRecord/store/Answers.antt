-- `store` meets its contract.
use Rattle.std.proofs.Common.{arith}
use Rattle.removal_arena.proofs.RecordBytes.{sets-record}
use Rattle.removal_arena.proofs.record_store.TypeRecord.store.Goals as goal

pub returns : goal.returns
returns c =
    let a = c.args in
    let r = a.self in
    cc (sets-record r.kind r.key r.span (record { count = r.count }) a.out.now a.at (omega arith))
