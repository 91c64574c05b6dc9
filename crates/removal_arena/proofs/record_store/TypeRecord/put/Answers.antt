-- `put` meets its contract.
use Rattle.std.proofs.Common.{[], replicate, sym}
use Rattle.removal_theory.specs.Encoding.{type_size}
use Rattle.removal_arena.specs.Inside.Arena.{record_bytes_of}
use Rattle.byte_records.proofs.Sets.{sets-aside}
use Rattle.removal_arena.proofs.RecordBytes.{length-header}
use Rattle.removal_arena.proofs.record_store.TypeRecord.put.Goals as goal

pub returns : goal.returns
returns c =
    let a = c.args in
    let r = a.self in
    let n = length-header (record { kind = r.kind; key = r.key; keys = [] }) r.span (record { count = r.count }) in
    sets-aside (record_bytes_of r) (replicate type_size 0) a.out.now a.at (sym n) c.store-2.ensures c.put_bytes.ensures
