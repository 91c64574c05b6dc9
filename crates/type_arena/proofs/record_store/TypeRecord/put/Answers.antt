-- `put` meets its contract.
use Rattle.std.proofs.Common.{ℕ, List, [], replicate, sym}
use Rattle.counting_theory.specs.Encoding.{type_size}
use Rattle.type_arena.specs.Inside.Arena.{header_of}
use Rattle.type_arena.specs.Inside.Payload.{payload_of}
use Rattle.byte_records.proofs.Sets.{sets-aside}
use Rattle.type_arena.proofs.RecordBytes.{length-header}
use Rattle.type_arena.proofs.record_store.TypeRecord.put.Goals as goal

pub returns : goal.returns
returns c =
    let a = c.args in
    let r = a.self in
    let h : List ℕ = header_of r.kind r.key r.span (payload_of r.payload) in
    let n = length-header (record { kind = r.kind; key = r.key; keys = [] }) r.span (payload_of r.payload) in
    sets-aside h (replicate type_size 0) a.out.now a.at (sym n) c.store-2.ensures
    c.put_bytes.ensures
