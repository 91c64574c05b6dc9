-- `insert_record` meets its contract.
use Rattle.std.proofs.Common.{arith}
use Rattle.type_arena.proofs.RecordBytes.{sets_first}
use Rattle.type_arena.proofs.record_store.insert_record.Goals as goal

pub returns : goal.returns
returns c =
    sets_first _ _ _ _ c.open_gap.new.b _ (omega (arith, c.open_gap.auto.b, c.requires)) c.open_gap.ensures c.store.ensures
