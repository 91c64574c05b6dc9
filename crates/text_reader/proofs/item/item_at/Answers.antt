-- `item_at` meets its contract.
use Prim.Native.Nat.{◌/◌}
use lib.ListN.{length}
use Rattle.value_table.specs.Value.{record_size}
use Rattle.text_reader.proofs.ItemRead.{keyed-item}
use Rattle.text_reader.proofs.item.item_at.Goals as goal

pub returns-clause-item_is : goal.returns-clause-item_is
returns-clause-item_is c = λ σ around w a r l n t m.
    let room = length c.args.table.now / record_size in
    let i = c.in_ok-key.ensures.by_index room σ around w a r l m in
    keyed-item c.args.text.now c.args.book.now c.item_key.new.seen room σ c.args.at around _ i c.value_at.result
    (c.value_at.ensures.by_index c.args.book.now i.state around i.awaits i.byte i.ready l.depth_is n t)
