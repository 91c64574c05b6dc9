-- `put_entry` meets its contract.
use Rattle.tag_bus.proofs.Pass.{entry-stored}
use Rattle.tag_bus.proofs.entries.put_entry.Goals as goal

pub returns : goal.returns
returns c =
    let a = c.args in
    cc (entry-stored a.w a.entries.now a.at)
