-- `item_key` meets its contract.
use mathlib.Core.Path.{◌∙◌}
use Rattle.text_reader.proofs.ItemRead.{in-object, no_key, field-item}
use Rattle.text_reader.proofs.item.item_key.Goals as goal

pub returns-then-level-clause-by_index : goal.returns-then-level-clause-by_index
returns-then-level-clause-by_index c = λ room σ around w a r l m.
    let b = in-object around (l.object-is ∙ c.if-level.true) in
    field-item c.args.text.now c.args.book.now c.field_key.new.seen room σ c.args.at around b c.field_key.result
    (c.field_key.ensures.by_index room b.key b.done b.outer σ (rw b.is at w) a r (rw b.is at l) (rw b.is at m))

pub returns-else-level-clause-by_index : goal.returns-else-level-clause-by_index
returns-else-level-clause-by_index c = λ room σ around w a r l m.
    no_key c.args.text.now c.args.book.now c.args.seen.now room σ c.args.at around w (l.object-is ∙ c.if-level.false) a r m
