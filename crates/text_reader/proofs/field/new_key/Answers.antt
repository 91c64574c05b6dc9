-- `new_key` meets its contract.
use mathlib.Core.Path.{sym, ◌∙◌}
use Rattle.text_reader.proofs.FieldKey.{key-repeated, key-many, key-new}
use Rattle.text_reader.proofs.field.new_key.Goals as goal

pub returns-then-has_mark-clause-by_index : goal.returns-then-has_mark-clause-by_index
returns-then-has_mark-clause-by_index c = λ room key done outer l m.
    rw c.at.ensures
    (key-repeated c.in_ok-named.ensures c.requires.level_fits.0 c.requires.level_fits.1 l m room (sym c.if-has_mark.true ∙ rw c.keys-listed.ensures.0 at c.has_mark.ensures))

pub returns-then-level-ge-MAX_FIELDS-clause-by_index : goal.returns-then-level-ge-MAX_FIELDS-clause-by_index
returns-then-level-ge-MAX_FIELDS-clause-by_index c = λ room key done outer l m.
    rw c.at-then-level-ge-MAX_FIELDS.ensures
    (key-many c.in_ok-named.ensures c.requires.level_fits.0 c.requires.level_fits.1 l m room (sym c.if-has_mark.false ∙ rw c.keys-listed.ensures.0 at c.has_mark.ensures)
    c.if-level-ge-MAX_FIELDS.true)

pub returns-clause-by_index : goal.returns-clause-by_index
returns-clause-by_index c = λ room key done outer l m.
    key-new c.in_ok-named.ensures c.requires.level_fits.0 c.requires.level_fits.1 l m room (sym c.if-has_mark.false ∙ rw c.keys-listed.ensures.0 at c.has_mark.ensures)
    c.if-level-ge-MAX_FIELDS.false c.set_mark.auto.seen (rw c.keys-listed.ensures.0 at c.set_mark.ensures)
