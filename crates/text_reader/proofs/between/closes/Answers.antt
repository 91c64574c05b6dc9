-- `closes` meets its contract.
use mathlib.Core.Path.{refl}
use borrow.Author.Tests.{eq-eqb, ne_eqb}
use Rattle.text_reader.proofs.between.closes.Goals as goal

pub returns-then-level-eq0 : goal.returns-then-level-eq0
returns-then-level-eq0 c = rw (eq-eqb _ 0 c.if-level-eq0.true) refl

pub returns-then-level : goal.returns-then-level
returns-then-level c = rw (ne_eqb _ 0 c.if-level-eq0.false, c.if-level.true, c.byte_at.ensures) refl

pub returns-else-level : goal.returns-else-level
returns-else-level c = rw (ne_eqb _ 0 c.if-level-eq0.false, c.if-level.false, c.byte_at-else-level.ensures) refl
