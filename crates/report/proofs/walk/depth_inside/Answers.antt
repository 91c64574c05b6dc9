-- `depth_inside` meets its contract.
use mathlib.Core.Path.{refl, sym, ◌∙◌}
use borrow.Author.Tests.{eq-eqb, ne_eqb}
use Rattle.report.proofs.walk.depth_inside.Goals as goal

pub returns-then-kind_at-eq-RECORD : goal.returns-then-kind_at-eq-RECORD
returns-then-kind_at-eq-RECORD c = rw (eq-eqb _ _ (sym c.kind_at.ensures ∙ c.if-kind_at-eq-RECORD.true)) refl

pub returns-else-kind_at-eq-RECORD : goal.returns-else-kind_at-eq-RECORD
returns-else-kind_at-eq-RECORD c = rw (ne_eqb _ _ (λ e. c.if-kind_at-eq-RECORD.false (c.kind_at.ensures ∙ e))) refl
