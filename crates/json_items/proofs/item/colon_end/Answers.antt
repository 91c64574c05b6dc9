-- `colon_end` meets its contract.
use mathlib.Core.Path.{sym, ◌∙◌}
use Rattle.json_items.proofs.Items.{colon-leads, colon-breaks}
use Rattle.json_items.proofs.item.colon_end.Goals as goal

pub returns-then-byte_at-eq58 : goal.returns-then-byte_at-eq58
returns-then-byte_at-eq58 c =
    λ key around. colon-leads _ _ c.space_end-at.result c.space_end-at.ensures key around
    (sym c.byte_at.ensures ∙ c.if-byte_at-eq58.true) c.space_end.result c.space_end.ensures

pub returns-else-byte_at-eq58 : goal.returns-else-byte_at-eq58
returns-else-byte_at-eq58 c =
    λ key around. colon-breaks _ _ c.space_end-at.result c.space_end-at.ensures key around
    (λ z. c.if-byte_at-eq58.false (c.byte_at.ensures ∙ z))
