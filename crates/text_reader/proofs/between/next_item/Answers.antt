-- `next_item` meets its contract.
use mathlib.Core.Path.{sym, ◌∙◌}
use native.Mathlib.Omega.{arith}
use Rattle.json_theory.proofs.Scanning.{byte_inside}
use Rattle.text_reader.proofs.NextItem.{next-first, next-comma, next-wrong}
use Rattle.text_reader.proofs.between.next_item.Goals as goal

pub returns-then-depth-eq0 : goal.returns-then-depth-eq0
returns-then-depth-eq0 c σ around b d stays = c.next_message.ensures σ around b (d ∙ c.if-depth-eq0.true)

pub returns-then-fresh : goal.returns-then-fresh
returns-then-fresh c σ around b d stays =
    next-first c.requires.1 σ around (rw c.if-fresh.true at b) (λ e. c.if-depth-eq0.false (sym d ∙ e)) stays

pub space_end-requires : goal.space_end-requires
space_end-requires c =
    (omega (arith, byte_inside c.args.text.now c.args.here (omega (arith, c.if-byte_at-eq44.true, c.byte_at.ensures))), c.requires.0)

pub returns-then-byte_at-eq44 : goal.returns-then-byte_at-eq44
returns-then-byte_at-eq44 c σ around b d stays =
    next-comma c.requires.1 c.space_end.ensures (omega (arith, c.if-byte_at-eq44.true, c.byte_at.ensures)) σ around
    (rw c.if-fresh.false at b) (λ e. c.if-depth-eq0.false (sym d ∙ e))

pub returns-else-byte_at-eq44 : goal.returns-else-byte_at-eq44
returns-else-byte_at-eq44 c σ around b d stays =
    next-wrong c.requires.1 σ around (rw c.if-fresh.false at b) (λ e. c.if-depth-eq0.false (sym d ∙ e)) stays
    (λ e. c.if-byte_at-eq44.false (omega (arith, c.byte_at.ensures)))
