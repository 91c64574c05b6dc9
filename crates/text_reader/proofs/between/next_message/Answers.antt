-- `next_message` meets its contract.
use Rattle.text_reader.proofs.NextItem.{next_start, next-bad, next-message}
use Rattle.text_reader.proofs.between.next_message.Goals as goal
use Rattle.text_reader.proofs.between.next_message.Goals.{else-not-fresh-via-then-not-fresh+else-at-here, else-not-fresh-via-else-not-fresh}

pub returns-then-at-here : goal.returns-then-at-here
returns-then-at-here c σ around b d = next-bad c.requires σ around (rw c.if-not-fresh.true at b) d c.if-at-here.true

pub returns : goal.returns
returns c σ around b d =
    rw c.then_some.ensures
    (elim c.else-not-fresh.branch [
      | else-not-fresh-via-then-not-fresh+else-at-here w ↦ next-message c.requires σ around (rw w.if-not-fresh.true at b) d w.if-at-here.false
      | else-not-fresh-via-else-not-fresh w ↦ next_start c.requires σ around (rw w.if-not-fresh.false at b) d
    ])
