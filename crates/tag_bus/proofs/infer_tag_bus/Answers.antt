-- `infer_tag_bus` meets its contract.
use mathlib.Core.Path.{◌≡◌, ap, ◌∙◌}
use native.Mathlib.Omega.{arith}
use lib.ListN.{length}
use Rattle.std.proofs.lemmas.Result.{err_from_is_err_and}
use Rattle.byte_records.specs.Number.{zeros}
use Rattle.answers.proofs.Fronts.{front_length}
use Rattle.tag_bus.specs.TagBus.{inferred_tag_bus, left_with_entries, leaves_tag_bus}
use Rattle.tag_bus.specs.Inside.Front.{records_of}
use Rattle.tag_bus.proofs.Fronts.{exact-tag-bus, filled-room, filled-cleared, records-read, entries-read}
use Rattle.tag_bus.proofs.infer_tag_bus.Goals as goal
use Rattle.tag_bus.proofs.infer_tag_bus.Goals.{After-clear_from-2}

pub overflow_mul-front : goal.overflow_mul-front
overflow_mul-front c = omega (arith, front_length (exact-tag-bus _ _ _ _) c.infer_front-filled.ensures.written, records-read c.infer_front-filled.result c.unwrap_or-front.ensures)

pub clear_from-requires : goal.clear_from-requires
clear_from-requires c = omega (arith, front_length (exact-tag-bus _ _ _ _) c.infer_front-filled.ensures.written, records-read c.infer_front-filled.result c.unwrap_or-front.ensures)

pub clear_from-requires-2 : goal.clear_from-requires-2
clear_from-requires-2 c = omega (arith, filled-room c.infer_front-filled.ensures, entries-read c.infer_front-filled.result c.unwrap_or-front.ensures)

left : (c : goal.After-clear_from-2) →
    left_with_entries (records_of c.infer_front-filled.result) c.clear_from.new.buffer c.fill.new.self c.clear_from-2.new.buffer
    ≡ leaves_tag_bus (inferred_tag_bus c.args.table.now (length c.args.arena.now) (length c.args.work.now) (length c.args.entries.now)) c.args.arena.now c.args.work.now c.args.entries.now
left c =
    let a = c.args in
    let front = c.infer_front-filled in
    filled-cleared front.ensures (exact-tag-bus _ _ _ _) a.arena.now _ a.work.now _ a.entries.now _ front.auto.arena
    (rw (records-read c.infer_front-filled.result c.unwrap_or-front.ensures) at c.clear_from.ensures)
    (c.fill.ensures.after (λ y e. e) ∙ ap zeros front.auto.work)
    front.auto.entries
    (rw (entries-read c.infer_front-filled.result c.unwrap_or-front.ensures) at c.clear_from-2.ensures)

pub returns-in_err-filled : goal.returns-in_err-filled
returns-in_err-filled c =
    let p = err_from_is_err_and c.from_residual.result c.from_residual.ensures.1 in
    rw (p.1, p.2) (rw c.in_err-filled.was at (left (goal.at.returns-in_err-filled c).After-clear_from-2))

pub returns : goal.returns
returns c = rw c.in_ok-filled.was at (left (goal.at.returns c).After-clear_from-2)
