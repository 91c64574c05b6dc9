-- `write_table` is safe and ends: the records that are written stand in the table.
use Prim.Native.Nat.{◌*◌, ◌≤◌}
use mathlib.Core.Path.{sym}
use native.Mathlib.Omega.{arith}
use lib.ListN.{length}
use lib.Seq.{length-take-le}
use Rattle.value_table.specs.Value.{record_size}
use Rattle.tabulate.proofs.Room.{answered-room}
use Rattle.tabulate.proofs.write_table.Goals as goal
use Rattle.tabulate.proofs.write_table.Goals.{After-answer_of-answer}

room : (c : goal.After-answer_of-answer) → record_size * c.answer_of-answer.result.count ≤ length c.read_text.new.table
room c =
    answered-room _ _ _ _ c.answer_of-answer.result c.read_text.result _ c.read_text.auto.table (λ error a h. h) c.answer_of-answer.ensures c.read_text.ensures

pub overflow_mul-n : goal.overflow_mul-n
overflow_mul-n c =
    omega (arith, room (goal.at.overflow_mul-n c).After-answer_of-answer, c.read_text.auto.table)

pub slice_bounds-table-end : goal.slice_bounds-table-end
slice_bounds-table-end c = room (goal.at.slice_bounds-table-end c).After-answer_of-answer

pub slice_bounds-write_all-end : goal.slice_bounds-write_all-end
slice_bounds-write_all-end c = sym (length-take-le _ _ (room (goal.at.slice_bounds-write_all-end c).After-answer_of-answer))
