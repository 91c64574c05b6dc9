-- `set_mark` meets its contract.
use mathlib.Core.Path.{◌∙◌, ap}
use Prim.Native.Nat.{◌*◌}
use native.Mathlib.Omega.{arith}
use Rattle.byte_records.proofs.Numbers.{numbers-set}
use Rattle.value_table.specs.Value.{max_depth}
use Rattle.text_reader.specs.Inside.Marks.{marks_of, slot_of}
use Rattle.text_reader.proofs.Marks.{slot-below, row_low, slot-inside}
use Rattle.text_reader.proofs.key_marks.set_mark.Goals as goal

pub overflow_mul-level : goal.overflow_mul-level
overflow_mul-level c = omega (arith, row_low c.requires.0)

pub overflow_add-level : goal.overflow_add-level
overflow_add-level c = omega (arith, row_low c.requires.0, c.requires.0.listed-key)

pub overflow_mul-level-2 : goal.overflow_mul-level-2
overflow_mul-level-2 c = omega (arith, row_low c.requires.0, c.requires.0.listed-key)

pub store_number-requires : goal.store_number-requires
store_number-requires c = omega (arith, slot-inside c.requires.0)

pub returns : goal.returns
returns c =
    let a = c.args in
    ap (marks_of a.listed) c.store_number.ensures
    ∙ numbers-set 2 a.mark c.requires.1 (max_depth * a.listed) (slot_of a.listed a.level a.key) a.seen.now (slot-below c.requires.0) c.requires.0.room
