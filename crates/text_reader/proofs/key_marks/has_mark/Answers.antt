-- `has_mark` meets its contract.
use mathlib.Core.Path.{ap, sym, ◌∙◌}
use Prim.Native.Nat.{◌*◌}
use native.Mathlib.Omega.{arith}
use lib.Dec.{eqb}
use Rattle.byte_records.proofs.Numbers.{numbers-at}
use Rattle.value_table.specs.Value.{max_depth}
use Rattle.text_reader.specs.Inside.Marks.{slot_of}
use Rattle.text_reader.proofs.Marks.{slot-below, row_low, slot-inside}
use Rattle.text_reader.proofs.key_marks.has_mark.Goals as goal

pub overflow_mul-level : goal.overflow_mul-level
overflow_mul-level c = omega (arith, row_low c.requires)

pub overflow_add-level : goal.overflow_add-level
overflow_add-level c = omega (arith, row_low c.requires, c.requires.listed-key)

pub overflow_mul-level-2 : goal.overflow_mul-level-2
overflow_mul-level-2 c = omega (arith, row_low c.requires, c.requires.listed-key)

pub number-requires : goal.number-requires
number-requires c = omega (arith, slot-inside c.requires)

pub returns : goal.returns
returns c =
    let a = c.args in
    let there = numbers-at 2 (max_depth * a.listed) (slot_of a.listed a.level a.key) a.seen.now (slot-below c.requires) in
    ap (λ n. eqb n a.mark) (c.number.ensures.0 ∙ sym there)
