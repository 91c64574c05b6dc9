-- `bad_length` meets its contract.
use Rattle.std.proofs.Common.{eq-eqb, ne_eqb}
use Rattle.counting_theory.specs.WellFormed.{bad_type_length}
use Rattle.type_arena.proofs.type_record.bad_length.Goals as goal

pub returns-then-n-ne0 : goal.returns-then-n-ne0
unfolding bad_type_length
returns-then-n-ne0 c = simp (ne_eqb _ _ c.if-n-ne0.true)

pub returns-else-n-ne0 : goal.returns-else-n-ne0
unfolding bad_type_length
returns-else-n-ne0 c = simp (eq-eqb _ _ c.if-n-ne0.false)
