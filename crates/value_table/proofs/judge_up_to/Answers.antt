-- `judge_up_to` meets its contract.
use mathlib.Core.Path.{sym, ◌∙◌}
use Rattle.value_table.specs.Judged.{judged_up_to}
use Rattle.value_table.proofs.TableLayout.{length-fits}
use Rattle.value_table.proofs.judge_up_to.Goals as goal

pub returns-then-bad_length : goal.returns-then-bad_length
unfolding judged_up_to
returns-then-bad_length c = simp (sym c.bad_length.ensures ∙ c.if-bad_length.true)

pub walk_table-requires : goal.walk_table-requires
walk_table-requires c = (length-fits _).0 (sym c.bad_length.ensures ∙ c.if-bad_length.false)

pub returns : goal.returns
unfolding judged_up_to
returns c = simp (sym c.bad_length.ensures ∙ c.if-bad_length.false, c.walk_table.ensures)
