-- `key_before` meets its contract.
use mathlib.Core.Path.{sym, ◌∙◌}
use Rattle.value_table.proofs.EarlierFields.{left-found, left-next, left-none}
use Rattle.value_table.proofs.faults.key_before.Goals as goal

pub returns-then-key_at-key : goal.returns-then-key_at-key
returns-then-key_at-key c = λ all h. rw (← c.key_at-key.ensures) (left-found (c.loop-p.invariant all h) c.loop-p-test.true (sym c.key_at.ensures ∙ c.if-key_at-key.true))

pub loop-p-preserved : goal.loop-p-preserved
loop-p-preserved c = λ all h. rw c.span_at-p.ensures.0 (left-next (c.loop-p.invariant all h) c.loop-p-test.true (λ e. c.if-key_at-key.false (c.key_at.ensures ∙ e)))

pub returns : goal.returns
returns c = λ all h. rw (← c.key_at-key.ensures) (left-none (c.loop-p.invariant all h) c.loop-p-test.false)
