-- `put_entries` meets its contract. The loop's invariant: the entries of the records passed stand in the front.
use mathlib.Core.Path.{sym, ◌∙◌}
use native.Mathlib.Omega.{arith}
use Rattle.tag_bus.proofs.Pass.{pass-first, pass-entry, pass-full, pass-other, pass-end}
use Rattle.tag_bus.proofs.entries.put_entries.Goals as goal
use Rattle.tag_bus.proofs.entries.put_entries.Goals.{then-kind_at-eq-RECORD+else-entries-at-lt-ENTRY_SIZE, else-kind_at-eq-RECORD}

pub loop-i-init : goal.loop-i-init
loop-i-init c = pass-first _ _ _

pub returns-then-entries-at-lt-ENTRY_SIZE : goal.returns-then-entries-at-lt-ENTRY_SIZE
returns-then-entries-at-lt-ENTRY_SIZE c =
    let l = c.loop-i in
    pass-full _ _ _ l.invariant (omega arith) (sym c.kind_at.ensures ∙ c.if-kind_at-eq-RECORD.true) (omega arith)

pub word_at-requires : goal.word_at-requires
word_at-requires c =
    c.requires.each c.loop-i.i (omega arith) (sym c.kind_at.ensures ∙ c.if-kind_at-eq-RECORD.true)

pub loop-i-preserved : goal.loop-i-preserved
loop-i-preserved c =
    let l = c.loop-i in
    let k = c.kind_at.ensures in
    elim c.if-kind_at-eq-RECORD.branch [
      | then-kind_at-eq-RECORD+else-entries-at-lt-ENTRY_SIZE w ↦
          rw (w.at-is, w.entries-is, w.put_entry.ensures, w.word_at.ensures) (pass-entry _ _ _ l.invariant (omega arith) (sym k ∙ w.if-kind_at-eq-RECORD.true) (omega arith))
      | else-kind_at-eq-RECORD w ↦ rw (w.at-is, w.entries-is) (pass-other _ _ _ l.invariant (omega arith) (λ e. w.if-kind_at-eq-RECORD.false (k ∙ e)))
    ]

pub returns : goal.returns
returns c = pass-end _ _ _ c.loop-i.invariant (omega arith)
