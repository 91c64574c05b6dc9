-- `open_gap` meets its contract. The loop's invariant: the elements from i on have moved.
use Rattle.byte_records.proofs.Gap.{Moved}
use Rattle.byte_records.proofs.store.open_gap.Given as goal

abbrev pub invariant-loop-i : goal.invariant-loop-i
invariant-loop-i l = Moved l.initial.b l.n l.gap l.b l.i
