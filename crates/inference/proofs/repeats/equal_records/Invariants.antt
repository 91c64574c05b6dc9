-- `equal_records` meets its contract. The loop's invariant: the records before are equal.
use Rattle.inference.specs.Inside.Inferring.{EqualRecords}
use Rattle.inference.proofs.repeats.equal_records.Given as goal

abbrev pub invariant-loop-n : goal.invariant-loop-n
invariant-loop-n l = EqualRecords l.t l.i l.j l.n
