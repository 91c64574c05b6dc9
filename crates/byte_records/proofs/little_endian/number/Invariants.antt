-- `number` meets its contract. The loop's invariant: n is the number in the bytes so far.
use Rattle.byte_records.proofs.Number.{Read}
use Rattle.byte_records.proofs.little_endian.number.Given as goal

abbrev pub invariant-loop-k : goal.invariant-loop-k
invariant-loop-k g l = Read l.n l.s l.p l.k
