-- `store_number` meets its contract. The loop's invariant: the bytes so far are stored, and `rest` has the others.
use mathlib.Core.Path.{◌≡◌}
use Prim.Native.Nat.{◌/◌, ◌^◌}
use lib.Seq.{sets}
use Rattle.byte_records.specs.Number.{bytes_of}
use Rattle.byte_records.proofs.store.store_number.Given as goal

abbrev pub invariant-loop-k : goal.invariant-loop-k
invariant-loop-k g l = (l.out ≡ sets l.initial.out l.at (bytes_of l.k l.v)) × (l.rest ≡ l.v / 256 ^ l.k)
