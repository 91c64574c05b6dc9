-- `put_bytes` meets its contract. The loop's invariant: what is left to copy gives what is to be stored.
use mathlib.Core.Path.{◌≡◌}
use Prim.Native.Nat.{◌+◌}
use lib.ListN.{length, drop}
use lib.Seq.{sets}
use Rattle.byte_records.proofs.store.put_bytes.Given as goal

abbrev pub invariant-loop-k : goal.invariant-loop-k
invariant-loop-k l =
    (length l.out ≡ length l.initial.out) × (sets l.out (l.at + l.k) (drop l.k l.src) ≡ sets l.initial.out l.at l.src)
