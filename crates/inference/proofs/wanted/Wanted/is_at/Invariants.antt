-- `is_at` meets its contract. The loop's invariant: the keys before are the same.
use Prim.Native.Nat.Ordering.{eq}
use Prim.Native.Nat.{◌/◌}
use lib.ListN.{length}
use Rattle.inference.proofs.InPlace.Compare.{KeysLeft}
use Rattle.inference.proofs.wanted.Wanted.is_at.Given as goal

abbrev pub invariant-loop-i : goal.invariant-loop-i
invariant-loop-i l = KeysLeft l.b l.p l.self.keys.now (length l.self.keys.now / 2) l.end eq l.i l.j
