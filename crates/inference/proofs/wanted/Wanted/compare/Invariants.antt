-- `compare` meets its contract.
use Prim.Native.Nat.{◌-◌, ◌/◌}
use lib.ListN.{length}
use Rattle.type_arena.specs.Inside.LabelOrder.{ordering_of}
use Rattle.inference.proofs.InPlace.Compare.{KeysLeft}
use Rattle.inference.proofs.wanted.Wanted.compare.Given as goal

abbrev pub invariant-loop-i : goal.invariant-loop-i
invariant-loop-i l = KeysLeft l.b l.p l.self.keys.now (length l.self.keys.now / 2) l.end (ordering_of l.so_far) l.i l.j

abbrev pub decreases-loop-i : goal.decreases-loop-i
decreases-loop-i l = l.keys - l.i
