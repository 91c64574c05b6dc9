-- The laws of labels and counts, for removal's types.
use mathlib.Core.Path.{◌≡◌}
use mathlib.Core.Bool.{Bool, true, false, cond}
use Prim.Native.Nat.{◌+◌}
use native.Mathlib.Omega.{arith}
use lib.Dec.{eqb}
use Rattle.counting_theory.proofs.Label.{label-order}
use Rattle.removal_theory.specs.Payload.{Payload, join}
use Rattle.counting_theory.specs.Inside.TrieLaws.{TrieLaws}
use Rattle.counting_theory.specs.Label.{field_kind}
use Rattle.removal_theory.specs.Label.{Counting}
use Rattle.removal_theory.proofs.Payload.{join-comm, join-assoc, count-join}

weight-add : (t : Bool) (a b : Payload) → cond t 0 (join a b).count ≡ cond t 0 a.count + cond t 0 b.count
weight-add true a b = omega arith
weight-add false a b = count-join a b

pub counting-laws : TrieLaws Counting
counting-laws =
    record {
      order = label-order;
      join-comm = join-comm;
      join-assoc = join-assoc;
      weight-join = λ l a b. weight-add (eqb l.kind field_kind) a b;
    }
