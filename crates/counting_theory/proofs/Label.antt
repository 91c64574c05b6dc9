-- The laws of labels and counts.
use mathlib.Core.Path.{◌≡◌, ap}
use mathlib.Core.Bool.{Bool, true, false, cond}
use mathlib.Core.List.{[]}
use Prim.Native.Nat.{ℕ, ◌+◌, compare}
use native.Mathlib.Omega.{arith}
use lib.Dec.{eqb}
use Rattle.counting_theory.specs.Payload.{Payload, join}
use Rattle.counting_theory.specs.Order.{then, compare_pair, compare_on}
use Rattle.counting_theory.specs.Inside.TrieLaws.{IsOrder, TrieLaws}
use Rattle.counting_theory.specs.Label.{Label, field_kind, field_label, parts, compare_label, Counting}
use Rattle.counting_theory.proofs.Payload.{join-comm, join-assoc, count-join}
use Rattle.counting_theory.proofs.Order.{number-order, then_same, pair-order, order-on}
use Rattle.counting_theory.proofs.KeyOrder.{keys-order}

parts-apart : (l m : Label) → parts l ≡ parts m → l ≡ m
parts-apart l m e = λ i. record { kind = (e i).0; key = (e i).1.0; keys = (e i).1.1 }

pub label-order : IsOrder compare_label
label-order = order-on (pair-order number-order (pair-order number-order keys-order)) parts parts-apart

pub kind-eq : {l m : Label} → l ≡ m → l.kind ≡ m.kind
kind-eq e = ap (λ (n : Label). n.kind) e

pub key-eq : {l m : Label} → l ≡ m → l.key ≡ m.key
key-eq e = ap (λ (n : Label). n.key) e

pub keys-eq : {l m : Label} → l ≡ m → l.keys ≡ m.keys
keys-eq e = ap (λ (n : Label). n.keys) e

pub compare-fields : (k j : ℕ) → compare_label (field_label k) (field_label j) ≡ compare k j
unfolding compare_on compare_pair then
compare-fields k j = rw (keys-order.compare_refl []) (then_same (compare k j))

weight-add : (t : Bool) (a b : Payload) → cond t 0 (join a b).count ≡ cond t 0 a.count + cond t 0 b.count
weight-add true a b = omega arith
weight-add false a b = count-join a b

pub counting-laws : TrieLaws Counting
counting-laws =
    record {
      order = label-order;
      join-comm = join-comm;
      join-assoc = join-assoc;
      weight-join = λ l a b. weight-add (eqb l.kind field_kind) a b;
    }
