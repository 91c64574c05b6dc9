-- No union of a profile totals more than there are values.
use mathlib.Core.Path.{◌≡◌, refl, ap}
use mathlib.Core.Bool.{Bool, true, false, cond}
use Prim.Native.Nat.Ordering.{eq}
use Prim.Native.Nat.Ordering.{gt}
use Prim.Native.Nat.Ordering.{lt}
use Prim.Native.Nat.{ℕ, ◌+◌, ◌≤◌, Ordering}
use native.Mathlib.Omega.{arith}
use lib.Dec.{eqb}
use Rattle.value_table.specs.Value.{Head, record_kind, Values, none, value}
use Rattle.value_table.specs.Value as table
use Rattle.counting_theory.specs.Payload.{one}
use Rattle.counting_theory.specs.Trie.{nil, node, TrieOps, Trie, insert_step, insert, add, total, largest_below, largest_total}
use Rattle.counting_theory.specs.Inside.TrieLaws.{TrieLaws}
use Rattle.counting_theory.specs.Label.{field_kind, Counting}
use Rattle.counting_theory.specs.declared.equivalence.Equivalence.{Equivalence}
use Rattle.counting_theory.specs.Raw.{raw, profile_of}
use Rattle.counting_theory.proofs.Payload.{count-one}
use Rattle.counting_theory.proofs.Label.{counting-laws}

module _ (T : TrieOps) where
  open T use {weight}

  -- the weights of all nodes together
  unfoldable pub weights : Trie T → ℕ
  weights nil = 0
  weights (node l a c s) = weight l a + (weights c + weights s)

module _ {T : TrieOps} (W : TrieLaws T) where
  open T use {Label, Payload, compare, weight}
  open W use {order, weight-join}

  total-le : (f : Trie T) → total T f ≤ weights T f
  unfolding total weights
  total-le nil = omega arith
  total-le (node l a c s) = omega (arith, total-le s)

  below-le : (f : Trie T) → largest_below T f ≤ weights T f
  unfolding largest_below weights
  below-le nil = omega arith
  below-le (node l a c s) = omega (arith, total-le c, below-le c, below-le s)

  -- g adds the weight w to the children
  module _ (l : Label) (a : Payload) (w : ℕ) (g : Trie T → Trie T) (adds : (d : Trie T) → weights T (g d) ≡ w + weights T d) where
    weights-insert : (f : Trie T) → weights T (insert T l a g f) ≡ weight l a + w + weights T f
    unfolding insert insert_step weights
    weights-insert nil = omega (arith, adds nil)
    weights-insert (node k b d s) = go (compare l k) refl (weights-insert s)
      where
        go : (o : Ordering) → compare l k ≡ o → weights T (insert T l a g s) ≡ weight l a + w + weights T s →
            weights T (insert_step T o l a g k b d s (insert T l a g s)) ≡ weight l a + w + (weight k b + (weights T d + weights T s))
        go lt e i = omega (arith, adds nil)
        go eq e i = omega (arith, adds d, weight-join k b a, ap (λ x. weight x a) (order.compare-eq e))
        go gt e i = omega arith

  pub weights-add : (r f : Trie T) → weights T (add T r f) ≡ weights T r + weights T f
  unfolding add weights
  weights-add nil f = omega arith
  weights-add (node l a c s) f =
      omega (arith, weights-add s (insert T l a (add T c) f), weights-insert l a (weights T c) (add T c) (weights-add c) f)

  pub largest-le : (f : Trie T) → largest_total T f ≤ weights T f
  unfolding largest_total
  largest-le f = omega (arith, total-le f, below-le f)

one_at_most : (t : Bool) (head : Head) (content : Values) → cond t 0 (one head content).count ≤ 1
one_at_most true head content = omega arith
one_at_most false head content = omega (arith, count-one head content)

weights-raw : (e : Equivalence) (field : Bool) (vs : Values) → weights Counting (raw e field vs) ≤ table.size vs
unfolding raw weights table.size
weights-raw e field none = omega arith
weights-raw e true (value head key content next) =
    omega (arith, one_at_most (eqb head.kind field_kind) head content, weights-raw e (eqb head.kind record_kind) content, weights-raw e true next)
weights-raw e false (value head key content next) =
    omega (arith, one_at_most (eqb head.kind field_kind) head content, weights-raw e (eqb head.kind record_kind) content, weights-raw e false next)

pub largest-values : (e : Equivalence) (messages : Values) → largest_total Counting (profile_of e messages) ≤ table.size messages
unfolding profile_of weights
largest-values e messages =
    let r = raw e false messages in
    omega (arith, largest-le counting-laws (add Counting r nil), weights-add counting-laws r nil, weights-raw e false messages)
