-- The merge of two tries: its total, its size, and the merge with the empty trie.
use mathlib.Core.Path.{◌≡◌, refl, ap}
use Prim.Native.Nat.Ordering.{eq}
use Prim.Native.Nat.Ordering.{gt}
use Prim.Native.Nat.Ordering.{lt}
use Prim.Native.Nat.{◌+◌, ◌≤◌, Ordering}
use native.Mathlib.Omega.{arith}
use Rattle.counting_theory.specs.Trie.{nil, node, TrieOps, size, Trie, reduce_step, reduce_node, reduce, total}
use Rattle.counting_theory.specs.Inside.TrieLaws.{TrieLaws}

module _ (T : TrieOps) where
  open T use {Label, Payload, compare}

  pub reduce-nil : (f : Trie T) → reduce T f nil ≡ f
  unfolding reduce reduce_node
  reduce-nil nil = refl
  reduce-nil (node l a c s) = rw (reduce-nil s) refl

  module _ (l : Label) (a : Payload) (c s : Trie T) where
    abbrev merge : Trie T → Trie T
    merge = reduce_node T l a c (reduce T c) (reduce T s)

    size-reduce_node : ((d : Trie T) → size (reduce T c d) ≤ size c + size d) → ((t : Trie T) → size (reduce T s t) ≤ size s + size t) →
        (g : Trie T) → size (merge g) ≤ (1 + (size c + size s)) + size g
    unfolding size reduce_node reduce_step
    size-reduce_node hc hs nil = omega (arith, hs nil)
    size-reduce_node hc hs (node k b d t) = go (compare l k) (size-reduce_node hc hs t)
      where
        go : (o : Ordering) → size (merge t) ≤ (1 + (size c + size s)) + size t →
            size (reduce_step T o l a c (reduce T c) (reduce T s) k b d t (merge t)) ≤ (1 + (size c + size s)) + (1 + (size d + size t))
        go lt i = omega (arith, hs (node k b d t))
        go eq i = omega (arith, hs t, hc d)
        go gt i = omega arith

  pub size-reduce : (f g : Trie T) → size (reduce T f g) ≤ size f + size g
  unfolding size reduce
  size-reduce nil g = omega arith
  size-reduce (node l a c s) g = size-reduce_node l a c s (size-reduce c) (size-reduce s) g

module _ {T : TrieOps} (W : TrieLaws T) where
  open T use {Label, Payload, compare, weight}
  open W use {order, weight-join}

  module _ (l : Label) (a : Payload) (c s : Trie T) where
    total-reduce_node : ((t : Trie T) → total T (reduce T s t) ≡ total T s + total T t) →
        (g : Trie T) → total T (merge T l a c s g) ≡ (weight l a + total T s) + total T g
    unfolding total reduce_node reduce_step
    total-reduce_node hs nil = omega (arith, hs nil)
    total-reduce_node hs (node k b d t) = go (compare l k) refl (total-reduce_node hs t)
      where
        go : (o : Ordering) → compare l k ≡ o → total T (merge T l a c s t) ≡ (weight l a + total T s) + total T t →
            total T (reduce_step T o l a c (reduce T c) (reduce T s) k b d t (merge T l a c s t)) ≡ (weight l a + total T s) + (weight k b + total T t)
        go lt e i = omega (arith, hs (node k b d t))
        go eq e i = omega (arith, hs t, weight-join l a b, ap (λ x. weight x b) (order.compare-eq e))
        go gt e i = omega arith

  pub total-reduce : (f g : Trie T) → total T (reduce T f g) ≡ total T f + total T g
  unfolding total reduce
  total-reduce nil g = omega arith
  total-reduce (node l a c s) g = total-reduce_node l a c s (total-reduce s) g
