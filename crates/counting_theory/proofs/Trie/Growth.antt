-- Adding never makes a trie smaller, nor the total of any of its unions.
use mathlib.Core.Path.{◌≡◌, refl, ap}
use Prim.Native.Nat.Ordering.{eq}
use Prim.Native.Nat.Ordering.{gt}
use Prim.Native.Nat.Ordering.{lt}
use Prim.Native.Nat.{ℕ, ◌+◌, ◌≤◌, max, Ordering}
use native.Mathlib.Nat.{le_refl}
use native.Mathlib.Omega.{arith}
use Rattle.counting_theory.specs.Trie.{nil, node, TrieOps, size, Trie, insert_step, insert, add, profile, Sorted, total, largest_below, largest_total}
use Rattle.counting_theory.specs.Inside.TrieLaws.{TrieLaws, NoLarger}
use Rattle.counting_theory.proofs.Trie.Profile.{add_comm}

largest-le : (w w' x x' y y' z z' : ℕ) → w ≤ w' → x ≤ x' → max x y ≤ max x' y' → z ≤ z' → max (w + x) (max z y) ≤ max (w' + x') (max z' y')
largest-le w w' x x' y y' z z' h i j k = omega arith

module _ {T : TrieOps} where
  open T use {Label, Payload, weight}

  pub no_larger-refl : (f : Trie T) → NoLarger T f f
  no_larger-refl f = omega arith

  pub no_larger-trans : {f g h : Trie T} → NoLarger T f g → NoLarger T g h → NoLarger T f h
  no_larger-trans i j = omega arith

  pub no_larger-next : (l : Label) (a : Payload) (c s : Trie T) → NoLarger T s (node l a c s)
  unfolding size total largest_below largest_total
  no_larger-next l a c s = omega arith

  pub no_larger-node : (l : Label) (a b : Payload) (c d s t : Trie T) → weight l a ≤ weight l b → NoLarger T c d → NoLarger T s t →
      NoLarger T (node l a c s) (node l b d t)
  unfolding size total largest_below largest_total
  no_larger-node l a b c d s t h i j =
      record {
        sizes = omega arith;
        totals = omega arith;
        largest = largest-le (weight l a) (weight l b) (total T s) (total T t) (largest_below T s) (largest_below T t) _ _ h j.totals j.largest i.largest;
      }

module _ {T : TrieOps} (W : TrieLaws T) where
  open T use {Label, Payload, compare, weight}
  open W use {order, weight-join}

  module _ (l : Label) (a : Payload) (g : Trie T → Trie T) where
    total-insert : (f : Trie T) → total T (insert T l a g f) ≡ weight l a + total T f
    unfolding total insert insert_step
    total-insert nil = refl
    total-insert (node k b d s) = go (compare l k) refl (total-insert s)
      where
        go : (o : Ordering) → compare l k ≡ o → total T (insert T l a g s) ≡ weight l a + total T s →
            total T (insert_step T o l a g k b d s (insert T l a g s)) ≡ weight l a + (weight k b + total T s)
        go lt e i = refl
        go eq e i = omega (arith, weight-join k b a, ap (λ x. weight x a) (order.compare-eq e))
        go gt e i = omega arith

    insert-grows : ((c : Trie T) → NoLarger T c (g c)) → (f : Trie T) → NoLarger T f (insert T l a g f)
    unfolding insert insert_step
    insert-grows h nil = no_larger-next l a (g nil) nil
    insert-grows h (node k b d s) = go (compare l k) (insert-grows h s)
      where
        go : (o : Ordering) → NoLarger T s (insert T l a g s) → NoLarger T (node k b d s) (insert_step T o l a g k b d s (insert T l a g s))
        go lt i = no_larger-next l a (g nil) (node k b d s)
        go eq i = no_larger-node k b _ d (g d) s s (omega (arith, weight-join k b a)) (h d) (no_larger-refl s)
        go gt i = no_larger-node k b b d d s (insert T l a g s) (le_refl _) (no_larger-refl d) i

  -- the total of what is added and of what was there
  pub total-add : (r f : Trie T) → total T (add T r f) ≡ total T r + total T f
  unfolding total add
  total-add nil f = omega arith
  total-add (node l a c s) f = omega (arith, total-add s (insert T l a (add T c) f), total-insert l a (add T c) f)

  pub add-grows : (r f : Trie T) → NoLarger T f (add T r f)
  unfolding add
  add-grows nil f = no_larger-refl f
  add-grows (node l a c s) f = no_larger-trans (insert-grows l a (add T c) (add-grows c) f) (add-grows s (insert T l a (add T c) f))

  pub profile-grows : (r f : Trie T) → Sorted T f → NoLarger T (profile T r) (add T r f)
  profile-grows r f u = rw (add_comm W r f u) (add-grows f (profile T r))
