-- Adding to a sorted trie and merging two keep the order.
use mathlib.Core.Path.{◌≡◌, refl, ◌∙◌, ap}
use Prim.Native.Nat.Ordering.{eq}
use Prim.Native.Nat.Ordering.{gt}
use Prim.Native.Nat.Ordering.{lt}
use Prim.Native.Nat.{Ordering}
use Rattle.counting_theory.specs.Inside.TrieLaws.{flip, TrieLaws}
use Rattle.counting_theory.specs.Trie.{nil, node, TrieOps, Trie, insert_step, insert, add, profile, reduce_step, reduce_node, reduce, Before, Sorted}

module _ {T : TrieOps} (W : TrieLaws T) where
  open T use {Label, Payload, compare}
  open W use {order}
  open order use {compare-eq, compare-flip, compare-trans}

  pub flip-gt : {x y : Label} → compare x y ≡ gt → compare y x ≡ lt
  flip-gt {x} {y} e = compare-flip x y ∙ ap flip e

  pub before-trans : (x k : Label) (f : Trie T) → compare x k ≡ lt → Before T k f → Before T x f
  before-trans x k nil e u = tt
  before-trans x k (node l a c s) e u = compare-trans e u

  module _ (l : Label) (a : Payload) (g : Trie T → Trie T) where
    before-insert : (x : Label) (f : Trie T) → compare x l ≡ lt → Before T x f → Before T x (insert T l a g f)
    unfolding insert insert_step
    before-insert x nil e u = e
    before-insert x (node k b d s) e u = go (compare l k)
      where
        go : (o : Ordering) → Before T x (insert_step T o l a g k b d s (insert T l a g s))
        go lt = e
        go eq = u
        go gt = u

    sorted_insert : ((c : Trie T) → Sorted T c → Sorted T (g c)) → (f : Trie T) → Sorted T f → Sorted T (insert T l a g f)
    unfolding insert insert_step
    sorted_insert h nil u = (tt, h nil tt, tt)
    sorted_insert h (node k b d s) u = go (compare l k) refl (sorted_insert h s u.2)
      where
        go : (o : Ordering) → compare l k ≡ o → Sorted T (insert T l a g s) → Sorted T (insert_step T o l a g k b d s (insert T l a g s))
        go lt e i = (e, h nil tt, u)
        go eq e i = (u.0, h d u.1, u.2)
        go gt e i = (before-insert k s (flip-gt e) u.0, u.1, i)

  pub sorted-add : (r f : Trie T) → Sorted T f → Sorted T (add T r f)
  unfolding add
  sorted-add nil f u = u
  sorted-add (node l a c s) f u = sorted-add s (insert T l a (add T c) f) (sorted_insert l a (add T c) (sorted-add c) f u)

  pub sorted-profile : (r : Trie T) → Sorted T (profile T r)
  sorted-profile r = sorted-add r nil tt

  module _ (l : Label) (a : Payload) (c : Trie T) (reduce_c reduce_s : Trie T → Trie T) where
    before-reduce_node : (x : Label) (g : Trie T) → compare x l ≡ lt → Before T x g → Before T x (reduce_node T l a c reduce_c reduce_s g)
    unfolding reduce_node reduce_step
    before-reduce_node x nil e v = e
    before-reduce_node x (node k b d t) e v = go (compare l k)
      where
        go : (o : Ordering) → Before T x (reduce_step T o l a c reduce_c reduce_s k b d t (reduce_node T l a c reduce_c reduce_s t))
        go lt = e
        go eq = e
        go gt = v

    sorted-reduce_node : Sorted T c → ((d : Trie T) → Sorted T d → Sorted T (reduce_c d)) → ((t : Trie T) → Sorted T t → Sorted T (reduce_s t)) →
        ((t : Trie T) → Before T l t → Before T l (reduce_s t)) → (g : Trie T) → Sorted T g → Sorted T (reduce_node T l a c reduce_c reduce_s g)
    unfolding reduce_node reduce_step
    sorted-reduce_node uc hc hs bs nil v = (bs nil tt, uc, hs nil tt)
    sorted-reduce_node uc hc hs bs (node k b d t) v = go (compare l k) refl (sorted-reduce_node uc hc hs bs t v.2)
      where
        go : (o : Ordering) → compare l k ≡ o → Sorted T (reduce_node T l a c reduce_c reduce_s t) →
            Sorted T (reduce_step T o l a c reduce_c reduce_s k b d t (reduce_node T l a c reduce_c reduce_s t))
        go lt e i = (bs (node k b d t) e, uc, hs (node k b d t) v)
        go eq e i = (bs t (rw (compare-eq e) v.0), hc d v.1, hs t v.2)
        go gt e i = (before-reduce_node k t (flip-gt e) v.0, v.1, i)

  before-reduce : (x : Label) (f g : Trie T) → Before T x f → Before T x g → Before T x (reduce T f g)
  unfolding reduce
  before-reduce x nil g u v = v
  before-reduce x (node l a c s) g u v = before-reduce_node l a c (reduce T c) (reduce T s) x g u v

  pub sorted-reduce : (f g : Trie T) → Sorted T f → Sorted T g → Sorted T (reduce T f g)
  unfolding reduce
  sorted-reduce nil g u v = v
  sorted-reduce (node l a c s) g u v =
      sorted-reduce_node l a c (reduce T c) (reduce T s) u.1 (λ d. sorted-reduce c d u.1) (λ t. sorted-reduce s t u.2) (λ t. before-reduce l s t u.0) g v
