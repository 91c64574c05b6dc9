-- The map that a forest gives: add, append and reduce join the maps, sorted or not.
use mathlib.Core.Path.{◌≡◌, refl, sym, ◌∙◌, ap}
use mathlib.Core.List.{List, [], ◌∷◌}
use mathlib.Core.Option.{Option}
use Prim.Native.Nat.Ordering.{eq}
use Prim.Native.Nat.Ordering.{gt}
use Prim.Native.Nat.Ordering.{lt}
use Prim.Native.Nat.{Ordering}
use Rattle.counting_theory.specs.Trie.{nil, node, TrieOps, at_end, when_equal, Trie, ◌⊞◌ as join_option, lookup_node, lookup, insert_step, insert, add, reduce_step, reduce_node, reduce}
use Rattle.counting_theory.specs.Inside.TrieLaws.{TrieLaws, append}
use Rattle.counting_theory.proofs.Trie.Join.{⊞-none, ⊞-assoc, ⊞-left-comm}

module _ {T : TrieOps} (W : TrieLaws T) where
  open T use {Label, Payload, compare, join as ◌⊕◌}
  open W use {order, join-comm}

  infixr 66 ◌⊕◌
  infixr 66 ◌⊞◌
  abbrev ◌⊞◌ : Option Payload → Option Payload → Option Payload
  x ⊞ y = join_option T x y

  pub at_end-join : (a b : Payload) (x y : Option Payload) (q : List Label) → at_end (a ⊕ b) (x ⊞ y) q ≡ at_end a x q ⊞ at_end b y q
  unfolding at_end join_option
  at_end-join a b x y [] = refl
  at_end-join a b x y (z ∷ q) = refl

  when_equal-join : (o : Ordering) (x y : Option Payload) → when_equal o (x ⊞ y) ≡ when_equal o x ⊞ when_equal o y
  unfolding when_equal join_option
  when_equal-join lt x y = refl
  when_equal-join eq x y = refl
  when_equal-join gt x y = refl

  pub node-cong : (l : Label) (a : Payload) (F G : List Label → Option Payload) → ((q : List Label) → F q ≡ G q) →
      (p : List Label) → lookup_node T l a F p ≡ lookup_node T l a G p
  unfolding lookup_node
  node-cong l a F G h [] = refl
  node-cong l a F G h (x ∷ q) = ap (λ y. when_equal (compare x l) (at_end a y q)) (h q)

  -- a node with both payloads, whose children H give what F and G give together
  pub node-join : (l : Label) (a b : Payload) (F G H : List Label → Option Payload) → ((q : List Label) → H q ≡ F q ⊞ G q) →
      (p : List Label) → lookup_node T l (a ⊕ b) H p ≡ lookup_node T l a F p ⊞ lookup_node T l b G p
  unfolding lookup_node join_option
  node-join l a b F G H h [] = refl
  node-join l a b F G H h (x ∷ q) =
      rw (h q, at_end-join a b (F q) (G q) q) (when_equal-join (compare x l) (at_end a (F q) q) (at_end b (G q) q))

  -- g joins the map G to a trie's
  abbrev Joins : (Trie T → Trie T) → (List Label → Option Payload) → Type 0
  Joins g G = (c : Trie T) (q : List Label) → lookup T (g c) q ≡ G q ⊞ lookup T c q

  module _ (l : Label) (a : Payload) (g : Trie T → Trie T) (G : List Label → Option Payload) (h : Joins g G) where
    lookup-new : (p : List Label) → lookup_node T l a (lookup T (g nil)) p ≡ lookup_node T l a G p
    unfolding lookup
    lookup-new = node-cong l a (lookup T (g nil)) G (λ q. h nil q ∙ ⊞-none W (G q))

    lookup-insert_step : (k : Label) (b : Payload) (d s r : Trie T) (p : List Label) →
        lookup T r p ≡ lookup_node T l a G p ⊞ lookup T s p → (o : Ordering) → compare l k ≡ o →
        lookup T (insert_step T o l a g k b d s r) p ≡ lookup_node T l a G p ⊞ (lookup_node T k b (lookup T d) p ⊞ lookup T s p)
    unfolding lookup insert_step
    lookup-insert_step k b d s r p i lt e = rw (lookup-new p) refl
    lookup-insert_step k b d s r p i eq e =
        rw (order.compare-eq e, join-comm b a, node-join k a b G (lookup T d) (lookup T (g d)) (h d) p) (⊞-assoc W _ _ _)
    lookup-insert_step k b d s r p i gt e = rw i (⊞-left-comm W _ _ _)

    lookup-insert : (f : Trie T) (p : List Label) → lookup T (insert T l a g f) p ≡ lookup_node T l a G p ⊞ lookup T f p
    unfolding lookup insert
    lookup-insert nil p = rw (lookup-new p) refl
    lookup-insert (node k b d s) p = lookup-insert_step k b d s (insert T l a g s) p (lookup-insert s p) (compare l k) refl

  pub lookup-add : (r f : Trie T) (p : List Label) → lookup T (add T r f) p ≡ lookup T r p ⊞ lookup T f p
  unfolding lookup add join_option
  lookup-add nil f p = refl
  lookup-add (node l a c s) f p =
      lookup-add s (insert T l a (add T c) f) p ∙ rw (lookup-insert l a (add T c) (lookup T c) (lookup-add c) f p)
      (⊞-left-comm W (lookup T s p) (lookup_node T l a (lookup T c) p) (lookup T f p) ∙ sym (⊞-assoc W (lookup_node T l a (lookup T c) p) (lookup T s p) (lookup T f p)))

  pub lookup-append : (r s : Trie T) (p : List Label) → lookup T (append r s) p ≡ lookup T r p ⊞ lookup T s p
  unfolding append lookup join_option
  lookup-append nil g p = refl
  lookup-append (node l a c s) g p = rw (lookup-append s g p) (sym (⊞-assoc W (lookup_node T l a (lookup T c) p) (lookup T s p) (lookup T g p)))

  module _ (l : Label) (a : Payload) (c s : Trie T) (reduce_c reduce_s : Trie T → Trie T) (hc : Joins reduce_c (lookup T c)) (hs : Joins reduce_s (lookup T s)) where
    lookup-reduce_step : (k : Label) (b : Payload) (d t r : Trie T) (p : List Label) →
        lookup T r p ≡ (lookup_node T l a (lookup T c) p ⊞ lookup T s p) ⊞ lookup T t p → (o : Ordering) → compare l k ≡ o →
        lookup T (reduce_step T o l a c reduce_c reduce_s k b d t r) p ≡ (lookup_node T l a (lookup T c) p ⊞ lookup T s p) ⊞ (lookup_node T k b (lookup T d) p ⊞ lookup T t p)
    unfolding lookup reduce_step
    lookup-reduce_step k b d t r p i lt e = rw (hs (node k b d t) p) (sym (⊞-assoc W _ _ _))
    lookup-reduce_step k b d t r p i eq e =
        rw (← order.compare-eq e, hs t p, node-join l a b (lookup T c) (lookup T d) (lookup T (reduce_c d)) (hc d) p)
        (simp (⊞-assoc W) (ap (λ y. lookup_node T l a (lookup T c) p ⊞ y) (⊞-left-comm W _ _ _)))
    lookup-reduce_step k b d t r p i gt e = rw i (⊞-left-comm W _ _ _)

    lookup-reduce_node : (g : Trie T) (p : List Label) → lookup T (reduce_node T l a c reduce_c reduce_s g) p ≡ (lookup_node T l a (lookup T c) p ⊞ lookup T s p) ⊞ lookup T g p
    unfolding lookup reduce_node
    lookup-reduce_node nil p = rw (hs nil p) (sym (⊞-assoc W _ _ _))
    lookup-reduce_node (node k b d t) p = lookup-reduce_step k b d t (reduce_node T l a c reduce_c reduce_s t) p (lookup-reduce_node t p) (compare l k) refl

  pub lookup-reduce : (f g : Trie T) (p : List Label) → lookup T (reduce T f g) p ≡ lookup T f p ⊞ lookup T g p
  unfolding lookup reduce join_option
  lookup-reduce nil g p = refl
  lookup-reduce (node l a c s) g p = lookup-reduce_node l a c s (reduce T c) (reduce T s) (lookup-reduce c) (lookup-reduce s) g p
