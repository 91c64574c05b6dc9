-- Relabelling before or after adding gives one map, and a profile is no larger than what it is made of.
use mathlib.Core.Path.{◌≡◌, refl, sym, ◌∙◌}
use mathlib.Core.List.{List}
use mathlib.Core.Option.{Option}
use Prim.Native.Nat.Ordering.{eq}
use Prim.Native.Nat.Ordering.{gt}
use Prim.Native.Nat.Ordering.{lt}
use Prim.Native.Nat.{ℕ, ◌+◌, ◌≤◌, Ordering}
use native.Mathlib.Omega.{arith}
use Rattle.counting_theory.specs.Trie.{nil, node, TrieOps, size, Trie, ◌⊞◌ as join_option, lookup_node, lookup, insert_step, insert, add, profile, reduce, Sorted}
use Rattle.counting_theory.specs.Inside.TrieLaws.{TrieLaws, append}
use Rattle.counting_theory.proofs.Trie.Join.{⊞-none, ⊞-assoc, ⊞-left-comm}
use Rattle.counting_theory.proofs.Trie.Lookup.{node-cong, node-join, lookup-append}
use Rattle.counting_theory.proofs.Trie.Profile.{profile-cong, reduce-profile, reduce-add}
use Rattle.folding.specs.Fold.{relabel}

module _ {T : TrieOps} (W : TrieLaws T) (r : T.Label → T.Label) where
  open T use {Label, Payload, compare}
  open W use {order, join-comm}

  infixr 66 ◌⊞◌
  abbrev ◌⊞◌ : Option Payload → Option Payload → Option Payload
  x ⊞ y = join_option T x y

  -- the map after relabelling
  abbrev after : Trie T → List Label → Option Payload
  after f p = lookup T (relabel r f) p

  module _ (l : Label) (a : Payload) (g : Trie T → Trie T) (G : List Label → Option Payload)
      (h : (c : Trie T) (q : List Label) → after (g c) q ≡ G q ⊞ after c q) where
    after-new : (p : List Label) → lookup_node T (r l) a (after (g nil)) p ≡ lookup_node T (r l) a G p
    unfolding lookup relabel
    after-new = node-cong W (r l) a (after (g nil)) G (λ q. h nil q ∙ ⊞-none W (G q))

    after-insert : (f : Trie T) (p : List Label) → after (insert T l a g f) p ≡ lookup_node T (r l) a G p ⊞ after f p
    unfolding lookup insert insert_step relabel
    after-insert nil p = rw (after-new p) refl
    after-insert (node k b d s) p = go (compare l k) refl (after-insert s p)
      where
        go : (o : Ordering) → compare l k ≡ o → after (insert T l a g s) p ≡ lookup_node T (r l) a G p ⊞ after s p →
            after (insert_step T o l a g k b d s (insert T l a g s)) p ≡ lookup_node T (r l) a G p ⊞ (lookup_node T (r k) b (after d) p ⊞ after s p)
        go lt e i = rw (after-new p) refl
        go eq e i = rw (order.compare-eq e, join-comm b a, node-join W (r k) a b G (after d) (after (g d)) (h d) p) (⊞-assoc W _ _ _)
        go gt e i = rw i (⊞-left-comm W _ _ _)

  after-add : (f g : Trie T) (p : List Label) → after (add T f g) p ≡ after f p ⊞ after g p
  unfolding lookup add join_option relabel
  after-add nil g p = refl
  after-add (node l a c s) g p =
      after-add s (insert T l a (add T c) g) p ∙ rw (after-insert l a (add T c) (after c) (after-add c) g p)
      (⊞-left-comm W (after s p) (lookup_node T (r l) a (after c) p) (after g p) ∙ sym (⊞-assoc W (lookup_node T (r l) a (after c) p) (after s p) (after g p)))

  -- a profile relabelled is the profile of what is relabelled
  pub profile-relabel : (f : Trie T) → profile T (relabel r (profile T f)) ≡ profile T (relabel r f)
  unfolding lookup relabel
  profile-relabel f = profile-cong W (relabel r (profile T f)) (relabel r f) (λ p. after-add f nil p ∙ ⊞-none W (after f p))

  pub reduce-relabel : (f g : Trie T) → Sorted T f → Sorted T g →
      profile T (relabel r (reduce T f g)) ≡ reduce T (profile T (relabel r f)) (profile T (relabel r g))
  reduce-relabel f g u v =
      rw (reduce-add W f g u v)
      (profile-cong W (relabel r (add T f g)) (append (relabel r f) (relabel r g)) (λ p. after-add f g p ∙ sym (lookup-append W (relabel r f) (relabel r g) p))
      ∙ sym (reduce-profile W (relabel r f) (relabel r g)))

  pub size-relabel : (f : Trie T) → size (relabel r f) ≡ size f
  unfolding size relabel
  size-relabel nil = refl
  size-relabel (node l a c s) = omega (arith, size-relabel c, size-relabel s)

module _ (T : TrieOps) where
  open T use {Label, Payload, compare}

  size-insert : (l : Label) (a : Payload) (n : ℕ) (g : Trie T → Trie T) → ((d : Trie T) → size (g d) ≤ n + size d) →
      (f : Trie T) → size (insert T l a g f) ≤ 1 + n + size f
  unfolding size insert insert_step
  size-insert l a n g h nil = omega (arith, h nil)
  size-insert l a n g h (node k b d s) = go (compare l k) (size-insert l a n g h s)
    where
      go : (o : Ordering) → size (insert T l a g s) ≤ 1 + n + size s → size (insert_step T o l a g k b d s (insert T l a g s)) ≤ 1 + n + (1 + (size d + size s))
      go lt i = omega (arith, h nil)
      go eq i = omega (arith, h d)
      go gt i = omega arith

  size-add : (r f : Trie T) → size (add T r f) ≤ size r + size f
  unfolding size add
  size-add nil f = omega arith
  size-add (node l a c s) f = omega (arith, size-add s (insert T l a (add T c) f), size-insert l a (size c) (add T c) (size-add c) f)

  pub size-profile : (r : Trie T) → size (profile T r) ≤ size r
  unfolding size
  size-profile r = omega (arith, size-add r nil)
