-- Canonicity: two sorted tries with the same map are equal.
use mathlib.Core.Path.{◌≡◌, refl, sym}
use mathlib.Core.List.{List, [], ◌∷◌}
use mathlib.Core.Option.{Option, none, some}
use Prim.Native.Nat.Ordering.{eq}
use Prim.Native.Nat.Ordering.{gt}
use Prim.Native.Nat.Ordering.{lt}
use Prim.Native.Nat.{ℕ, Ordering}
use native.Mathlib.Omega.{arith}
use Rattle.counting_theory.specs.Inside.TrieLaws.{TrieLaws, SameMap}
use Rattle.counting_theory.specs.Trie.{nil, node, TrieOps, at_end, when_equal, Trie, ◌⊞◌ as join_option, lookup_node, lookup, Before, Sorted}
use Rattle.counting_theory.proofs.Trie.Join.{⊞-none}
use Rattle.counting_theory.proofs.Trie.Sorted.{flip-gt, before-trans}

pub some-none : {A : Type 0} {a : A} → some a ≡ none → ⊥
some-none e = let z : ◌≡◌ {A = ℕ} 0 1 = cc in omega arith

module _ (T : TrieOps) where
  open T use {Label, Payload}

  -- the maps of f and g are related at each path
  abbrev pub Pointwise : (Option Payload → Option Payload → Type 0) → Trie T → Trie T → Type 0
  Pointwise R f g = (q : List Label) → R (lookup T f q) (lookup T g q)

module _ {T : TrieOps} (W : TrieLaws T) where
  open T use {Label, Payload, compare}
  open W use {order}
  open order use {compare_refl, compare-eq}

  pub lookup-root : (f : Trie T) → lookup T f [] ≡ none
  unfolding lookup lookup_node join_option
  lookup-root nil = refl
  lookup-root (node l a c s) = lookup-root s

  pub lookup-before : (x : Label) (q : List Label) (f : Trie T) → Before T x f → Sorted T f → lookup T f (x ∷ q) ≡ none
  unfolding lookup lookup_node when_equal join_option
  lookup-before x q nil e u = refl
  lookup-before x q (node k b d s) e u = rw e (lookup-before x q s (before-trans W x k s e u.0) u.2)

  pub lookup_head : (l : Label) (a : Payload) (c s : Trie T) (q : List Label) → Sorted T (node l a c s) →
      lookup T (node l a c s) (l ∷ q) ≡ at_end a (lookup T c q) q
  unfolding lookup lookup_node when_equal
  lookup_head l a c s q u = rw (compare_refl l, lookup-before l q s u.0 u.2) (⊞-none W _)

  pub lookup-next : (x l : Label) (a : Payload) (c s : Trie T) (q : List Label) → compare x l ≡ gt → lookup T (node l a c s) (x ∷ q) ≡ lookup T s (x ∷ q)
  unfolding lookup lookup_node when_equal join_option
  lookup-next x l a c s q e = rw e refl

  -- what related maps say of two first nodes
  module _ (R : Option Payload → Option Payload → Type 0) (l : Label) (a : Payload) (c s : Trie T) (u : Sorted T (node l a c s)) where
    pub head-only : (g : Trie T) → Before T l g → Sorted T g → Pointwise T R (node l a c s) g → R (some a) none
    unfolding at_end
    head-only g e v h = rw (lookup_head l a c s [] u, lookup-before l [] g e v) at (h (l ∷ []))

    module _ (r : R none none) (b : Payload) (d t : Trie T) (v : Sorted T (node l b d t)) (h : Pointwise T R (node l a c s) (node l b d t)) where
      pub head-payload : R (some a) (some b)
      unfolding at_end
      head-payload = rw (lookup_head l a c s [] u, lookup_head l b d t [] v) at (h (l ∷ []))

      pub head-children : Pointwise T R c d
      unfolding at_end
      head-children [] = rw (lookup-root c, lookup-root d) r
      head-children (x ∷ q) = rw (lookup_head l a c s (x ∷ q) u, lookup_head l b d t (x ∷ q) v) at (h (l ∷ x ∷ q))

      pub head-next : Pointwise T R s t
      head-next [] = rw (lookup-root s, lookup-root t) r
      head-next (x ∷ q) = go (compare x l) refl
        where
          absent : Before T x s → Before T x t → R (lookup T s (x ∷ q)) (lookup T t (x ∷ q))
          absent y z = rw (lookup-before x q s y u.2, lookup-before x q t z v.2) r

          go : (o : Ordering) → compare x l ≡ o → R (lookup T s (x ∷ q)) (lookup T t (x ∷ q))
          go lt e = absent (before-trans W x l s e u.0) (before-trans W x l t e v.0)
          go eq e = absent (rw (compare-eq e) u.0) (rw (compare-eq e) v.0)
          go gt e = rw (lookup-next x l a c s q e, lookup-next x l b d t q e) at (h (x ∷ q))

  pub canonical : {f g : Trie T} → Sorted T f → Sorted T g → SameMap T f g → f ≡ g
  canonical {f = nil} {g = nil} u v h = refl
  canonical {f = nil} {g = node k b d t} u v h = absurd (some-none (head-only ◌≡◌ k b d t v nil tt u (λ p. sym (h p))))
  canonical {f = node l a c s} {g = nil} u v h = absurd (some-none (head-only ◌≡◌ l a c s u nil tt v h))
  canonical {f = node l a c s} {g = node k b d t} u v h = go (compare l k) refl (canonical {f = c} {g = d} u.1 v.1) (canonical {f = s} {g = t} u.2 v.2)
    where
      go : (o : Ordering) → compare l k ≡ o → (SameMap T c d → c ≡ d) → (SameMap T s t → s ≡ t) → node l a c s ≡ node k b d t
      go lt e hc hs = absurd (some-none (head-only ◌≡◌ l a c s u (node k b d t) e v h))
      go eq e hc hs =
          let z = compare-eq e in
          let v' : Sorted T (node l b d t) = rw z v in
          let h' : SameMap T (node l a c s) (node l b d t) = rw z (rw z at h) in
          let x : some a ≡ some b = head-payload ◌≡◌ l a c s u refl b d t v' h' in
          let y = hc (head-children ◌≡◌ l a c s u refl b d t v' h') in
          let w = hs (head-next ◌≡◌ l a c s u refl b d t v' h') in
          cc
      go gt e hc hs = absurd (some-none (head-only ◌≡◌ k b d t v (node l a c s) (flip-gt W e) u (λ p. sym (h p))))
