-- The addends of a sorted trie are those that its map tells.
use mathlib.Core.Path.{◌≡◌, refl, sym, ◌∙◌, ap}
use mathlib.Core.Logic.{◌⊎◌, inl, inr}
use mathlib.Core.List.{List, [], ◌∷◌}
use mathlib.Core.Option.{none, some}
use Prim.Native.Nat.Ordering.{eq}
use Prim.Native.Nat.Ordering.{gt}
use Prim.Native.Nat.Ordering.{lt}
use Prim.Native.Nat.{ℕ, Ordering}
use native.Mathlib.Omega.{arith}
use Rattle.counting_theory.specs.Payload.{Payload}
use Rattle.counting_theory.specs.Inside.TrieLaws.{flip, SameMap}
use Rattle.counting_theory.specs.Trie.{nil, node, at_end, lookup, Before, Sorted}
use Rattle.counting_theory.specs.Label.{Label, compare_label, Counting, CountingType}
use Rattle.counting_theory.specs.Published.{Addend}
use Rattle.counting_theory.proofs.Trie.Sorted.{before-trans}
use Rattle.counting_theory.proofs.Trie.Canonical.{some-none, lookup-root, lookup-before, lookup_head, lookup-next, canonical}
use Rattle.counting_theory.proofs.Label.{label-order, counting-laws}
open label-order use {compare_refl, compare-eq, compare-flip}

module _ (l : Label) where
  abbrev pub Has : CountingType → Type 0
  Has f = (a : Payload) × (c : CountingType) × Addend l a c f

  -- what the map of f says of an addend with label l, and where there is none
  abbrev pub Found : Payload → CountingType → CountingType → Type 0
  Found a c f = (q : List Label) → lookup Counting f (l ∷ q) ≡ at_end a (lookup Counting c q) q

  abbrev pub Missing : CountingType → Type 0
  Missing f = (q : List Label) → lookup Counting f (l ∷ q) ≡ none

  addend-after : (k : Label) (a : Payload) (c f : CountingType) → Before Counting k f → Sorted Counting f → Addend l a c f → compare_label k l ≡ lt
  addend-after k a c nil e u m = absurd m
  addend-after k a c (node x b d s) e u (inl z) = rw z.0 e
  addend-after k a c (node x b d s) e u (inr m) = addend-after k a c s (before-trans counting-laws k x s e u.0) u.2 m

  pub before-not : (f : CountingType) → Before Counting l f → Sorted Counting f → ¬ Has f
  before-not f e u m =
      let h = addend-after l m.0 m.1 f e u m.2 in
      let i = compare_refl l in
      let z : ◌≡◌ {A = ℕ} 0 1 = cc in
      omega arith

  pub addend-sorted : (a : Payload) (c f : CountingType) → Sorted Counting f → Addend l a c f → Sorted Counting c
  addend-sorted a c nil u m = absurd m
  addend-sorted a c (node x b d s) u (inl z) = rw z.2 u.1
  addend-sorted a c (node x b d s) u (inr m) = addend-sorted a c s u.2 m

  pub addend-found : (a : Payload) (c f : CountingType) → Sorted Counting f → Addend l a c f → Found a c f
  addend-found a c nil u m q = absurd m
  addend-found a c (node x b d s) u (inl z) q = rw (z.0, z.1, z.2) (lookup_head counting-laws x b d s q u)
  addend-found a c (node x b d s) u (inr m) q =
      lookup-next counting-laws l x b d s q (compare-flip x l ∙ ap flip (addend-after x a c s u.0 u.2 m)) ∙ addend-found a c s u.2 m q

  pub found-unique : (a b : Payload) (c d f : CountingType) → Sorted Counting f → Sorted Counting c → Found a c f → Addend l b d f → (a ≡ b) × (c ≡ d)
  unfolding at_end
  found-unique a b c d f u v h m = (let z : some a ≡ some b = sym (h []) ∙ i [] in cc, canonical counting-laws v (addend-sorted b d f u m) same)
    where
      i : Found b d f
      i = addend-found b d f u m

      same : SameMap Counting c d
      same [] = lookup-root counting-laws c ∙ sym (lookup-root counting-laws d)
      same (x ∷ q) = sym (h (x ∷ q)) ∙ i (x ∷ q)

  pub find : (f : CountingType) → Sorted Counting f → Has f ⊎ Missing f
  unfolding lookup
  find nil u = inr (λ q. refl)
  find (node k b d s) u = go (compare_label l k) refl (find s u.2)
    where
      go : (o : Ordering) → compare_label l k ≡ o → Has s ⊎ Missing s → Has (node k b d s) ⊎ Missing (node k b d s)
      go lt e i = inr (λ q. lookup-before counting-laws l q (node k b d s) e u)
      go eq e i = inl (b, d, inl (compare-eq e, refl, refl))
      go gt e (inl m) = inl (m.0, m.1, inr m.2)
      go gt e (inr m) = inr (λ q. lookup-next counting-laws l k b d s q e ∙ m q)

  pub missing-not : (f : CountingType) → Sorted Counting f → Missing f → ¬ Has f
  unfolding at_end
  missing-not f u h m = some-none (sym (addend-found m.0 m.1 f u m.2 []) ∙ h [])

  pub found-addend : (a : Payload) (c f : CountingType) → Sorted Counting f → Sorted Counting c → Found a c f → Addend l a c f
  unfolding at_end
  found-addend a c f u v h = go (find f u)
    where
      go : Has f ⊎ Missing f → Addend l a c f
      go (inl m) = let e = found-unique a m.0 c m.1 f u v h m.2 in rw (e.0, e.1) m.2
      go (inr m) = absurd (some-none (sym (h []) ∙ m []))
