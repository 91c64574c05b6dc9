-- The merge of two types is Reduce of document 000.
use mathlib.Core.Path.{refl, sym}
use mathlib.Core.Bool.{Bool}
use mathlib.Core.Logic.{◌⊎◌, inl, inr}
use mathlib.Core.List.{◌∷◌}
use Rattle.counting_theory.specs.Payload.{Payload, join}
use Rattle.counting_theory.specs.Trie.{nil, node, ◌⊞◌ as join_option, lookup, reduce, Sorted}
use Rattle.counting_theory.specs.Label.{Label, Counting, CountingType}
use Rattle.counting_theory.specs.declared.equivalence.Equivalence.{Equivalence}
use Rattle.counting_theory.specs.Encoding.{Tagged}
use Rattle.counting_theory.specs.Published.{Addend, Alone, EReduced, ReduceAddend, merged, first, second, Publishes}
use Rattle.counting_theory.proofs.Trie.Join.{⊞-none}
use Rattle.counting_theory.proofs.Trie.Lookup.{at_end-join, lookup-reduce}
use Rattle.counting_theory.proofs.Trie.Sorted.{sorted-reduce}
use Rattle.counting_theory.proofs.Label.{counting-laws}
use Rattle.counting_theory.proofs.Tagged.Parts.{holds_fields, tagged-parts}
use Rattle.counting_theory.proofs.Tagged.Reduce.{tagged-reduce}
use Rattle.counting_theory.proofs.Published.Addends.{Has, Missing, before-not, addend-sorted, addend-found, found-unique, find, missing-not, found-addend}
use Rattle.counting_theory.proofs.Published.Labels.{labels-relate}

module _ (eq : Equivalence) where
  -- the labels of sorted siblings differ, so no two are related
  pub sorted-reduced : (field : Bool) (f : CountingType) → Tagged eq field f → Sorted Counting f → EReduced eq f
  sorted-reduced field nil p u = tt
  sorted-reduced field (node l a c s) p u =
      let r = tagged-parts eq field l a c s p in
      (alone, sorted-reduced (holds_fields field l) c r.1 u.1, sorted-reduced field s r.2 u.2)
    where
      alone : Alone eq l c s
      alone m b d i r =
          let e = (labels-relate eq field (node l a c s) (node l a c s) p p u u l m a b c d (inl (refl, refl, refl)) (inr i)).1 r in
          before-not l s u.0 u.2 (b, d, rw e i)

  module _ (field : Bool) (f g : CountingType) (p : Tagged eq field f) (q : Tagged eq field g) (u : Sorted Counting f) (v : Sorted Counting g) where
    -- an addend of f stands alone in g exactly if g has no addend with its label
    missing-alone : (l : Label) (a : Payload) (c : CountingType) → Addend l a c f → Missing l g → Alone eq l c g
    missing-alone l a c i h m b d j r = missing-not l g v h (b, d, rw ((labels-relate eq field f g p q u v l m a b c d i j).1 r) j)

    alone-missing : (l : Label) (a : Payload) (c : CountingType) → Addend l a c f → Alone eq l c g → Missing l g
    alone-missing l a c i h = go (find l g v)
      where
        go : Has l g ⊎ Missing l g → Missing l g
        go (inl n) = absurd (h l n.0 n.1 n.2 ((labels-relate eq field f g p q u v l l a n.0 c n.1 i n.2).0 refl))
        go (inr n) = n

  module _ (field : Bool) (f g : CountingType) (p : Tagged eq field f) (q : Tagged eq field g) (u : Sorted Counting f) (v : Sorted Counting g) where
    w : Sorted Counting (reduce Counting f g)
    w = sorted-reduce counting-laws f g u v

    module _ (l : Label) where
      merged-addend : (a₁ a₂ : Payload) (c₁ c₂ : CountingType) → Addend l a₁ c₁ f → Addend l a₂ c₂ g → Addend l (join a₁ a₂) (reduce Counting c₁ c₂) (reduce Counting f g)
      merged-addend a₁ a₂ c₁ c₂ i j =
          found-addend l (join a₁ a₂) (reduce Counting c₁ c₂) (reduce Counting f g) w
          (sorted-reduce counting-laws c₁ c₂ (addend-sorted l a₁ c₁ f u i) (addend-sorted l a₂ c₂ g v j))
          (λ x. rw (lookup-reduce counting-laws f g (l ∷ x), lookup-reduce counting-laws c₁ c₂ x, addend-found l a₁ c₁ f u i x, addend-found l a₂ c₂ g v j x)
          (sym (at_end-join counting-laws a₁ a₂ (lookup Counting c₁ x) (lookup Counting c₂ x) x)))

      to-addend : (a : Payload) (c : CountingType) → ReduceAddend eq f g l a c → Addend l a c (reduce Counting f g)
      unfolding join_option
      to-addend a c (merged m a₁ a₂ c₁ c₂ i j r x y) =
          let e = (labels-relate eq field f g p q u v l m a₁ a₂ c₁ c₂ i j).1 r in
          rw (x, y) (merged-addend a₁ a₂ c₁ c₂ i (rw e j))
      to-addend a c (first i h) =
          found-addend l a c (reduce Counting f g) w (addend-sorted l a c f u i)
          (λ x. rw (lookup-reduce counting-laws f g (l ∷ x), addend-found l a c f u i x, alone-missing field f g p q u v l a c i h x) (⊞-none counting-laws _))
      to-addend a c (second i h) =
          found-addend l a c (reduce Counting f g) w (addend-sorted l a c g v i)
          (λ x. rw (lookup-reduce counting-laws f g (l ∷ x), addend-found l a c g v i x, alone-missing field g f q p v u l a c i h x) refl)

      some-addend : Has l f ⊎ Missing l f → Has l g ⊎ Missing l g → ((a : Payload) × (c : CountingType) × ReduceAddend eq f g l a c) ⊎ Missing l (reduce Counting f g)
      unfolding join_option
      some-addend (inl i) (inl j) =
          inl (
            join i.0 j.0,
            reduce Counting i.1 j.1,
            merged l i.0 j.0 i.1 j.1 i.2 j.2
                ((labels-relate eq field f g p q u v l l i.0 j.0 i.1 j.1 i.2 j.2).0 refl) refl refl,
          )
      some-addend (inl i) (inr n) = inl (i.0, i.1, first i.2 (missing-alone field f g p q u v l i.0 i.1 i.2 n))
      some-addend (inr n) (inl j) = inl (j.0, j.1, second j.2 (missing-alone field g f q p v u l j.0 j.1 j.2 n))
      some-addend (inr n) (inr n') = inr (λ x. rw (lookup-reduce counting-laws f g (l ∷ x), n x, n' x) refl)

      from-addend : (a : Payload) (c : CountingType) → Addend l a c (reduce Counting f g) → ReduceAddend eq f g l a c
      from-addend a c i = go (some-addend (find l f u) (find l g v))
        where
          go : ((b : Payload) × (d : CountingType) × ReduceAddend eq f g l b d) ⊎ Missing l (reduce Counting f g) → ReduceAddend eq f g l a c
          go (inl n) =
              let x = addend-sorted l a c (reduce Counting f g) w i in
              let y = addend-found l a c (reduce Counting f g) w i in
              let e = found-unique l a n.0 c n.1 (reduce Counting f g) w x y (to-addend n.0 n.1 n.2) in
              rw (e.0, e.1) n.2
          go (inr n) = absurd (missing-not l (reduce Counting f g) w n (a, c, i))

pub publishes : Publishes
publishes eq field f g p q u v =
    record {
      addends = λ l a c. (from-addend eq field f g p q u v l a c, to-addend eq field f g p q u v l a c);
      reduced = sorted-reduced eq field (reduce Counting f g) (tagged-reduce eq field f g p q) (sorted-reduce counting-laws f g u v);
    }
