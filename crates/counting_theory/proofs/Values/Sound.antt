-- Theorem 3.7 of document 000: messages belong to the meaning of their inferred type.
use mathlib.Core.Path.{◌≡◌, refl, sym, ◌∙◌, ap}
use mathlib.Core.Logic.{inl, inr}
use mathlib.Core.Bool.{Bool, true, false}
use mathlib.Core.List.{List, [], ◌∷◌, flat_map}
use mathlib.Core.Option.{none as absent, some}
use Prim.Native.Nat.{ℕ}
use native.Mathlib.Omega.{arith}
use lib.ListN.{length}
use borrow.Author.Tests.{ne_eqb}
use Rattle.value_table.specs.Value.{record_kind, array_kind}
use Rattle.counting_theory.specs.Payload.{Payload, one_field}
use Rattle.counting_theory.specs.Trie.{nil, node, at_end, lookup, Sorted}
use Rattle.counting_theory.specs.Inside.TrieLaws.{SameMap}
use Rattle.counting_theory.specs.Label.{Label, field_label, Counting, CountingType}
use Rattle.counting_theory.specs.declared.equivalence.Equivalence.{Equivalence}
use Rattle.counting_theory.specs.Raw.{class_of, raw, profile_of}
use Rattle.counting_theory.specs.Place.{Value, values_of, elements_of, elements, field_values, same_label, select, of_class, ◌⊞◌, gathered, value_payload, count_of}
use Rattle.counting_theory.specs.Published.{Addend, HasKey}
use Rattle.counting_theory.specs.Meaning.{OfKind, Means, Sound}
use Rattle.counting_theory.proofs.Label.{counting-laws}
use Rattle.counting_theory.proofs.Trie.Sorted.{sorted-profile}
use Rattle.counting_theory.proofs.Trie.Canonical.{some-none, lookup-root, lookup-before, lookup_head}
use Rattle.counting_theory.proofs.Trie.Profile.{lookup-profile}
use Rattle.counting_theory.proofs.Published.Addends.{addend-found}
use Rattle.counting_theory.proofs.Values.Every.{EachValid, valid-class, valid-values, valid-elements, valid-under}
use Rattle.counting_theory.proofs.Values.Labels.{same_refl, same-label, lookup-other}
use Rattle.counting_theory.proofs.Values.Tally.{tally, some-joined, length-values}
use Rattle.counting_theory.proofs.Values.Raw.{contents, raw_of, raw-values, raw_of-append, lookup_class}
use Rattle.counting_theory.proofs.Values.Contents.{inside-other, contents-field, contents-element}
use Rattle.counting_theory.proofs.Values.Others.{others, class-perm, valid-others, class-kind, others_same, others-other}

gathered_none : (a : Payload) (M : List Value) → gathered (λ v. a) M ≡ absent → M ≡ []
unfolding gathered
gathered_none a [] h = refl
gathered_none a (v ∷ M) h = absurd (some-none (sym (some-joined a (gathered (λ v. a) M)).1 ∙ h))

elements-none : (M : List Value) → OfKind record_kind M → elements M ≡ []
unfolding elements flat_map
elements-none [] k = refl
elements-none (v ∷ M) k = rw k.0 (elements-none M k.1)

no_key : (k : ℕ) (c : CountingType) → ¬ HasKey k c → (q : List Label) → lookup Counting c (field_label k ∷ q) ≡ absent
no_key k nil h q = unfold lookup in refl
no_key k (node m b d s) h q = go (same_label (field_label k) m) refl (no_key k s (λ x. h (x.0, x.1, inr x.2)) q)
  where
    go : (t : Bool) → same_label (field_label k) m ≡ t → lookup Counting s (field_label k ∷ q) ≡ absent → lookup Counting (node m b d s) (field_label k ∷ q) ≡ absent
    go true e i = absurd (h (b, d, inl (same-label (field_label k) m e, refl, refl)))
    go false e i = lookup-other (field_label k) m b d s q e ∙ i

same-root : (f g : CountingType) → lookup Counting f [] ≡ lookup Counting g []
same-root f g = lookup-root counting-laws f ∙ sym (lookup-root counting-laws g)

module _ (e : Equivalence) where
  contents-arrays : (M : List Value) → EachValid M → OfKind array_kind M → contents e M ≡ raw_of e (elements M)
  unfolding contents raw_of elements flat_map
  contents-arrays [] h k = refl
  contents-arrays (v ∷ M) h k =
      rw (inside-other e v h.0 (ne_eqb v.head.kind record_kind (λ z. omega arith)), contents-arrays M h.1 k.1, raw_of-append e (elements_of v) (elements M)) refl

  no-values : (M : List Value) → SameMap Counting nil (raw_of e M) → M ≡ []
  unfolding lookup tally of_class select gathered
  no-values [] h = refl
  no-values (v ∷ M) h = absurd (some-none (sym has ∙ sym (h (l ∷ []))))
    where
      l : Label
      l = class_of e v.head.kind v.content

      more : (b : Payload) × (some (value_payload v) ⊞ gathered value_payload (of_class e l M) ≡ some b)
      more = some-joined (value_payload v) (gathered value_payload (of_class e l M))

      has : lookup Counting (raw_of e (v ∷ M)) (l ∷ []) ≡ some more.0
      has = lookup_class e l [] (v ∷ M) ∙ rw (same_refl l) more.1

  -- f has the map of M; or (field ≡ true) each field of f has that of its values
  abbrev Agrees : Bool → CountingType → List Value → Type 0
  Agrees true f M = (l : Label) (a : Payload) (d : CountingType) → Addend l a d f → SameMap Counting d (raw_of e (field_values l.key M))
  Agrees false f M = SameMap Counting f (raw_of e M)

  -- the children c of a node have the map of the contents of its values M
  module _ (c : CountingType) (u : Sorted Counting c) (M : List Value) (v : EachValid M) (h : SameMap Counting c (contents e M)) where
    elements-agree : OfKind array_kind M → Agrees false c (elements M)
    elements-agree k q = h q ∙ ap (λ (f : CountingType). lookup Counting f q) (contents-arrays M v k)

    fields-agree : OfKind record_kind M → Agrees true c M
    unfolding lookup raw_of at_end tally
    fields-agree k m b d n [] = same-root d (raw_of e (field_values m.key M))
    fields-agree k m b d n (x ∷ q) = go (same_label m (field_label m.key)) refl
      where
        found : (q : List Label) → at_end b (lookup Counting d q) q ≡ lookup Counting (contents e M) (m ∷ q)
        found q = sym (addend-found m b d c u n q) ∙ h (m ∷ q)

        go : (t : Bool) → same_label m (field_label m.key) ≡ t → lookup Counting d (x ∷ q) ≡ lookup Counting (raw_of e (field_values m.key M)) (x ∷ q)
        go true i =
            found (x ∷ q) ∙ ap (λ (m : Label). lookup Counting (contents e M) (m ∷ x ∷ q)) (same-label m (field_label m.key) i) ∙ contents-field e m.key (x ∷ q) M v
        go false i = absurd (some-none (found [] ∙ contents-element e m [] M v i ∙ rw (elements-none M k) refl))

    no-other-keys : (k : ℕ) → ¬ HasKey k c → field_values k M ≡ []
    unfolding tally
    no-other-keys k n = gathered_none one_field (field_values k M) (sym (contents-field e k [] M v) ∙ sym (h (field_label k ∷ [])) ∙ no_key k c n [])

  -- the first node has the values of its class, its siblings have the others
  module _ (l : Label) (a : Payload) (c s : CountingType) (u : Sorted Counting (node l a c s)) (M : List Value) (h : SameMap Counting (node l a c s) (raw_of e M)) where
    class-count : length (of_class e l M) ≡ a.count
    unfolding tally at_end
    class-count =
        sym (length-values (of_class e l M))
        ∙ ap count_of (sym (lookup_class e l [] M) ∙ sym (h (l ∷ [])) ∙ lookup_head counting-laws l a c s [] u)

    class-contents : SameMap Counting c (contents e (of_class e l M))
    unfolding tally at_end
    class-contents [] = same-root c (contents e (of_class e l M))
    class-contents (x ∷ q) = sym (lookup_head counting-laws l a c s (x ∷ q) u) ∙ h (l ∷ x ∷ q) ∙ lookup_class e l (x ∷ q) M

    others-agree : Agrees false s (others e l M)
    others-agree [] = same-root s (raw_of e (others e l M))
    others-agree (x ∷ q) = go (same_label x l) refl
      where
        go : (t : Bool) → same_label x l ≡ t → lookup Counting s (x ∷ q) ≡ lookup Counting (raw_of e (others e l M)) (x ∷ q)
        go true i = rw (same-label x l i) (lookup-before counting-laws l q s u.0 u.2 ∙ sym (others_same e l q M))
        go false i = sym (lookup-other x l a c s q i) ∙ h (x ∷ q) ∙ sym (others-other e l x q M i)

  means : (b : Bool) (f : CountingType) (M : List Value) → Sorted Counting f → EachValid M → Agrees b f M → Means b f M
  means true nil M u v h = tt
  means true (node l a c s) M u v h =
      (means false c (field_values l.key M) u.1 (valid-under l.key M v) (h l a c (inl (refl, refl, refl))), means true s M u.2 v (λ m b d i. h m b d (inr i)))
  means false nil M u v h = no-values M h
  means false (node l a c s) M u v h =
      let M₁ = of_class e l M in
      let v₁ = valid-class e l M v in
      let h₁ = class-contents l a c s u M h in (
        M₁,
        others e l M,
        class-perm e l M,
        class-count l a c s u M h,
        class-kind e l l.kind refl M,
        λ i. (means true c M₁ u.1 v₁ (fields-agree c u.1 M₁ v₁ h₁ (class-kind e l record_kind i M)), no-other-keys c u.1 M₁ v₁ h₁),
        λ i. means false c (elements M₁) u.1 (valid-elements M₁ v₁) (elements-agree c u.1 M₁ v₁ h₁ (class-kind e l array_kind i M)),
        means false s (others e l M) u.2 (valid-others e l M v) (others-agree l a c s u M h),
      )

pub sound : Sound
unfolding profile_of
sound e messages h =
    means e false (profile_of e messages) (values_of messages) (sorted-profile counting-laws (raw e false messages)) (valid-values false 1 messages h)
    (λ q. lookup-profile counting-laws (raw e false messages) q ∙ ap (λ (f : CountingType). lookup Counting f q) (raw-values e messages))
