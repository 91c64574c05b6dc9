-- Sorted fields have the same list of keys exactly if they have the same keys.
use mathlib.Core.Path.{◌≡◌, refl, sym, ◌∙◌, ap}
use mathlib.Core.Bool.{true}
use mathlib.Core.Logic.{inl, inr, ◌↔◌}
use Prim.Native.Nat.Ordering.{eq as same}
use Prim.Native.Nat.Ordering.{gt as greater}
use Prim.Native.Nat.Ordering.{lt as less}
use Prim.Native.Nat.{ℕ, Ordering}
use native.Mathlib.Omega.{arith}
use Rattle.counting_theory.specs.Payload.{Payload}
use Rattle.counting_theory.specs.Trie.{nil, node, Before, Sorted}
use Rattle.counting_theory.specs.Label.{Label, field_label, compare_label, Counting, CountingType}
use Rattle.counting_theory.specs.declared.equivalence.Equivalence.{Equivalence}
use Rattle.counting_theory.specs.Encoding.{sibling_keys, Tagged}
use Rattle.counting_theory.specs.Published.{Addend, HasKey}
use Rattle.counting_theory.proofs.Trie.Sorted.{flip-gt}
use Rattle.counting_theory.proofs.Label.{label-order, key-eq, counting-laws}
use Rattle.counting_theory.proofs.Published.Addends.{before-not}

before-no-key : (l : Label) (f : CountingType) → l ≡ field_label l.key → Before Counting l f → Sorted Counting f → ¬ HasKey l.key f
before-no-key l f z e u = before-not (field_label l.key) f (rw z at e) u

-- a key behind the first field of one list is behind the first field of the other
later-key : (l m : Label) (a b : Payload) (c d s t : CountingType) → l ≡ m → l ≡ field_label l.key → Before Counting l s → Sorted Counting s →
    (k : ℕ) → (HasKey k (node l a c s) → HasKey k (node m b d t)) → HasKey k s → HasKey k t
later-key l m a b c d s t y z e u k h i = let j = h (i.0, i.1, inr i.2) in go j.0 j.1 j.2
  where
    go : (x : Payload) (g : CountingType) → Addend (field_label k) x g (node m b d t) → HasKey k t
    go x g (inl w) =
        let r : k ≡ l.key = key-eq (w.0 ∙ sym y) in
        absurd (before-no-key l s z e u (rw r at i))
    go x g (inr w) = (x, g, w)

module _ (eq : Equivalence) where
  pub keys-has : (c d : CountingType) → Tagged eq true c → Tagged eq true d → sibling_keys c ≡ sibling_keys d →
      (k : ℕ) (a : Payload) (g : CountingType) → Addend (field_label k) a g c → HasKey k d
  unfolding sibling_keys
  keys-has nil d p q e k x g i = absurd i
  keys-has (node l a c s) nil p q e k x g i = let z : ◌≡◌ {A = ℕ} 0 1 = cc in absurd (omega arith)
  keys-has (node l a c s) (node m b d t) p q e k x g (inl z) =
      let r : l.key ≡ m.key = cc in
      (b, d, inl (z.0 ∙ p.0 ∙ ap field_label r ∙ sym q.0, refl, refl))
  keys-has (node l a c s) (node m b d t) p q e k x g (inr i) =
      let r : sibling_keys s ≡ sibling_keys t = cc in
      let h = keys-has s t p.2 q.2 r k x g i in
      (h.0, h.1, inr h.2)

  pub same_keys : (c d : CountingType) → Tagged eq true c → Tagged eq true d → Sorted Counting c → Sorted Counting d →
      ((k : ℕ) → HasKey k c ↔ HasKey k d) → sibling_keys c ≡ sibling_keys d
  unfolding sibling_keys
  same_keys nil nil p q u v h = refl
  same_keys nil (node m b d t) p q u v h = absurd ((h m.key).1 (b, d, inl (sym q.0, refl, refl))).2
  same_keys (node l a c s) nil p q u v h = absurd ((h l.key).0 (a, c, inl (sym p.0, refl, refl))).2
  same_keys (node l a c s) (node m b d t) p q u v h = go (compare_label l m) refl (same_keys s t p.2 q.2 u.2 v.2)
    where
      go : (o : Ordering) → compare_label l m ≡ o → (((k : ℕ) → HasKey k s ↔ HasKey k t) → sibling_keys s ≡ sibling_keys t) →
          sibling_keys (node l a c s) ≡ sibling_keys (node m b d t)
      go less e i = absurd (before-no-key l (node m b d t) p.0 e v ((h l.key).0 (a, c, inl (sym p.0, refl, refl))))
      go same e i =
          let z = label-order.compare-eq e in
          let r = key-eq z in
          let w = i (λ k. (later-key l m a b c d s t z p.0 u.0 u.2 k (h k).0, later-key m l b a d c t s (sym z) q.0 v.0 v.2 k (h k).1)) in
          cc
      go greater e i =
          absurd (before-no-key m (node l a c s) q.0 (flip-gt counting-laws e) u ((h m.key).1 (b, d, inl (sym q.0, refl, refl))))
