-- A list of values split into those of a class and the others.
use mathlib.Core.Path.{◌≡◌, refl, sym, ◌∙◌, ap}
use mathlib.Core.Bool.{Bool, true, false, cond, not}
use mathlib.Core.List.Permᴰ
use mathlib.Core.List.{List, [], ◌∷◌, ◌++◌, Permᴰ}
use mathlib.Core.Option.{none as absent}
use Prim.Native.Nat.{ℕ}
use borrow.Author.Tests.{not-false}
use Rattle.counting_theory.specs.Trie.{lookup}
use Rattle.counting_theory.specs.Label.{Label, Counting}
use Rattle.counting_theory.specs.declared.equivalence.Equivalence.{Equivalence}
use Rattle.counting_theory.specs.Raw.{class_of}
use Rattle.counting_theory.specs.Place.{Value, select, same_label, of_class}
use Rattle.counting_theory.specs.Meaning.{OfKind}
use Rattle.counting_theory.proofs.Values.Every.{EachValid, ValidValue, every-select}
use Rattle.counting_theory.proofs.Values.Labels.{same-label, labels-differ, other-label}
use Rattle.counting_theory.proofs.Values.Raw.{raw_of, lookup_class, lookup-no-class}

module _ (test : Value → Bool) where
  select-perm : (M : List Value) → Permᴰ M (select test M ++ select (λ v. not (test v)) M)
  unfolding select
  select-perm [] = Permᴰ.nil
  select-perm (v ∷ M) = go (test v) (select-perm M)
    where
      A : List Value
      A = select test M

      B : List Value
      B = select (λ v. not (test v)) M

      go : (b : Bool) → Permᴰ M (A ++ B) → Permᴰ (v ∷ M) (cond b (v ∷ A) A ++ cond (not b) (v ∷ B) B)
      go true p = Permᴰ.cons refl p
      go false p = Permᴰ.trans (Permᴰ.cons refl p) (Permᴰ.symm (Permᴰ.middle v A B))

  select-rest : (M : List Value) → select test (select (λ v. not (test v)) M) ≡ []
  unfolding select
  select-rest [] = refl
  select-rest (v ∷ M) = go (test v) refl (select-rest M)
    where
      B : List Value
      B = select (λ v. not (test v)) M

      go : (b : Bool) → test v ≡ b → select test B ≡ [] → select test (cond (not b) (v ∷ B) B) ≡ []
      go true e i = i
      go false e i = rw e i

  -- what is left out does not pass the test
  select-within : (kept : Value → Bool) → ((v : Value) → kept v ≡ false → test v ≡ false) → (M : List Value) → select test (select kept M) ≡ select test M
  unfolding select
  select-within kept h [] = refl
  select-within kept h (v ∷ M) = go (kept v) refl (select-within kept h M)
    where
      B : List Value
      B = select kept M

      go : (b : Bool) → kept v ≡ b → select test B ≡ select test M → select test (cond b (v ∷ B) B) ≡ select test (v ∷ M)
      go true e i = ap (λ (N : List Value). cond (test v) (v ∷ N) N) i
      go false e i = rw (h v e) i

module _ (e : Equivalence) (l : Label) where
  abbrev has_class : Value → Bool
  has_class v = same_label l (class_of e v.head.kind v.content)

  unfoldable pub others : List Value → List Value
  others M = select (λ v. not (has_class v)) M

  pub class-perm : (M : List Value) → Permᴰ M (of_class e l M ++ others M)
  unfolding of_class others
  class-perm = select-perm has_class

  pub valid-others : (M : List Value) → EachValid M → EachValid (others M)
  unfolding others
  valid-others M = every-select ValidValue _ M

  pub class-kind : (kind : ℕ) → l.kind ≡ kind → (M : List Value) → OfKind kind (of_class e l M)
  unfolding of_class select
  class-kind kind z [] = tt
  class-kind kind z (v ∷ M) = go (has_class v) refl (class-kind kind z M)
    where
      N : List Value
      N = of_class e l M

      go : (b : Bool) → has_class v ≡ b → OfKind kind N → OfKind kind (cond b (v ∷ N) N)
      go true h i = (ap (λ (m : Label). m.kind) (sym (same-label l _ h)) ∙ z, i)
      go false h i = i

  pub others_same : (q : List Label) (M : List Value) → lookup Counting (raw_of e (others M)) (l ∷ q) ≡ absent
  unfolding of_class others
  others_same q M = lookup-no-class e l q (others M) (select-rest has_class M)

  pub others-other : (x : Label) (q : List Label) (M : List Value) → same_label x l ≡ false →
      lookup Counting (raw_of e (others M)) (x ∷ q) ≡ lookup Counting (raw_of e M) (x ∷ q)
  others-other x q M h = lookup_class e x q (others M) ∙ rw same (sym (lookup_class e x q M))
    where
      same : of_class e x (others M) ≡ of_class e x M
      same = unfold of_class others in select-within _ _ (λ v i. other-label x _ (λ z. labels-differ x l h (z ∙ sym (same-label l _ (not-false (has_class v) i))))) M
