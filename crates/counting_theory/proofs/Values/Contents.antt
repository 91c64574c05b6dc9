-- What the contents of some values have below the label of a field and below that of a class.
use mathlib.Core.Path.{◌≡◌, refl, sym, ◌∙◌, ap}
use mathlib.Core.Bool.{Bool, true, false, cond}
use mathlib.Core.List.{List, [], ◌∷◌, flat_map}
use Prim.Native.Nat.{ℕ, suc}
use native.Mathlib.Omega.{arith}
use lib.Dec.{eqb}
use borrow.Author.Tests.{eqb-true, eqb-false}
use Rattle.value_table.specs.Value.{ValidAt, record_kind, array_kind}
use Rattle.counting_theory.specs.Payload.{one_field}
use Rattle.counting_theory.specs.Trie.{lookup}
use Rattle.counting_theory.specs.Label.{Label, field_label, Counting}
use Rattle.counting_theory.specs.declared.equivalence.Equivalence.{Equivalence}
use Rattle.counting_theory.specs.Raw.{raw}
use Rattle.counting_theory.specs.Place.{Value, gathered, values_of, values_with, elements_of, elements, field_of, field_values, same_label, of_class}
use Rattle.counting_theory.proofs.Label.{counting-laws}
use Rattle.counting_theory.proofs.Trie.Lookup.{lookup-append}
use Rattle.counting_theory.proofs.Values.Every.{ValidValue, EachValid, every_map, select-none, valid-values}
use Rattle.counting_theory.proofs.Values.Labels.{other-label}
use Rattle.counting_theory.proofs.Values.Tally.{gathered-append, tally, tally-join, tally-none}
use Rattle.counting_theory.proofs.Values.Raw.{inside, contents, raw_of, raw-values, raw_of-append, lookup-no-class, lookup-field, lookup-no-field}

module _ (e : Equivalence) where
  -- no value has the class of a field's label
  no-field-class : (k : ℕ) (M : List Value) → EachValid M → of_class e (field_label k) M ≡ []
  unfolding of_class
  no-field-class k M h =
      select-none _ M (every_map ValidValue _ (λ v p. other-label (field_label k) _ (λ z. omega (arith, ap (λ (l : Label). l.kind) z))) M h)

  inside-field : (k : ℕ) (q : List Label) (v : Value) → ValidValue v →
      lookup Counting (inside e v) (field_label k ∷ q) ≡ tally (gathered (λ v. one_field) (field_of k v)) (lookup Counting (raw_of e (field_of k v)) q) q
  unfolding lookup raw_of gathered
  inside-field k q v p = go (eqb v.head.kind record_kind) p.inner
    where
      M : List Value
      M = values_of v.content

      go : (b : Bool) → ValidAt b (suc p.depth) v.content → lookup Counting (raw e b v.content) (field_label k ∷ q)
          ≡ tally (gathered (λ v. one_field) (cond b (values_with k v.content) [])) (lookup Counting (raw_of e (cond b (values_with k v.content) [])) q) q
      go true h = lookup-field e k q v.content
      go false h = rw (raw-values e v.content) (lookup-no-class e (field_label k) q M (no-field-class k M (valid-values _ _ v.content h)) ∙ sym (tally-none q))

  pub inside-other : (v : Value) → ValidValue v → eqb v.head.kind record_kind ≡ false → inside e v ≡ raw_of e (elements_of v)
  unfolding raw raw_of
  inside-other v p h = rw h (go (eqb v.head.kind array_kind) refl)
    where
      go : (b : Bool) → eqb v.head.kind array_kind ≡ b → raw e false v.content ≡ raw_of e (cond b (values_of v.content) [])
      go true i = raw-values e v.content
      go false i = rw (p.proper.scalar (omega (arith, eqb-false v.head.kind record_kind h, eqb-false v.head.kind array_kind i))) refl

  inside-element : (l : Label) (q : List Label) (v : Value) → ValidValue v → same_label l (field_label l.key) ≡ false →
      lookup Counting (inside e v) (l ∷ q) ≡ lookup Counting (raw_of e (elements_of v)) (l ∷ q)
  unfolding lookup raw_of
  inside-element l q v p h = go (eqb v.head.kind record_kind) refl
    where
      go : (b : Bool) → eqb v.head.kind record_kind ≡ b → lookup Counting (inside e v) (l ∷ q) ≡ lookup Counting (raw_of e (elements_of v)) (l ∷ q)
      go true i = rw (eqb-true v.head.kind record_kind i) (lookup-no-field e l q v.content h)
      go false i = ap (λ f. lookup Counting f (l ∷ q)) (inside-other v p i)

  pub contents-field : (k : ℕ) (q : List Label) (M : List Value) → EachValid M →
      lookup Counting (contents e M) (field_label k ∷ q) ≡ tally (gathered (λ v. one_field) (field_values k M)) (lookup Counting (raw_of e (field_values k M)) q) q
  unfolding lookup contents raw_of field_values flat_map gathered
  contents-field k q [] m = sym (tally-none q)
  contents-field k q (v ∷ M) m =
      rw (
        lookup-append counting-laws (inside e v) (contents e M) (field_label k ∷ q),
        inside-field k q v m.0,
        contents-field k q M m.1,
        raw_of-append e (field_of k v) (field_values k M),
        lookup-append counting-laws (raw_of e (field_of k v)) (raw_of e (field_values k M)) q,
        gathered-append (λ v. one_field) (field_of k v) (field_values k M),
      )
      (sym (tally-join (gathered (λ v. one_field) (field_of k v)) (gathered (λ v. one_field) (field_values k M)) _ _ q))

  pub contents-element : (l : Label) (q : List Label) (M : List Value) → EachValid M → same_label l (field_label l.key) ≡ false →
      lookup Counting (contents e M) (l ∷ q) ≡ lookup Counting (raw_of e (elements M)) (l ∷ q)
  unfolding lookup contents raw_of elements flat_map
  contents-element l q [] m h = refl
  contents-element l q (v ∷ M) m h =
      rw (
        lookup-append counting-laws (inside e v) (contents e M) (l ∷ q),
        inside-element l q v m.0 h,
        contents-element l q M m.1 h,
        raw_of-append e (elements_of v) (elements M),
      )
      (sym (lookup-append counting-laws (raw_of e (elements_of v)) (raw_of e (elements M)) (l ∷ q)))
