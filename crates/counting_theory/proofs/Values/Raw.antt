-- The raw forest of a list of values, and what it has at the label of a class and at that of a field.
use mathlib.Core.Path.{◌≡◌, refl, sym, ◌∙◌, ap}
use mathlib.Core.Bool.{true, false, cond}
use mathlib.Core.List.{List, [], ◌∷◌, ◌++◌}
use mathlib.Core.Option.{Option, none as absent}
use Prim.Native.Nat.Ordering.{eq}
use Prim.Native.Nat.Ordering.{gt}
use Prim.Native.Nat.Ordering.{lt}
use Prim.Native.Nat.{ℕ, compare, Ordering}
use lib.Dec.{eqb, compare_is_eq}
use Rattle.value_table.specs.Value.{Values, none, value, record_kind}
use Rattle.counting_theory.specs.Payload.{Payload, one, one_field}
use Rattle.counting_theory.specs.Trie.{nil, node, at_end, when_equal, ◌⊞◌ as join_option, lookup_node, lookup}
use Rattle.counting_theory.specs.Inside.TrieLaws.{append}
use Rattle.counting_theory.specs.Label.{Label, field_label, compare_label, Counting, CountingType}
use Rattle.counting_theory.specs.declared.equivalence.Equivalence.{Equivalence}
use Rattle.counting_theory.specs.Raw.{class_of, raw}
use Rattle.counting_theory.specs.Place.{Value, ◌⊞◌, gathered, value_payload, values_of, values_with, select, same_label, of_class}
use Rattle.counting_theory.proofs.Label.{compare-fields, counting-laws}
use Rattle.counting_theory.proofs.Trie.Join.{⊞-none}
use Rattle.counting_theory.proofs.Trie.Lookup.{lookup-append}
use Rattle.counting_theory.proofs.Values.Labels.{other-label, labels-differ, lookup-other}
use Rattle.counting_theory.proofs.Values.Tally.{tally, tally-suc, tally-none}

module _ (e : Equivalence) where
  -- the fields or elements of v
  abbrev pub inside : Value → CountingType
  inside v = raw e (eqb v.head.kind record_kind) v.content

  unfoldable pub contents : List Value → CountingType
  contents [] = nil
  contents (v ∷ M) = append (inside v) (contents M)

  unfoldable pub raw_of : List Value → CountingType
  raw_of [] = nil
  raw_of (v ∷ M) = node (class_of e v.head.kind v.content) (value_payload v) (inside v) (raw_of M)

  pub raw-values : (c : Values) → raw e false c ≡ raw_of (values_of c)
  unfolding raw raw_of values_of
  raw-values none = refl
  raw-values (value head key content next) = ap (node (class_of e head.kind content) (one head content) (raw e (eqb head.kind record_kind) content)) (raw-values next)

  pub raw_of-append : (M N : List Value) → raw_of (M ++ N) ≡ append (raw_of M) (raw_of N)
  unfolding raw_of append
  raw_of-append [] N = refl
  raw_of-append (v ∷ M) N = ap (node (class_of e v.head.kind v.content) (value_payload v) (inside v)) (raw_of-append M N)

  pub lookup_class : (l : Label) (q : List Label) (M : List Value) →
      lookup Counting (raw_of M) (l ∷ q) ≡ tally (gathered value_payload (of_class e l M)) (lookup Counting (contents (of_class e l M)) q) q
  unfolding lookup lookup_node when_equal join_option raw_of contents of_class select gathered
  lookup_class l q [] = sym (tally-none q)
  lookup_class l q (v ∷ M) = go (compare_label l (class_of e v.head.kind v.content)) (lookup_class l q M)
    where
      N : List Value
      N = of_class e l M

      go : (o : Ordering) → lookup Counting (raw_of M) (l ∷ q) ≡ tally (gathered value_payload N) (lookup Counting (contents N) q) q →
          when_equal o (at_end (value_payload v) (lookup Counting (inside v) q) q) ⊞ lookup Counting (raw_of M) (l ∷ q)
          ≡ tally (gathered value_payload (cond (compare_is_eq o) (v ∷ N) N)) (lookup Counting (contents (cond (compare_is_eq o) (v ∷ N) N)) q) q
      go lt i = i
      go eq i =
          rw (i, lookup-append counting-laws (inside v) (contents N) q)
          (sym (tally-suc (value_payload v) (gathered value_payload N) (lookup Counting (inside v) q) (lookup Counting (contents N) q) q))
      go gt i = i

  pub lookup-no-class : (l : Label) (q : List Label) (M : List Value) → of_class e l M ≡ [] → lookup Counting (raw_of M) (l ∷ q) ≡ absent
  unfolding lookup contents gathered
  lookup-no-class l q M h = lookup_class l q M ∙ rw h (tally-none q)

  pub lookup-field : (k : ℕ) (q : List Label) (c : Values) →
      lookup Counting (raw e true c) (field_label k ∷ q) ≡ tally (gathered (λ v. one_field) (values_with k c)) (lookup Counting (raw_of (values_with k c)) q) q
  unfolding lookup lookup_node when_equal join_option raw raw_of values_with gathered
  lookup-field k q none = sym (tally-none q)
  lookup-field k q (value head key content next) = rw (compare-fields k key) (go (compare k key) (lookup-field k q next))
    where
      v : Value
      v = record { head = head; content = content }

      N : List Value
      N = values_with k next

      x : Option Payload
      x = lookup_node Counting (class_of e head.kind content) (one head content) (lookup Counting (inside v)) q

      go : (o : Ordering) → lookup Counting (raw e true next) (field_label k ∷ q) ≡ tally (gathered (λ v. one_field) N) (lookup Counting (raw_of N) q) q →
          when_equal o (at_end one_field (x ⊞ absent) q) ⊞ lookup Counting (raw e true next) (field_label k ∷ q)
          ≡ tally (gathered (λ v. one_field) (cond (compare_is_eq o) (v ∷ N) N)) (lookup Counting (raw_of (cond (compare_is_eq o) (v ∷ N) N)) q) q
      go lt i = i
      go eq i = rw (i, ⊞-none counting-laws x) (sym (tally-suc one_field (gathered (λ v. one_field) N) x (lookup Counting (raw_of N) q) q))
      go gt i = i

  pub lookup-no-field : (l : Label) (q : List Label) (c : Values) → same_label l (field_label l.key) ≡ false → lookup Counting (raw e true c) (l ∷ q) ≡ absent
  unfolding raw
  lookup-no-field l q none h = unfold lookup in refl
  lookup-no-field l q (value head key content next) h = lookup-other l (field_label key) one_field _ _ q other ∙ lookup-no-field l q next h
    where
      other : same_label l (field_label key) ≡ false
      other = other-label l (field_label key) (λ z. labels-differ l _ h (z ∙ ap (λ (m : Label). field_label m.key) (sym z)))
