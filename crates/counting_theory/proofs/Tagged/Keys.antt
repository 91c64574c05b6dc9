-- The keys of fields that are merged.
use mathlib.Core.Path.{◌≡◌, refl, sym, ◌∙◌, ap}
use mathlib.Core.Bool.{true, false, cond, ◌||◌}
use mathlib.Core.List.{◌∷◌}
use Prim.Native.Nat.Ordering.{eq as same}
use Prim.Native.Nat.Ordering.{gt as greater}
use Prim.Native.Nat.Ordering.{lt as less}
use Prim.Native.Nat.{ℕ, compare, Ordering}
use lib.Dec.{is_le, compare_is_eq}
use Rattle.value_table.specs.Value.{member}
use Rattle.counting_theory.specs.Payload.{one_field}
use Rattle.counting_theory.specs.Trie.{nil, node, reduce_step, reduce_node, reduce}
use Rattle.counting_theory.specs.Label.{field_label, compare_label, Counting, CountingType}
use Rattle.counting_theory.specs.declared.equivalence.Equivalence.{Equivalence}
use Rattle.counting_theory.specs.Raw.{insert_key}
use Rattle.counting_theory.specs.Encoding.{sibling_keys, Tagged}
use Rattle.counting_theory.proofs.Label.{label-order, compare-fields}

module _ (eq : Equivalence) where
  -- fields with the same keys merge into fields with these keys
  pub keys-reduce : (c d : CountingType) → Tagged eq true c → Tagged eq true d → sibling_keys c ≡ sibling_keys d → sibling_keys (reduce Counting c d) ≡ sibling_keys c
  unfolding sibling_keys reduce reduce_node reduce_step
  keys-reduce nil d p q e = sym e
  keys-reduce (node l a c s) nil p q e = cc
  keys-reduce (node l a c s) (node m b d t) p q e =
      let k : l.key ≡ m.key = cc in
      let r : sibling_keys s ≡ sibling_keys t = cc in
      let z : l ≡ m = p.0 ∙ ap field_label k ∙ sym q.0 in
      let o : compare_label l m ≡ same = ap (compare_label l) (sym z) ∙ label-order.compare_refl l in
      rw o (ap (λ ks. l.key ∷ ks) (keys-reduce s t p.2 q.2 r))

  -- a new field takes the place of its key
  pub keys-insert : (k : ℕ) (c g : CountingType) → Tagged eq true g → member k (sibling_keys g) ≡ false →
      sibling_keys (reduce Counting (node (field_label k) one_field c nil) g) ≡ insert_key k (sibling_keys g)
  unfolding sibling_keys insert_key member reduce reduce_node reduce_step
  keys-insert k c nil p h = refl
  keys-insert k c (node m b d t) p h =
      rw (ap (compare_label (field_label k)) p.0 ∙ compare-fields k m.key) (go (compare k m.key) h (keys-insert k c t p.2))
    where
      go : (o : Ordering) → (compare_is_eq o || member k (sibling_keys t)) ≡ false →
          (member k (sibling_keys t) ≡ false → sibling_keys (reduce Counting (node (field_label k) one_field c nil) t) ≡ insert_key k (sibling_keys t)) →
          sibling_keys (reduce_step Counting o (field_label k) one_field c (reduce Counting c) (reduce Counting nil) m b d t (reduce Counting (node (field_label k) one_field c nil) t))
          ≡ cond (is_le o) (k ∷ (m.key ∷ sibling_keys t)) (m.key ∷ insert_key k (sibling_keys t))
      go less h i = refl
      go same h i = cc
      go greater h i = ap (λ ks. m.key ∷ ks) (i h)
