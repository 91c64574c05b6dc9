-- The keys of fields that are merged, in removal's types.
use mathlib.Core.Path.{◌≡◌, sym, ◌∙◌, ap}
use mathlib.Core.Bool.{true}
use mathlib.Core.List.{◌∷◌}
use Prim.Native.Nat.Ordering.{eq as same}
use Rattle.counting_theory.specs.Trie.{nil, node, reduce_step, reduce_node, reduce}
use Rattle.counting_theory.specs.Label.{field_label, compare_label}
use Rattle.counting_theory.specs.declared.equivalence.Equivalence.{Equivalence}
use Rattle.removal_theory.specs.Label.{Counting, CountingType}
use Rattle.removal_theory.specs.Encoding.{sibling_keys, Tagged}
use Rattle.counting_theory.proofs.Label.{label-order}

module _ (eq : Equivalence) where
  -- fields with the same keys merge into fields with these keys
  pub keys-reduce : (c d : CountingType) → Tagged eq true c → Tagged eq true d → sibling_keys c ≡ sibling_keys d → sibling_keys (reduce Counting c d) ≡ sibling_keys c
  unfolding sibling_keys reduce reduce_node reduce_step
  keys-reduce nil d p q e = sym e
  keys-reduce (node l a c s) nil p q e = cc
  keys-reduce (node l a c s) (node m b d t) p q e =
      let k : l.key ≡ m.key = cc in
      let r : sibling_keys s ≡ sibling_keys t = cc in
      let z : l ≡ m = p.0 ∙ ap field_label k ∙ sym q.0 in
      let o : compare_label l m ≡ same = ap (compare_label l) (sym z) ∙ label-order.compare_refl l in
      rw o (ap (λ ks. l.key ∷ ks) (keys-reduce s t p.2 q.2 r))
