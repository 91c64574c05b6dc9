-- The counts of fields against their record's, in the merge of two records of one class, for removal's types.
use mathlib.Core.Path.{◌≡◌, refl, sym, ◌∙◌, ap}
use mathlib.Core.Bool.{true}
use Prim.Native.Nat.Ordering.{eq}
use Prim.Native.Nat.Ordering.{gt}
use Prim.Native.Nat.Ordering.{lt}
use Prim.Native.Nat.{ℕ, ◌+◌, ◌≤◌, Ordering}
use native.Mathlib.Omega.{arith}
use lib.Dec.{eqb, leb}
use borrow.Author.Tests.{leb-true, le-leb, eqb-true, eq-eqb}
use Rattle.value_table.specs.Value.{record_kind}
use Rattle.byte_records.proofs.Tests.{and_parts}
use Rattle.removal_theory.specs.Payload.{Payload, join}
use Rattle.counting_theory.specs.Trie.{nil, node, reduce_step, reduce_node, reduce}
use Rattle.counting_theory.specs.Label.{Label, listed, field_label, compare_label}
use Rattle.counting_theory.specs.declared.equivalence.Equivalence.{Equivalence}
use Rattle.counting_theory.specs.declared.equivalence.Equivalence.TheVariants.{Kind as by_kind, Label as by_label}
use Rattle.removal_theory.specs.Label.{Counting, CountingType}
use Rattle.removal_theory.specs.Encoding.{sibling_keys, Tagged}
use Rattle.removal_theory.specs.WellFormed.{fields_of}
use Rattle.removal_theory.proofs.Payload.{count-join}
use Rattle.counting_theory.proofs.Label.{label-order}
use Rattle.counting_theory.proofs.WellFormed.Tests.{both}

fields-grow : (a b : ℕ) (c : CountingType) → a ≤ b → fields_of by_kind a c ≡ true → fields_of by_kind b c ≡ true
unfolding fields_of
fields-grow a b nil h i = refl
fields-grow a b (node l x c s) h i =
    let p = and_parts (leb x.count a) (fields_of by_kind a s) i in
    both (le-leb x.count b (omega (arith, leb-true x.count a p.0))) (fields-grow a b s h p.1)

module _ (a b : ℕ) (l : Label) (x : Payload) (c s : CountingType) (own : x.count ≤ a)
    (next : (t : CountingType) → fields_of by_kind b t ≡ true → fields_of by_kind (a + b) (reduce Counting s t) ≡ true) where
  abbrev merge : CountingType → CountingType
  merge = reduce_node Counting l x c (reduce Counting c) (reduce Counting s)

  kind-reduce_node : (g : CountingType) → fields_of by_kind b g ≡ true → fields_of by_kind (a + b) (merge g) ≡ true
  unfolding fields_of reduce_node reduce_step
  kind-reduce_node nil i = both (le-leb x.count (a + b) (omega arith)) (next nil refl)
  kind-reduce_node (node k y d t) i = go (compare_label l k) (kind-reduce_node t p.1)
    where
      p : (leb y.count b ≡ true) × (fields_of by_kind b t ≡ true)
      p = and_parts (leb y.count b) (fields_of by_kind b t) i

      go : (o : Ordering) → fields_of by_kind (a + b) (merge t) ≡ true →
          fields_of by_kind (a + b) (reduce_step Counting o l x c (reduce Counting c) (reduce Counting s) k y d t (merge t)) ≡ true
      go lt j = both (le-leb x.count (a + b) (omega arith)) (next (node k y d t) i)
      go eq j = both (le-leb (join x y).count (a + b) (omega (arith, count-join x y, leb-true y.count b p.0))) (next t p.1)
      go gt j = both (le-leb y.count (a + b) (omega (arith, leb-true y.count b p.0))) j

kind-reduce : (a b : ℕ) (c d : CountingType) → fields_of by_kind a c ≡ true → fields_of by_kind b d ≡ true → fields_of by_kind (a + b) (reduce Counting c d) ≡ true
unfolding reduce fields_of
kind-reduce a b nil d h i = fields-grow b (a + b) d (omega arith) i
kind-reduce a b (node l x c s) d h i =
    let p = and_parts (leb x.count a) (fields_of by_kind a s) h in
    kind-reduce_node a b l x c s (leb-true x.count a p.0) (λ t. kind-reduce a b s t p.1) d i

-- under label both have the same fields
label-reduce : (a b : ℕ) (c d : CountingType) → Tagged by_label true c → Tagged by_label true d → sibling_keys c ≡ sibling_keys d →
    fields_of by_label a c ≡ true → fields_of by_label b d ≡ true → fields_of by_label (a + b) (reduce Counting c d) ≡ true
unfolding sibling_keys reduce reduce_node reduce_step fields_of
label-reduce a b nil nil p q e h i = refl
label-reduce a b nil (node m y d t) p q e h i = cc
label-reduce a b (node l x c s) nil p q e h i = cc
label-reduce a b (node l x c s) (node m y d t) p q e h i =
    let k : l.key ≡ m.key = cc in
    let r : sibling_keys s ≡ sibling_keys t = cc in
    let z : l ≡ m = p.0 ∙ ap field_label k ∙ sym q.0 in
    let o : compare_label l m ≡ eq = ap (compare_label l) (sym z) ∙ label-order.compare_refl l in
    let u = and_parts (eqb x.count a) (fields_of by_label a s) h in
    let v = and_parts (eqb y.count b) (fields_of by_label b t) i in
    rw o (both (eq-eqb (join x y).count (a + b) (omega (arith, count-join x y, eqb-true x.count a u.0, eqb-true y.count b v.0))) (label-reduce a b s t p.2 q.2 r u.1 v.1))

pub fields-reduce : (e : Equivalence) (a b : ℕ) (c d : CountingType) → Tagged e true c → Tagged e true d →
    listed e record_kind (sibling_keys c) ≡ listed e record_kind (sibling_keys d) →
    fields_of e a c ≡ true → fields_of e b d ≡ true → fields_of e (a + b) (reduce Counting c d) ≡ true
unfolding listed
fields-reduce by_kind a b c d p q e h i = kind-reduce a b c d h i
fields-reduce by_label a b c d p q e h i = label-reduce a b c d p q e h i
