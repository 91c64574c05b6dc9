-- What is asked of each node holds in the merge of two of removal's types.
use mathlib.Core.Path.{◌≡◌, refl, sym, ◌∙◌}
use mathlib.Core.Bool.{Bool, true, false}
use Prim.Native.Nat.Ordering.{eq}
use Prim.Native.Nat.Ordering.{gt}
use Prim.Native.Nat.Ordering.{lt}
use Prim.Native.Nat.{ℕ, Ordering}
use native.Mathlib.Omega.{arith}
use lib.Dec.{eqb}
use borrow.Author.Tests.{eqb-true}
use Rattle.value_table.specs.Value.{record_kind}
use Rattle.removal_theory.specs.Payload.{Payload, join}
use Rattle.counting_theory.specs.Trie.{nil, node, total, reduce_step, reduce_node, reduce}
use Rattle.counting_theory.specs.Label.{Label, listed, compare_label}
use Rattle.counting_theory.specs.declared.equivalence.Equivalence.{Equivalence}
use Rattle.removal_theory.specs.Label.{Counting, CountingType}
use Rattle.removal_theory.specs.Encoding.{sibling_keys, Tagged}
use Rattle.removal_theory.specs.WellFormed.{fields_of}
use Rattle.removal_theory.proofs.Payload.{count-join, proper-join}
use Rattle.counting_theory.proofs.Label.{kind-eq, label-order}
use Rattle.removal_theory.proofs.Label.{counting-laws}
use Rattle.counting_theory.proofs.Trie.Sizes.{total-reduce}
use Rattle.counting_theory.proofs.Tagged.Parts.{holds_fields}
use Rattle.removal_theory.proofs.Tagged.Parts.{Shape, Parts, tagged-parts, shape-keys}
use Rattle.counting_theory.proofs.WellFormed.Nodes.{depth_under}
use Rattle.removal_theory.proofs.WellFormed.Nodes.{Own, EachNode}
use Rattle.removal_theory.proofs.WellFormed.Fields.{fields-reduce}

module _ (e : Equivalence) where
  -- two records of one class
  record-reduce : (field : Bool) (l : Label) (a b : Payload) (c d : CountingType) → Shape e field l c → Shape e field l d →
      Tagged e (holds_fields field l) c → Tagged e (holds_fields field l) d → eqb l.kind record_kind ≡ true →
      fields_of e a.count c ≡ true → fields_of e b.count d ≡ true → fields_of e (join a b).count (reduce Counting c d) ≡ true
  record-reduce true l a b c d x y p q t f g = absurd (omega (arith, kind-eq x, eqb-true l.kind record_kind t))
  record-reduce false l a b c d x y p q t f g =
      let keys : listed e l.kind (sibling_keys c) ≡ listed e l.kind (sibling_keys d) = sym (shape-keys e false l c x) ∙ shape-keys e false l d y in
      rw (count-join a b) (fields-reduce e a.count b.count c d (rw t at p) (rw t at q) (rw (eqb-true l.kind record_kind t) at keys) f g)

  own-reduce : (field : Bool) (depth : ℕ) (l : Label) (a b : Payload) (c d : CountingType) → Shape e field l c → Shape e field l d →
      Tagged e (holds_fields field l) c → Tagged e (holds_fields field l) d →
      Own e field depth l a c → Own e field depth l b d → Own e field depth l (join a b) (reduce Counting c d)
  own-reduce field depth l a b c d x y p q h i =
      record {
        placed = h.placed;
        positive = omega (arith, count-join a b, h.positive);
        fields = λ t. record-reduce field l a b c d x y p q t (h.fields t) (i.fields t);
        payload = rw (total-reduce counting-laws c d) (proper-join l.kind a b (total Counting c) (total Counting d) h.positive i.positive h.payload i.payload);
      }

  module _ (field : Bool) (depth : ℕ) (l : Label) (a : Payload) (c s : CountingType) (p : Parts e field l c s) (h : EachNode e field depth (node l a c s)) where
    abbrev merge : CountingType → CountingType
    merge = reduce_node Counting l a c (reduce Counting c) (reduce Counting s)

    abbrev Inner : CountingType → Type 0
    Inner d = EachNode e (holds_fields field l) (depth_under field l depth) d

    each-reduce_node : ((d : CountingType) → Tagged e (holds_fields field l) d → Inner d → Inner (reduce Counting c d)) →
        ((t : CountingType) → Tagged e field t → EachNode e field depth t → EachNode e field depth (reduce Counting s t)) →
        (g : CountingType) → Tagged e field g → EachNode e field depth g → EachNode e field depth (merge g)
    unfolding reduce_node reduce_step
    each-reduce_node hc hs nil q i = (h.0, h.1, hs nil tt tt)
    each-reduce_node hc hs (node k b d t) q i = go (compare_label l k) refl (each-reduce_node hc hs t r.2 i.2)
      where
        r : Parts e field k d t
        r = tagged-parts e field k b d t q

        go : (o : Ordering) → compare_label l k ≡ o → EachNode e field depth (merge t) →
            EachNode e field depth (reduce_step Counting o l a c (reduce Counting c) (reduce Counting s) k b d t (merge t))
        go lt z j = (h.0, h.1, hs (node k b d t) q i)
        go eq z j =
            let r' : Parts e field l d t = rw (label-order.compare-eq z) r in
            let i' : EachNode e field depth (node l b d t) = rw (label-order.compare-eq z) i in
            (own-reduce field depth l a b c d p.0 r'.0 p.1 r'.1 h.0 i'.0, hc d r'.1 i'.1, hs t r'.2 i'.2)
        go gt z j = (i.0, i.1, j)

  pub each-reduce : (field : Bool) (depth : ℕ) (f g : CountingType) → Tagged e field f → Tagged e field g →
      EachNode e field depth f → EachNode e field depth g → EachNode e field depth (reduce Counting f g)
  unfolding reduce
  each-reduce field depth nil g p q h i = i
  each-reduce field depth (node l a c s) g p q h i =
      let r = tagged-parts e field l a c s p in
      each-reduce_node field depth l a c s r h (λ d x. each-reduce (holds_fields field l) (depth_under field l depth) c d r.1 x h.1)
      (λ t x. each-reduce field depth s t r.2 x h.2) g q i
