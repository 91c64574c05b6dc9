-- The merge of two types is a type.
use mathlib.Core.Path.{◌≡◌, refl, sym, ◌∙◌}
use mathlib.Core.Bool.{Bool, true, false}
use Prim.Native.Nat.Ordering.{eq as same}
use Prim.Native.Nat.Ordering.{gt as greater}
use Prim.Native.Nat.Ordering.{lt as less}
use Prim.Native.Nat.{Ordering}
use Rattle.counting_theory.specs.Payload.{Payload, join}
use Rattle.counting_theory.specs.Trie.{nil, node, reduce_step, reduce_node, reduce}
use Rattle.counting_theory.specs.Label.{Label, listed, compare_label, Counting, CountingType}
use Rattle.counting_theory.specs.declared.equivalence.Equivalence.{Equivalence}
use Rattle.counting_theory.specs.Encoding.{sibling_keys, Tagged}
use Rattle.counting_theory.proofs.Label.{label-order}
use Rattle.counting_theory.proofs.Tagged.Keys.{keys-reduce}
use Rattle.counting_theory.proofs.Tagged.Parts.{holds_fields, Shape, Parts, listed-change, tagged-parts, parts-tagged, shape-keys}

module _ (eq : Equivalence) where
  shape-reduce : (field : Bool) (l : Label) (c d : CountingType) → Shape eq field l c → Shape eq field l d →
      Tagged eq (holds_fields field l) c → Tagged eq (holds_fields field l) d → Shape eq field l (reduce Counting c d)
  unfolding reduce
  shape-reduce true l c d h i p q = h
  shape-reduce false l c d h i p q =
      let keys : l.keys ≡ listed eq l.kind (sibling_keys (reduce Counting c d)) =
      shape-keys eq false l c h ∙ sym (listed-change eq l.kind (sibling_keys c) (sibling_keys d) (sibling_keys (reduce Counting c d))
      (λ t e. keys-reduce eq c d (rw t at p) (rw t at q) e) (sym (shape-keys eq false l c h) ∙ shape-keys eq false l d i)) in
      record {
        kind-low = h.kind-low;
        kind-high = h.kind-high;
        tagged = λ j. record { kind = l.kind; key = (h.tagged j).key; keys = keys j };
        scalar = λ k. rw (h.scalar k, i.scalar k) refl;
      }

  module _ (field : Bool) (l : Label) (a : Payload) (c s : CountingType) (p : Parts eq field l c s) where
    abbrev merge : CountingType → CountingType
    merge = reduce_node Counting l a c (reduce Counting c) (reduce Counting s)

    tagged-reduce_node : ((d : CountingType) → Tagged eq (holds_fields field l) d → Tagged eq (holds_fields field l) (reduce Counting c d)) →
        ((t : CountingType) → Tagged eq field t → Tagged eq field (reduce Counting s t)) →
        (g : CountingType) → Tagged eq field g → Tagged eq field (merge g)
    unfolding reduce_node reduce_step
    tagged-reduce_node hc hs nil q = parts-tagged eq field l a c (reduce Counting s nil) (p.0, p.1, hs nil tt)
    tagged-reduce_node hc hs (node k b d t) q = go (compare_label l k) refl (tagged-reduce_node hc hs t r.2)
      where
        r : Parts eq field k d t
        r = tagged-parts eq field k b d t q

        go : (o : Ordering) → compare_label l k ≡ o → Tagged eq field (merge t) →
            Tagged eq field (reduce_step Counting o l a c (reduce Counting c) (reduce Counting s) k b d t (merge t))
        go less e i = parts-tagged eq field l a c (reduce Counting s (node k b d t)) (p.0, p.1, hs (node k b d t) q)
        go same e i =
            let r' : Parts eq field l d t = rw (label-order.compare-eq e) r in
            parts-tagged eq field l (join a b) (reduce Counting c d) (reduce Counting s t) (shape-reduce field l c d p.0 r'.0 p.1 r'.1, hc d r'.1, hs t r'.2)
        go greater e i = parts-tagged eq field k b d (merge t) (r.0, r.1, i)

  pub tagged-reduce : (field : Bool) (f g : CountingType) → Tagged eq field f → Tagged eq field g → Tagged eq field (reduce Counting f g)
  unfolding reduce
  tagged-reduce field nil g p q = q
  tagged-reduce field (node l a c s) g p q =
      let r = tagged-parts eq field l a c s p in
      tagged-reduce_node field l a c s r (λ d. tagged-reduce (holds_fields field l) c d r.1) (λ t. tagged-reduce field s t r.2) g q
