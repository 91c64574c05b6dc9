-- Two siblings of types have one label exactly if document 000's equivalence relates them.
use mathlib.Core.Path.{◌≡◌, sym, ◌∙◌}
use mathlib.Core.Bool.{Bool, true, false}
use mathlib.Core.Logic.{inl, inr}
use Prim.Native.Nat.{ℕ}
use native.Mathlib.Omega.{arith}
use borrow.Author.Tests.{eqb-true, eq-eqb}
use Rattle.value_table.specs.Value.{record_kind}
use Rattle.counting_theory.specs.Payload.{Payload}
use Rattle.counting_theory.specs.Trie.{nil, node, Sorted}
use Rattle.counting_theory.specs.Label.{Label, listed, Counting, CountingType}
use Rattle.counting_theory.specs.declared.equivalence.Equivalence.{Equivalence}
use Rattle.counting_theory.specs.declared.equivalence.Equivalence.TheVariants.{Kind as by_kind, Label as by_label}
use Rattle.counting_theory.specs.Encoding.{sibling_keys, Tagged}
use Rattle.counting_theory.specs.Published.{Addend, HasKey, Related, LabelsRelate}
use Rattle.counting_theory.proofs.Label.{kind-eq, key-eq, keys-eq}
use Rattle.counting_theory.proofs.Tagged.Parts.{holds_fields, Shape, listed-cong, tagged-parts, shape-keys}
use Rattle.counting_theory.proofs.Published.Addends.{addend-sorted}
use Rattle.counting_theory.proofs.Published.Keys.{keys-has, same_keys}

-- node l c stands among the siblings of a sorted type
record Sibling (eq : Equivalence) (field : Bool) (l : Label) (c : CountingType) : Type 0 where
  shape : Shape eq field l c
  inside : Tagged eq (holds_fields field l) c
  sorted : Sorted Counting c

addend-parts : (eq : Equivalence) (field : Bool) (l : Label) (a : Payload) (c f : CountingType) → Tagged eq field f → Addend l a c f →
    Shape eq field l c × Tagged eq (holds_fields field l) c
addend-parts eq field l a c nil p i = absurd i
addend-parts eq field l a c (node x b d s) p (inl z) = let r = tagged-parts eq field x b d s p in rw (z.0, z.2) (r.0, r.1)
addend-parts eq field l a c (node x b d s) p (inr i) = addend-parts eq field l a c s (tagged-parts eq field x b d s p).2 i

addend-sibling : (eq : Equivalence) (field : Bool) (l : Label) (a : Payload) (c f : CountingType) → Tagged eq field f → Sorted Counting f → Addend l a c f → Sibling eq field l c
addend-sibling eq field l a c f p u i =
    let r = addend-parts eq field l a c f p i in
    record { shape = r.0; inside = r.1; sorted = addend-sorted l a c f u i }

record-fields : (eq : Equivalence) (field : Bool) (l : Label) (c : CountingType) → Sibling eq field l c → l.kind ≡ record_kind → Tagged eq true c
record-fields eq true l c i e = absurd (omega (arith, kind-eq i.shape))
record-fields eq false l c i e = rw (eq-eqb l.kind record_kind e) at i.inside

record-keys : (field : Bool) (l : Label) (c : CountingType) → Sibling by_label field l c → l.kind ≡ record_kind → l.keys ≡ sibling_keys c
unfolding listed
record-keys field l c i e = rw e at (shape-keys by_label field l c i.shape)

shared-key : (field : Bool) (l m : Label) (c d : CountingType) → Sibling by_label field l c → Sibling by_label field m d → l ≡ m → l.kind ≡ record_kind →
    (k : ℕ) → HasKey k c → HasKey k d
shared-key field l m c d i j e r k h =
    let s = sym (kind-eq e) ∙ r in
    let same = sym (record-keys field l c i r) ∙ keys-eq e ∙ record-keys field m d j s in
    keys-has by_label c d (record-fields by_label field l c i r) (record-fields by_label field m d j s) same k h.0 h.1 h.2

module _ (field : Bool) (l m : Label) (c d : CountingType) where
  label-related : (eq : Equivalence) → Sibling eq field l c → Sibling eq field m d → l ≡ m → Related eq l c m d
  label-related by_kind i j e = (key-eq e, kind-eq e)
  label-related by_label i j e =
      (key-eq e, (kind-eq e, λ r k. (shared-key field l m c d i j e r k, shared-key field m l d c j i (sym e) (sym (kind-eq e) ∙ r) k)))

  related-keys : (eq : Equivalence) → Sibling eq field l c → Sibling eq field m d → Related eq l c m d → l.keys ≡ m.keys
  unfolding listed
  related-keys by_kind i j r = shape-keys by_kind field l c i.shape ∙ sym (shape-keys by_kind field m d j.shape)
  related-keys by_label i j r =
      let e = r.1.0 in
      let same = listed-cong by_label m.kind (sibling_keys c) (sibling_keys d)
      (λ t. let s = eqb-true m.kind record_kind t in
      same_keys by_label c d (record-fields by_label field l c i (e ∙ s)) (record-fields by_label field m d j s) i.sorted j.sorted (r.1.1 (e ∙ s))) in
      shape-keys by_label field l c i.shape ∙ rw e same ∙ sym (shape-keys by_label field m d j.shape)

  related-label : (eq : Equivalence) → Sibling eq field l c → Sibling eq field m d → Related eq l c m d → l ≡ m
  related-label by_kind i j r = λ k. record { kind = r.1 k; key = r.0 k; keys = related-keys by_kind i j r k }
  related-label by_label i j r = λ k. record { kind = r.1.0 k; key = r.0 k; keys = related-keys by_label i j r k }

pub labels-relate : LabelsRelate
labels-relate eq field f g p q u v l m a b c d i j =
    let x = addend-sibling eq field l a c f p u i in
    let y = addend-sibling eq field m b d g q v j in
    (label-related field l m c d eq x y, related-label field l m c d eq x y)
