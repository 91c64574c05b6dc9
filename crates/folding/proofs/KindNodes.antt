-- What a type asks of each of its nodes holds in the kind type of a type under label.
use mathlib.Core.Path.{◌≡◌, refl, sym, ◌∙◌, ap}
use mathlib.Core.Bool.{Bool, true, false}
use Prim.Native.Nat.{ℕ}
use native.Mathlib.Omega.{arith}
use lib.Dec.{eqb}
use borrow.Author.Tests.{eqb-true, le-leb}
use Rattle.value_table.specs.Value.{record_kind}
use Rattle.byte_records.proofs.Tests.{and_parts}
use Rattle.counting_theory.specs.Payload.{Payload}
use Rattle.counting_theory.specs.Trie.{nil, node, reduce_step, reduce_node, reduce, Sorted}
use Rattle.counting_theory.specs.Label.{Label, field_label, Counting, CountingType}
use Rattle.counting_theory.specs.declared.equivalence.Equivalence.TheVariants.{Kind as by_kind, Label as by_label}
use Rattle.counting_theory.specs.Place.{FieldTotals}
use Rattle.counting_theory.specs.Encoding.{Tagged}
use Rattle.counting_theory.specs.WellFormed.{fields_of}
use Rattle.folding.specs.Fold.{relabel, kind_label, kind_type}
use Rattle.counting_theory.proofs.Label.{kind-eq}
use Rattle.counting_theory.proofs.Tagged.Parts.{holds_fields, Shape, tagged-parts}
use Rattle.counting_theory.proofs.Values.Totals.{add-totals}
use Rattle.counting_theory.proofs.WellFormed.Tests.{both}
use Rattle.counting_theory.proofs.WellFormed.Nodes.{KeyOrDepth, depth_under, Own, EachNode}
use Rattle.counting_theory.proofs.WellFormed.Reduce.{each-reduce}
use Rattle.folding.proofs.KindType.{kind-nil, kind-node, total-relabel, kind-total}
use Rattle.folding.proofs.KindTagged.{kind-tagged, first-tagged}

field-same : (l : Label) → l ≡ field_label l.key → kind_label l ≡ l
field-same l h = λ i. record { kind = l.kind; key = l.key; keys = sym (ap (λ (m : Label). m.keys) h) i }

-- a record's fields stay as they are, but for what is inside them
fields-kind : (l : Label) (a : Payload) (c s : CountingType) → Tagged by_label true (node l a c s) → Sorted Counting (node l a c s) →
    kind_type (node l a c s) ≡ node l a (kind_type c) (kind_type s)
unfolding reduce reduce_node reduce_step
fields-kind l a c nil h u = kind-node l a c nil ∙ rw (kind-nil, field-same l h.0) refl
fields-kind l a c (node m b d t) h u =
    kind-node l a c (node m b d t) ∙ rw (field-same l h.0, fields-kind m b d t h.2 u.2, u.0) refl

-- under label they have the count of their record
record-kind : (n : ℕ) (c : CountingType) → Tagged by_label true c → Sorted Counting c → fields_of by_label n c ≡ true → fields_of by_kind n (kind_type c) ≡ true
unfolding fields_of
record-kind n nil h u i = rw kind-nil refl
record-kind n (node l a c s) h u i =
    let p = and_parts (eqb a.count n) (fields_of by_label n s) i in
    rw (fields-kind l a c s h u) (both (le-leb a.count n (omega (arith, eqb-true a.count n p.0))) (record-kind n s h.2 u.2 p.1))

record-children : (field : Bool) (l : Label) (c : CountingType) → Shape by_label field l c → eqb l.kind record_kind ≡ true → Tagged by_label (holds_fields field l) c →
    Tagged by_label true c
record-children true l c x t h = absurd (omega (arith, kind-eq x, eqb-true l.kind record_kind t))
record-children false l c x t h = rw t at h

placed-kind : (field : Bool) (depth : ℕ) (l : Label) → KeyOrDepth field depth l → KeyOrDepth field depth (kind_label l)
placed-kind true depth l h = h
placed-kind false depth l h = h

first-each : (field : Bool) (depth : ℕ) (l : Label) (a : Payload) (x : CountingType) → Own by_kind field depth (kind_label l) a x →
    EachNode by_kind (holds_fields field l) (depth_under field l depth) x → EachNode by_kind field depth (node (kind_label l) a x nil)
first-each true depth l a x h i = (h, i, tt)
first-each false depth l a x h i = (h, i, tt)

pub kind-each : (field : Bool) (depth : ℕ) (f : CountingType) → Tagged by_label field f → Sorted Counting f → EachNode by_label field depth f → EachNode by_kind field depth (kind_type f)
kind-each field depth nil h u i = rw kind-nil tt
kind-each field depth (node l a c s) h u i =
    let p = tagged-parts by_label field l a c s h in
    let own : Own by_kind field depth (kind_label l) a (kind_type c) =
    record {
      placed = placed-kind field depth l i.0.placed;
      positive = i.0.positive;
      fields = λ t. record-kind a.count c (record-children field l c p.0 t p.1) u.1 (i.0.fields t);
      payload = rw (kind-total c) i.0.payload;
    } in
    rw (kind-node l a c s)
    (each-reduce by_kind field depth (node (kind_label l) a (kind_type c) nil) (kind_type s) (first-tagged field l a c s h) (kind-tagged field s p.2)
    (first-each field depth l a (kind_type c) own (kind-each (holds_fields field l) (depth_under field l depth) c p.1 u.1 i.1))
    (kind-each field depth s p.2 u.2 i.2))

totals-relabel : (f : CountingType) → FieldTotals f → FieldTotals (relabel kind_label f)
unfolding relabel
totals-relabel nil h = tt
totals-relabel (node l a c s) h = (λ k. h.0 k ∙ sym (total-relabel c), totals-relabel c h.1, totals-relabel s h.2)

pub kind-totals : (f : CountingType) → FieldTotals f → FieldTotals (kind_type f)
unfolding kind_type
kind-totals f h = add-totals (relabel kind_label f) nil (totals-relabel f h) tt
