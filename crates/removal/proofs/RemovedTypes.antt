-- What is left of a well-formed type when another is taken out is well formed, but for the counts of fields.
use mathlib.Core.Path.{◌≡◌, refl, sym, ◌∙◌, ap}
use mathlib.Core.Bool.{Bool, true, false}
use mathlib.Core.List.{List}
use Prim.Native.Nat.{ℕ, ◌+◌}
use native.Mathlib.Omega.{arith}
use lib.Dec.{eqb}
use Rattle.value_table.specs.Value.{record_kind}
use Rattle.removal_theory.specs.Payload.{Payload}
use Rattle.counting_theory.specs.Trie.{nil, Sorted, total}
use Rattle.counting_theory.specs.Label.{Label, listed}
use Rattle.counting_theory.specs.declared.equivalence.Equivalence.{Equivalence}
use Rattle.counting_theory.specs.declared.equivalence.Equivalence.TheVariants.{Kind as by_kind, Label as by_label}
use Rattle.removal_theory.specs.Label.{Counting, CountingType}
use Rattle.removal_theory.specs.Place.{FieldTotals}
use Rattle.removal_theory.specs.Encoding.{sibling_keys, encode, Tagged}
use Rattle.removal_theory.specs.WellFormed.{fields_of, field_counts, Shallow, IsType}
use Rattle.removal_theory.proofs.Payload.{count-join}
use Rattle.counting_theory.proofs.Trie.Sizes.{total-reduce}
use Rattle.removal_theory.proofs.Label.{counting-laws}
use Rattle.counting_theory.proofs.Tagged.Parts.{holds_fields, listed-cong}
use Rattle.removal_theory.proofs.Tagged.Parts.{Shape, tagged-parts, parts-tagged, shape-keys}
use Rattle.removal_theory.proofs.WellFormed.Limit.{limit-part}
use Rattle.counting_theory.proofs.WellFormed.Nodes.{depth_under}
use Rattle.removal_theory.proofs.WellFormed.Nodes.{shallow-parts, parts-shallow, field_counts-parts}
use Rattle.removal.specs.Difference.{left}
use Rattle.removal.specs.Removed.{taken}
use Rattle.removal.proofs.Difference.{rest, apart, dropped, lessened}
use Rattle.removal.proofs.Remains.{sorted-removal, each-removal, no_larger-removal, reduce-removal}
use Rattle.removal.proofs.Taken.{taken-laws, counted-each, each-counted, all-measured}
use Rattle.removal.proofs.LabelFields.{Out, label-out}

out-nil : {w g f : CountingType} → Out w g f → w ≡ nil → f ≡ nil
out-nil rest h = h
out-nil (apart e r) h = cc
out-nil (dropped e q r) h = cc
out-nil (lessened e q r) h = cc

shallow-out : (field : Bool) (depth : ℕ) {w g f : CountingType} → Out w g f → Shallow field depth w → Shallow field depth f
shallow-out field depth rest h = h
shallow-out field depth (apart {l = l} {a = a} {c = c} {s = s} {x = x} e r) h =
    let p = shallow-parts field depth l a c s h in
    parts-shallow field depth l a c x (p.0, p.1, shallow-out field depth r p.2)
shallow-out field depth (dropped {l = l} {a = a} {c = c} {s = s} e q r) h = shallow-out field depth r (shallow-parts field depth l a c s h).2
shallow-out field depth (lessened {l = l} {a = a} {e = n} {c = c} {s = s} {x = x} {y = y} e q r) h =
    let p = shallow-parts field depth l a c s h in
    parts-shallow field depth l n x y (p.0, shallow-out (holds_fields field l) (depth_under field l depth) q p.1, shallow-out field depth r p.2)

-- totals come out as payloads do
totals-out : {w g f : CountingType} → Out w g f → Sorted Counting w → FieldTotals w → FieldTotals g → FieldTotals f
totals-out rest u h i = h
totals-out (apart e r) u h i = (h.0, h.1, totals-out r u.2 h.2 i)
totals-out (dropped e q r) u h i = totals-out r u.2 h.2 i.2
totals-out (lessened {b = b} {e = n} {c = c} {d = d} {x = x} e q r) u h i = (
  λ k.
      let z = ap (λ (p : Payload). p.count) (taken-laws.take_left e).0 in
      let y : total Counting c ≡ total Counting x + total Counting d =
      ap (total Counting) (sym (reduce-removal counting-laws taken-laws q u.1)) ∙ total-reduce counting-laws x d in
      omega (arith, count-join n b, h.0 k, i.0 k),
  totals-out q u.1 h.1 i.1,
  totals-out r u.2 h.2 i.2,
)

-- what is left of a record's key list
listed-out : (e : Equivalence) (kind : ℕ) (a b n : Payload) {c d x : CountingType} → taken a b ≡ left n → Out c d x →
    (eqb kind record_kind ≡ true → Tagged e true c × Tagged e true d × (fields_of e a.count c ≡ true) × (fields_of e b.count d ≡ true)) →
    listed e kind (sibling_keys c) ≡ listed e kind (sibling_keys d) → listed e kind (sibling_keys c) ≡ listed e kind (sibling_keys x)
unfolding listed
listed-out by_kind kind a b n t r h k = refl
listed-out by_label kind a b n {c} {d} {x} t r h k =
    listed-cong by_label kind (sibling_keys c) (sibling_keys x)
    (λ z. let w = h z in sym (label-out a b n t r w.0 w.1 (let k' : sibling_keys c ≡ sibling_keys d = rw z at k in k') w.2 w.3).0)

module _ (e : Equivalence) where
  shape-out : (field : Bool) (l : Label) (a b n : Payload) {c d x : CountingType} → taken a b ≡ left n → Out c d x → Shape e field l c → Shape e field l d →
      Tagged e (holds_fields field l) c → Tagged e (holds_fields field l) d →
      (eqb l.kind record_kind ≡ true → (fields_of e a.count c ≡ true) × (fields_of e b.count d ≡ true)) → Shape e field l x
  shape-out true l a b n t r h i p q k = h
  shape-out false l a b n {c} {d} {x} t r h i p q k =
      let keys : l.keys ≡ listed e l.kind (sibling_keys x) =
      shape-keys e false l c h ∙ listed-out e l.kind a b n t r (λ z. (rw z at p, rw z at q, (k z).0, (k z).1)) (sym (shape-keys e false l c h) ∙ shape-keys e false l d i) in
      record {
        kind-low = h.kind-low;
        kind-high = h.kind-high;
        tagged = λ j. record { kind = l.kind; key = (h.tagged j).key; keys = keys j };
        scalar = λ j. out-nil r (h.scalar j);
      }

  tagged-out : (field : Bool) {w g f : CountingType} → Out w g f → Tagged e field w → Tagged e field g → field_counts e w ≡ true → field_counts e g ≡ true →
      Tagged e field f
  tagged-out field rest p q h i = p
  tagged-out field (apart {l = l} {a = a} {c = c} {s = s} {x = x} z r) p q h i =
      let y = tagged-parts e field l a c s p in
      parts-tagged e field l a c x (y.0, y.1, tagged-out field r y.2 q (field_counts-parts e l a c s h).2 i)
  tagged-out field (dropped {l = l} {a = a} {b = b} {c = c} {s = s} {d = d} {t = t} z q₁ r) p q h i =
      tagged-out field r (tagged-parts e field l a c s p).2 (tagged-parts e field l b d t q).2 (field_counts-parts e l a c s h).2 (field_counts-parts e l b d t i).2
  tagged-out field (lessened {l = l} {a = a} {b = b} {e = n} {c = c} {s = s} {d = d} {t = t} {x = x} {y = y} z q₁ r) p q h i =
      let u = tagged-parts e field l a c s p in
      let v = tagged-parts e field l b d t q in
      let j = field_counts-parts e l a c s h in
      let k = field_counts-parts e l b d t i in
      parts-tagged e field l n x y (
        shape-out field l a b n z q₁ u.0 v.0 u.1 v.1 (λ o. (j.0 o, k.0 o)),
        tagged-out (holds_fields field l) q₁ u.1 v.1 j.1 k.1,
        tagged-out field r u.2 v.2 j.2 k.2,
      )

  pub left-type : {b c : List ℕ} {whole part f : CountingType} → IsType e b whole → IsType e c part → Out whole part f → field_counts e f ≡ true → IsType e (encode f) f
  left-type {whole = whole} {f = f} w p r fields =
      let small = no_larger-removal counting-laws taken-laws r in
      record {
        bytes = refl;
        room = omega (arith, small.sizes, w.room);
        tagged = tagged-out false r w.tagged p.tagged w.fields p.fields;
        shallow = shallow-out false 1 r w.shallow;
        sorted = sorted-removal counting-laws taken-laws r w.sorted;
        counts = each-counted f (each-removal counting-laws taken-laws r (counted-each whole w.counts));
        limit = limit-part f whole small w.limit;
        totals = totals-out r w.sorted w.totals p.totals;
        fields = fields;
        payloads = all-measured f;
      }
