-- Under label a record that stays keeps all its fields, each with the record's count: the test of the fields' counts is superfluous.
use mathlib.Core.Path.{◌≡◌, refl, sym, ◌∙◌, ap}
use mathlib.Core.Bool.{Bool, true, false}
use mathlib.Core.List.{List, [], ◌∷◌}
use mathlib.Core.Option.{some}
use Prim.Native.Nat.Ordering.{eq}
use Prim.Native.Nat.{ℕ}
use native.Mathlib.Omega.{arith}
use lib.Dec.{eqb}
use borrow.Author.Tests.{eqb-true, eq-eqb}
use Rattle.byte_records.proofs.Tests.{and_parts}
use Rattle.value_table.specs.Value.{record_kind}
use Rattle.removal_theory.specs.Payload.{Payload}
use Rattle.counting_theory.specs.Trie.{nil, node}
use Rattle.counting_theory.specs.Label.{Label, listed, field_label, compare_label}
use Rattle.counting_theory.specs.declared.equivalence.Equivalence.TheVariants.{Label as by_label}
use Rattle.removal_theory.specs.Label.{Counting, CountingType}
use Rattle.removal_theory.specs.Encoding.{sibling_keys, Tagged}
use Rattle.removal_theory.specs.WellFormed.{fields_of, field_counts, IsType}
use Rattle.counting_theory.proofs.Label.{kind-eq, label-order}
use Rattle.removal_theory.proofs.Label.{counting-laws}
use Rattle.counting_theory.proofs.Tagged.Parts.{holds_fields}
use Rattle.removal_theory.proofs.Tagged.Parts.{Shape, tagged-parts, shape-keys}
use Rattle.counting_theory.proofs.WellFormed.Tests.{both, three, implies}
use Rattle.removal_theory.proofs.WellFormed.Nodes.{field_counts-parts}
use Rattle.removal.specs.Difference.{left, difference}
use Rattle.removal.specs.Removed.{taken}
use Rattle.removal.proofs.Difference.{Removal, rest, apart, dropped, lessened, steps}
use Rattle.removal.proofs.Taken.{same_count, taken-laws}

-- f is left of w when g is taken out
abbrev pub Out : CountingType → CountingType → CountingType → Type 0
Out w g f = Removal Counting taken w g f

no_keys : (n : ℕ) (c : CountingType) → sibling_keys c ≡ [] → fields_of by_label n c ≡ true
unfolding sibling_keys fields_of
no_keys n nil h = refl
no_keys n (node l a c s) h = cc

-- a record's first field has the record's payload
first_field : (a : Payload) (l : Label) (b : Payload) (c s : CountingType) → fields_of by_label a.count (node l b c s) ≡ true →
    (b ≡ a) × (fields_of by_label a.count s ≡ true)
unfolding fields_of
first_field a l b c s h =
    let p = and_parts (eqb b.count a.count) (fields_of by_label a.count s) h in
    (same_count b a (eqb-true b.count a.count p.0), p.1)

-- the fields c of a record, and those that are left of them; a, b and n are the payloads of the records
pub label-out : (a b n : Payload) {c d x : CountingType} → taken a b ≡ left n → Out c d x → Tagged by_label true c → Tagged by_label true d →
    sibling_keys c ≡ sibling_keys d → fields_of by_label a.count c ≡ true → fields_of by_label b.count d ≡ true →
    (sibling_keys x ≡ sibling_keys c) × (fields_of by_label n.count x ≡ true)
unfolding sibling_keys fields_of
label-out a b n t (rest {f = f}) p q k h i = (refl, no_keys n.count f k)
label-out a b n t (apart {l = l} {k = m} e r) p q k h i =
    let z : l.key ≡ m.key = cc in
    let y : l ≡ m = p.0 ∙ ap field_label z ∙ sym q.0 in
    let o : compare_label l m ≡ eq = ap (compare_label l) (sym y) ∙ label-order.compare_refl l in
    (cc, cc)
label-out a b n t (dropped {l = l} {a = a'} {b = b'} {c = c} {s = s} {d = d} {t = t'} e q₁ r) p q k h i =
    let u = (first_field a l a' c s h).0 in
    let v = (first_field b l b' d t' i).0 in
    (cc, cc)
label-out a b n t (lessened {l = l} {a = a'} {b = b'} {e = n'} {c = c} {s = s} {d = d} {t = t'} e q₁ r) p q k h i =
    let u = first_field a l a' c s h in
    let v = first_field b l b' d t' i in
    let y = u.0 in
    let z = v.0 in
    let m : n' ≡ n = cc in
    let j : sibling_keys s ≡ sibling_keys t' = cc in
    let w = label-out a b n t r p.2 q.2 j u.1 v.1 in
    (ap (λ ks. l.key ∷ ks) w.0, both (eq-eqb n'.count n.count (ap (λ (x : Payload). x.count) m)) w.1)

label-record : (field : Bool) (l : Label) (a b n : Payload) {c d x : CountingType} → taken a b ≡ left n → Out c d x →
    Shape by_label field l c → Shape by_label field l d → Tagged by_label (holds_fields field l) c → Tagged by_label (holds_fields field l) d →
    eqb l.kind record_kind ≡ true → fields_of by_label a.count c ≡ true → fields_of by_label b.count d ≡ true → fields_of by_label n.count x ≡ true
unfolding listed
label-record true l a b n t r x y p q z h i = absurd (omega (arith, kind-eq x, eqb-true l.kind record_kind z))
label-record false l a b n {c} {d} t r x y p q z h i =
    let keys : listed by_label l.kind (sibling_keys c) ≡ listed by_label l.kind (sibling_keys d) = sym (shape-keys by_label false l c x) ∙ shape-keys by_label false l d y in
    let k : sibling_keys c ≡ sibling_keys d = rw z at keys in
    (label-out a b n t r (rw z at p) (rw z at q) k h i).1

label-counts : (field : Bool) {w g f : CountingType} → Out w g f → Tagged by_label field w → Tagged by_label field g →
    field_counts by_label w ≡ true → field_counts by_label g ≡ true → field_counts by_label f ≡ true
unfolding field_counts
label-counts field rest p q h i = h
label-counts field (apart {l = l} {a = a} {c = c} {s = s} z r) p q h i =
    let j = field_counts-parts by_label l a c s h in
    three (implies (eqb l.kind record_kind) (fields_of by_label a.count c) j.0) j.1 (label-counts field r (tagged-parts by_label field l a c s p).2 q j.2 i)
label-counts field (dropped {l = l} {a = a} {b = b} {c = c} {s = s} {d = d} {t = t} z q₁ r) p q h i =
    label-counts field r (tagged-parts by_label field l a c s p).2 (tagged-parts by_label field l b d t q).2 (field_counts-parts by_label l a c s h).2
    (field_counts-parts by_label l b d t i).2
label-counts field (lessened {l = l} {a = a} {b = b} {e = n} {c = c} {s = s} {d = d} {t = t} {x = x} z q₁ r) p q h i =
    let u = tagged-parts by_label field l a c s p in
    let v = tagged-parts by_label field l b d t q in
    let j = field_counts-parts by_label l a c s h in
    let k = field_counts-parts by_label l b d t i in
    three (implies (eqb l.kind record_kind) (fields_of by_label n.count x) (λ o. label-record field l a b n z q₁ u.0 v.0 u.1 v.1 o (j.0 o) (k.0 o)))
    (label-counts (holds_fields field l) q₁ u.1 v.1 j.1 k.1) (label-counts field r u.2 v.2 j.2 k.2)

pub fields_out : {b c : List ℕ} {whole part f : CountingType} → IsType by_label b whole → IsType by_label c part → difference Counting taken whole part ≡ some f →
    field_counts by_label f ≡ true
fields_out {whole = whole} {part = part} {f = f} w p h =
    label-counts false (steps counting-laws taken-laws whole part f h) w.tagged p.tagged w.fields p.fields
