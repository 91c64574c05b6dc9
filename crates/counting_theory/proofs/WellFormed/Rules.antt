-- The rules of a type as tests, and what they say.
use mathlib.Core.Path.{◌≡◌, refl, ap}
use mathlib.Core.Bool.{true, ◌&&◌}
use Prim.Native.Nat.Ordering.{eq}
use Prim.Native.Nat.Ordering.{gt}
use Prim.Native.Nat.Ordering.{lt}
use Prim.Native.Nat.{Ordering}
use lib.Dec.{eqb}
use borrow.Author.Tests.{eqb-true, eq-eqb}
use Rattle.byte_records.proofs.Tests.{and_parts}
use Rattle.counting_theory.specs.Trie.{nil, node, Before, Sorted, total}
use Rattle.counting_theory.specs.Label.{Label, field_kind, compare_label, Counting, CountingType}
use Rattle.counting_theory.specs.declared.equivalence.Equivalence.{Equivalence}
use Rattle.counting_theory.specs.Place.{FieldTotals}
use Rattle.counting_theory.specs.WellFormed.{counted, within_limit, is_lt, precedes, ascends, field_totals, field_counts, measured, obeys}
use Rattle.counting_theory.proofs.WellFormed.Tests.{both, three-parts, three, implied, implies}

pub is_lt-true : (o : Ordering) → is_lt o ≡ true → o ≡ lt
is_lt-true lt h = refl
is_lt-true eq h = cc
is_lt-true gt h = cc

precedes-before : (l : Label) (f : CountingType) → precedes l f ≡ true → Before Counting l f
precedes-before l nil h = tt
precedes-before l (node m a c s) h = is_lt-true (compare_label l m) h

before-precedes : (l : Label) (f : CountingType) → Before Counting l f → precedes l f ≡ true
before-precedes l nil h = refl
before-precedes l (node m a c s) h = ap is_lt h

ascends-sorted : (f : CountingType) → ascends f ≡ true → Sorted Counting f
unfolding ascends
ascends-sorted nil h = tt
ascends-sorted (node l a c s) h =
    let p = three-parts (precedes l s) (ascends c) (ascends s) h in
    (precedes-before l s p.0, ascends-sorted c p.1, ascends-sorted s p.2)

sorted-ascends : (f : CountingType) → Sorted Counting f → ascends f ≡ true
unfolding ascends
sorted-ascends nil h = refl
sorted-ascends (node l a c s) h = three (before-precedes l s h.0) (sorted-ascends c h.1) (sorted-ascends s h.2)

totals-hold : (f : CountingType) → field_totals f ≡ true → FieldTotals f
unfolding field_totals
totals-hold nil h = tt
totals-hold (node l a c s) h =
    let p = three-parts _ (field_totals c) (field_totals s) h in (
      λ k. eqb-true a.count (total Counting c) (implied (eqb l.kind field_kind) (eqb a.count (total Counting c)) p.0 (eq-eqb l.kind field_kind k)),
      totals-hold c p.1,
      totals-hold s p.2,
    )

totals-test : (f : CountingType) → FieldTotals f → field_totals f ≡ true
unfolding field_totals
totals-test nil h = refl
totals-test (node l a c s) h =
    three (implies (eqb l.kind field_kind) (eqb a.count (total Counting c)) (λ k. eq-eqb a.count (total Counting c) (h.0 (eqb-true l.kind field_kind k))))
    (totals-test c h.1) (totals-test s h.2)

pub record Rules (e : Equivalence) (f : CountingType) : Type 0 where
  pub counts : counted f ≡ true
  pub limit : within_limit f ≡ true
  pub sorted : Sorted Counting f
  pub totals : FieldTotals f
  pub fields : field_counts e f ≡ true
  pub payloads : measured f ≡ true

module _ (e : Equivalence) (f : CountingType) where
  pub obeys-rules : obeys e f ≡ true → Rules e f
  obeys-rules h =
      let m = and_parts (counted f && within_limit f && ascends f && field_totals f && field_counts e f) (measured f) h in
      let p = three-parts (counted f && within_limit f && ascends f) (field_totals f) (field_counts e f) m.0 in
      let q = three-parts (counted f) (within_limit f) (ascends f) p.0 in
      record {
        counts = q.0;
        limit = q.1;
        sorted = ascends-sorted f q.2;
        totals = totals-hold f p.1;
        fields = p.2;
        payloads = m.1;
      }

  pub rules-obeys : Rules e f → obeys e f ≡ true
  rules-obeys r =
      both (three (three r.counts r.limit (sorted-ascends f r.sorted)) (totals-test f r.totals) r.fields) r.payloads
