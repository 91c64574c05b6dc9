-- The rules of a type that stands in a union or a run of fields: all but the limit on its own total. They are rules of its first
-- node, and of what stands inside it and behind it.
use mathlib.Core.Path.{◌≡◌}
use mathlib.Core.Bool.{true}
use Prim.Native.Nat.{◌≤◌}
use native.Mathlib.Omega.{arith}
use lib.Dec.{eqb}
use borrow.Author.Tests.{le-leb}
use Rattle.value_table.specs.Value.{record_kind}
use Rattle.counting_theory.specs.Payload.{Payload, proper}
use Rattle.counting_theory.specs.Trie.{node, Before, Sorted, total, largest_below}
use Rattle.counting_theory.specs.Label.{Label, field_kind, Counting, CountingType}
use Rattle.counting_theory.specs.declared.equivalence.Equivalence.{Equivalence}
use Rattle.counting_theory.specs.Place.{FieldTotals}
use Rattle.counting_theory.specs.WellFormed.{max_total, counted, fields_of, field_counts, measured}
use Rattle.counting_theory.proofs.WellFormed.Tests.{three, implies}
use Rattle.counting_theory.proofs.WellFormed.Nodes.{counted-parts, field_counts-parts, measured-parts}

pub record Ruled (e : Equivalence) (f : CountingType) : Type 0 where
  pub counts : counted f ≡ true
  pub below : largest_below Counting f ≤ max_total
  pub sorted : Sorted Counting f
  pub totals : FieldTotals f
  pub fields : field_counts e f ≡ true
  pub payloads : measured f ≡ true

pub record NodeRuled (e : Equivalence) (l : Label) (a : Payload) (c s : CountingType) : Type 0 where
  pub positive : 1 ≤ a.count
  pub before : Before Counting l s
  pub within : total Counting c ≤ max_total
  pub field-total : l.kind ≡ field_kind → a.count ≡ total Counting c
  pub fields-of : eqb l.kind record_kind ≡ true → fields_of e a.count c ≡ true
  pub payload : proper l.kind a (total Counting c) ≡ true

module _ (e : Equivalence) (l : Label) (a : Payload) (c s : CountingType) where
  pub ruled-node : NodeRuled e l a c s → Ruled e c → Ruled e s → Ruled e (node l a c s)
  unfolding largest_below counted field_counts measured
  ruled-node n x y =
      record {
        counts = three (le-leb 1 a.count n.positive) x.counts y.counts;
        below = omega (arith, n.within, x.below, y.below);
        sorted = (n.before, x.sorted, y.sorted);
        totals = (n.field-total, x.totals, y.totals);
        fields = three (implies (eqb l.kind record_kind) (fields_of e a.count c) n.fields-of) x.fields y.fields;
        payloads = three n.payload x.payloads y.payloads;
      }

  pub ruled-parts : Ruled e (node l a c s) → NodeRuled e l a c s × Ruled e c × Ruled e s
  unfolding largest_below
  ruled-parts x =
      let p = counted-parts l a c s x.counts in
      let q = field_counts-parts e l a c s x.fields in
      let m = measured-parts l a c s x.payloads in (
        record { positive = p.0; before = x.sorted.0; within = omega (arith, x.below); field-total = x.totals.0; fields-of = q.0; payload = m.0 },
        record { counts = p.1; below = omega (arith, x.below); sorted = x.sorted.1; totals = x.totals.1; fields = q.1; payloads = m.1 },
        record { counts = p.2; below = omega (arith, x.below); sorted = x.sorted.2; totals = x.totals.2; fields = q.2; payloads = m.2 },
      )
