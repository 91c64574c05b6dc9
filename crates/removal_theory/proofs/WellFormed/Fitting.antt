-- The numbers of a well-formed type of removal's fit the bytes of its 16-byte records.
use mathlib.Core.Path.{◌≡◌}
use mathlib.Core.Bool.{Bool, true, false}
use mathlib.Core.List.{List}
use Prim.Native.Nat.{ℕ, ◌*◌, ◌^◌, ◌≤◌, ◌<◌}
use native.Mathlib.Omega.{arith}
use lib.Dec.{lit<}
use borrow.Author.Tests.{ne_eqb}
use Rattle.value_table.specs.Value.{max_length, array_kind}
use Rattle.removal_theory.specs.Payload.{Payload}
use Rattle.counting_theory.specs.Trie.{nil, node, size, total, largest_below, largest_total}
use Rattle.counting_theory.specs.Label.{Label, field_kind}
use Rattle.counting_theory.specs.declared.equivalence.Equivalence.{Equivalence}
use Rattle.removal_theory.specs.Label.{weight_of, Counting, CountingType}
use Rattle.removal_theory.specs.Place.{FieldTotals}
use Rattle.removal_theory.specs.Encoding.{type_size, Tagged}
use Rattle.removal_theory.specs.Inside.TypeBytes.{Fitting}
use Rattle.removal_theory.specs.WellFormed.{measured, Shallow, IsType}
use Rattle.removal_theory.proofs.Payload.{numbers_fit}
use Rattle.counting_theory.proofs.Label.{kind-eq, key-eq}
use Rattle.counting_theory.proofs.Tagged.Parts.{holds_fields}
use Rattle.removal_theory.proofs.Tagged.Parts.{Shape, tagged-parts}
use Rattle.removal_theory.proofs.WellFormed.Limit.{limit-totals}
use Rattle.counting_theory.proofs.WellFormed.Nodes.{KeyOrDepth, depth_under}
use Rattle.removal_theory.proofs.WellFormed.Nodes.{shallow-parts, measured-parts}

pub weight-addend : (l : Label) (a : Payload) → l.kind ≤ array_kind → weight_of l a ≡ a.count
weight-addend l a h = rw (ne_eqb l.kind field_kind (λ z. omega arith))

module _ (e : Equivalence) where
  key_below : (field : Bool) (depth : ℕ) (l : Label) (c : CountingType) → Shape e field l c → KeyOrDepth field depth l → l.key < 65536
  key_below true depth l c h p = p.1
  key_below false depth l c h p = omega (arith, key-eq h.tagged)

  kind-below : (field : Bool) (l : Label) (c : CountingType) → Shape e field l c → l.kind < 256
  kind-below true l c h = omega (arith, kind-eq h)
  kind-below false l c h = omega arith

  -- a count is at most the largest total
  count-below : (field : Bool) (l : Label) (a : Payload) (c s : CountingType) → Shape e field l c → (l.kind ≡ field_kind → a.count ≡ total Counting c) →
      a.count ≤ largest_total Counting (node l a c s)
  unfolding total largest_below largest_total
  count-below true l a c s h t = omega (arith, t (kind-eq h))
  count-below false l a c s h t = omega (arith, weight-addend l a h.kind-high)

  pub fitting : (field : Bool) (depth : ℕ) (f : CountingType) → Tagged e field f → Shallow field depth f → FieldTotals f → measured f ≡ true →
      type_size * size f ≤ max_length → largest_total Counting f < 2 ^ 64 → Fitting f
  unfolding Fitting size total largest_below largest_total
  fitting field depth nil h i t v n m = tt
  fitting field depth (node l a c s) h i t v n m =
      let p = tagged-parts e field l a c s h in
      let q = shallow-parts field depth l a c s i in
      let w = measured-parts l a c s v in
      let small = count-below field l a c s p.0 t.0 in (
        (kind-below field l c p.0, (lit< tt, (key_below field depth l c p.0 q.0, (omega arith, numbers_fit l.kind a (total Counting c) w.0 (omega (arith, small)))))),
        fitting (holds_fields field l) (depth_under field l depth) c p.1 q.1 t.1 w.1 (omega arith) (omega arith),
        fitting field depth s p.2 q.2 t.2 w.2 (omega arith) (omega arith),
      )

pub type-fitting : {e : Equivalence} {b : List ℕ} {f : CountingType} → IsType e b f → Fitting f
type-fitting {e} {f = f} t = fitting e false 1 f t.tagged t.shallow t.totals t.payloads t.room (omega (arith, limit-totals f t.limit))
