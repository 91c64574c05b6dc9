-- What one of removal's types asks of each of its nodes beside the tag: the key or the depth, the count, and the counts of its fields.
use mathlib.Core.Path.{◌≡◌, refl}
use mathlib.Core.Bool.{Bool, true, false}
use Prim.Native.Nat.{ℕ, ◌≤◌}
use lib.Dec.{eqb, leb}
use borrow.Author.Tests.{leb-true, le-leb}
use Rattle.value_table.specs.Value.{record_kind}
use Rattle.counting_theory.proofs.WellFormed.Nodes.{KeyOrDepth, depth_under}
use Rattle.removal_theory.specs.Payload.{Payload, proper}
use Rattle.counting_theory.specs.Trie.{nil, node, total}
use Rattle.counting_theory.specs.Label.{Label}
use Rattle.counting_theory.specs.declared.equivalence.Equivalence.{Equivalence}
use Rattle.removal_theory.specs.Label.{Counting, CountingType}
use Rattle.removal_theory.specs.WellFormed.{counted, fields_of, field_counts, measured, Shallow}
use Rattle.counting_theory.proofs.Tagged.Parts.{holds_fields}
use Rattle.counting_theory.proofs.WellFormed.Tests.{three-parts, three, implied, implies}

abbrev ShallowParts : Bool → ℕ → Label → CountingType → CountingType → Type 0
ShallowParts field depth l c s = KeyOrDepth field depth l × Shallow (holds_fields field l) (depth_under field l depth) c × Shallow field depth s

pub shallow-parts : (field : Bool) (depth : ℕ) (l : Label) (a : Payload) (c s : CountingType) → Shallow field depth (node l a c s) → ShallowParts field depth l c s
shallow-parts true depth l a c s h = ((h.0, h.1), h.2, h.3)
shallow-parts false depth l a c s h = h

pub parts-shallow : (field : Bool) (depth : ℕ) (l : Label) (a : Payload) (c s : CountingType) → ShallowParts field depth l c s → Shallow field depth (node l a c s)
parts-shallow true depth l a c s h = (h.0.0, h.0.1, h.1, h.2)
parts-shallow false depth l a c s h = h

pub counted-parts : (l : Label) (a : Payload) (c s : CountingType) → counted (node l a c s) ≡ true → (1 ≤ a.count) × (counted c ≡ true) × (counted s ≡ true)
unfolding counted
counted-parts l a c s h = let p = three-parts (leb 1 a.count) (counted c) (counted s) h in (leb-true 1 a.count p.0, p.1, p.2)

pub field_counts-parts : (e : Equivalence) (l : Label) (a : Payload) (c s : CountingType) → field_counts e (node l a c s) ≡ true →
    (eqb l.kind record_kind ≡ true → fields_of e a.count c ≡ true) × (field_counts e c ≡ true) × (field_counts e s ≡ true)
unfolding field_counts
field_counts-parts e l a c s h =
    let p = three-parts _ (field_counts e c) (field_counts e s) h in
    (implied (eqb l.kind record_kind) (fields_of e a.count c) p.0, p.1, p.2)

pub measured-parts : (l : Label) (a : Payload) (c s : CountingType) → measured (node l a c s) ≡ true →
    (proper l.kind a (total Counting c) ≡ true) × (measured c ≡ true) × (measured s ≡ true)
unfolding measured
measured-parts l a c s h = three-parts (proper l.kind a (total Counting c)) (measured c) (measured s) h

pub record Own (e : Equivalence) (field : Bool) (depth : ℕ) (l : Label) (a : Payload) (c : CountingType) : Type 0 where
  pub placed : KeyOrDepth field depth l
  pub positive : 1 ≤ a.count
  pub fields : eqb l.kind record_kind ≡ true → fields_of e a.count c ≡ true
  pub payload : proper l.kind a (total Counting c) ≡ true

module _ (e : Equivalence) where
  abbrev pub EachNode : Bool → ℕ → CountingType → Type 0
  EachNode field depth nil = Unit {0}
  EachNode field depth (node l a c s) =
      Own e field depth l a c × EachNode (holds_fields field l) (depth_under field l depth) c × EachNode field depth s

  pub each-node : (field : Bool) (depth : ℕ) (f : CountingType) → Shallow field depth f → counted f ≡ true → field_counts e f ≡ true → measured f ≡ true → EachNode field depth f
  each-node field depth nil h i j k = tt
  each-node field depth (node l a c s) h i j k =
      let x = shallow-parts field depth l a c s h in
      let y = counted-parts l a c s i in
      let z = field_counts-parts e l a c s j in
      let w = measured-parts l a c s k in (
        record { placed = x.0; positive = y.0; fields = z.0; payload = w.0 },
        each-node (holds_fields field l) (depth_under field l depth) c x.1 y.1 z.1 w.1,
        each-node field depth s x.2 y.2 z.2 w.2,
      )

  pub each-shallow : (field : Bool) (depth : ℕ) (f : CountingType) → EachNode field depth f → Shallow field depth f
  each-shallow field depth nil h = tt
  each-shallow field depth (node l a c s) h =
      parts-shallow field depth l a c s
      (h.0.placed, each-shallow (holds_fields field l) (depth_under field l depth) c h.1, each-shallow field depth s h.2)

  pub each-counted : (field : Bool) (depth : ℕ) (f : CountingType) → EachNode field depth f → counted f ≡ true
  unfolding counted
  each-counted field depth nil h = refl
  each-counted field depth (node l a c s) h =
      three (le-leb 1 a.count h.0.positive) (each-counted (holds_fields field l) (depth_under field l depth) c h.1) (each-counted field depth s h.2)

  pub each-field_counts : (field : Bool) (depth : ℕ) (f : CountingType) → EachNode field depth f → field_counts e f ≡ true
  unfolding field_counts
  each-field_counts field depth nil h = refl
  each-field_counts field depth (node l a c s) h =
      three (implies (eqb l.kind record_kind) (fields_of e a.count c) h.0.fields)
      (each-field_counts (holds_fields field l) (depth_under field l depth) c h.1) (each-field_counts field depth s h.2)

  pub each-measured : (field : Bool) (depth : ℕ) (f : CountingType) → EachNode field depth f → measured f ≡ true
  unfolding measured
  each-measured field depth nil h = refl
  each-measured field depth (node l a c s) h =
      three h.0.payload (each-measured (holds_fields field l) (depth_under field l depth) c h.1) (each-measured field depth s h.2)
