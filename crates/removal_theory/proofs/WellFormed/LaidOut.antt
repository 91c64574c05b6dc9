-- 16-byte records are laid out as a type exactly where they hold one.
use mathlib.Core.Path.{◌≡◌, refl, ◌∙◌}
use mathlib.Core.Bool.{Bool, true, false}
use mathlib.Core.List.{List}
use Prim.Native.Nat.{ℕ, zero, suc, ◌+◌, ◌*◌, ◌≤◌}
use native.Mathlib.Omega.{arith}
use lib.Dec.{eqb}
use lib.ListN.{length}
use borrow.Author.Tests.{eqb-true, eq-eqb, ne_eqb}
use Rattle.byte_records.specs.Number.{Bytes}
use Rattle.removal_theory.specs.Payload.{Payload}
use Rattle.counting_theory.specs.Trie.{nil, node, size, total}
use Rattle.counting_theory.specs.Label.{Label, field_kind}
use Rattle.counting_theory.specs.declared.equivalence.Equivalence.{Equivalence}
use Rattle.removal_theory.specs.Label.{Counting, CountingType}
use Rattle.removal_theory.specs.Place.{FieldTotals}
use Rattle.removal_theory.specs.Encoding.{type_size, type_kind, type_span, type_payload}
use Rattle.counting_theory.specs.WellFormed.{depth_inside}
use Rattle.removal_theory.specs.WellFormed.{type_record, holds_fields as fields_inside, laid_out, counted}
use Rattle.counting_theory.proofs.Label.{kind-eq, key-eq}
use Rattle.counting_theory.proofs.Tagged.Parts.{holds_fields}
use Rattle.removal_theory.proofs.Tagged.Parts.{Shape, tagged-parts}
use Rattle.removal_theory.proofs.Encoding.Node.{NodeAt}
use Rattle.counting_theory.proofs.WellFormed.Tests.{three-parts, three}
use Rattle.counting_theory.proofs.WellFormed.Nodes.{KeyOrDepth, depth_under}
use Rattle.removal_theory.proofs.WellFormed.Nodes.{shallow-parts, counted-parts}
use Rattle.removal_theory.proofs.WellFormed.Record.{OwnRecord, TypeRecord, type-record, record-test}
use Rattle.removal_theory.specs.Inside.RecordsHold.{RecordsHold}
use Rattle.removal_theory.proofs.WellFormed.RecordsHold.{holds-nil, label_with, holds-node, holds-first}

-- what stands inside record i, told by its kind and by the label
pub inside-label : (b : List ℕ) (i : ℕ) (field : Bool) (l : Label) → type_kind b i ≡ l.kind → fields_inside b i field ≡ holds_fields field l
inside-label b i true l h = refl
inside-label b i false l h = rw h

size-total : (f : CountingType) → 1 ≤ total Counting f → 1 ≤ size f
unfolding size total
size-total nil h = h
size-total (node l a c s) h = omega arith

module _ (e : Equivalence) (b : List ℕ) where
  own_held : (i end : ℕ) (field : Bool) (depth : ℕ) (l : Label) (a : Payload) (c s : CountingType) → NodeAt b i end l a c s → Shape e field l c →
      KeyOrDepth field depth l → 1 ≤ a.count → (l.kind ≡ field_kind → a.count ≡ total Counting c) → OwnRecord b i field depth
  own_held i end true depth l a c s n h p m t =
      record {
        kind-is = n.kind-is ∙ kind-eq h;
        keyed = omega (arith, n.key-is, p.0);
        filled = omega (arith, n.span-is, size-total c (omega (arith, t (kind-eq h))));
      }
  own_held i end false depth l a c s n h p m t =
      record {
        kind-low = omega (arith, n.kind-is, h.kind-low);
        kind-high = omega (arith, n.kind-is, h.kind-high);
        unkeyed = n.key-is ∙ key-eq h.tagged;
        shallow = p;
        scalar = λ k. n.span-is ∙ rw (h.scalar (omega (arith, n.kind-is))) (unfold size in refl);
      }

  -- the first record of a type whose counts are at least 1, and those of fields the totals of their unions
  pub record-held : (i end : ℕ) (field : Bool) (depth : ℕ) (l : Label) (a : Payload) (c s : CountingType) → RecordsHold e b i end field depth (node l a c s) →
      1 ≤ a.count → (l.kind ≡ field_kind → a.count ≡ total Counting c) → TypeRecord b i end field depth
  unfolding size
  record-held i end field depth l a c s h m t =
      let n = (holds-first e b i end field depth l a c s h).is-node in
      let p = tagged-parts e field l a c s h.tagged in
      let q = shallow-parts field depth l a c s h.shallow in
      record {
        zeroed = n.zero_is;
        span-low = omega (arith, n.span-is);
        span_fits = omega (arith, n.span-is, h.ends);
        own = own_held i end field depth l a c s n p.0 q.0 m t;
      }

  pub held-laid : (k i end : ℕ) (field : Bool) (depth : ℕ) (f : CountingType) → RecordsHold e b i end field depth f → counted f ≡ true → FieldTotals f →
      size f ≤ k → laid_out b k i end field depth ≡ true
  unfolding laid_out size
  held-laid zero i end field depth nil h m t n = eq-eqb i end (omega (arith, h.ends))
  held-laid zero i end field depth (node l a c s) h m t n = absurd (omega arith)
  held-laid (suc k) i end field depth nil h m t n = rw (eq-eqb i end (omega (arith, h.ends)), laid_out) refl
  held-laid (suc k) i end field depth (node l a c s) h m t n =
      let x = holds-first e b i end field depth l a c s h in
      let y = counted-parts l a c s m in
      let r = record-held i end field depth l a c s h y.0 t.0 in
      rw (ne_eqb i end (λ z. omega (arith, h.ends)), laid_out, inside-label b i field l x.is-node.kind-is)
      (three (record-test b i end field depth r)
      (held-laid k (i + 1) (i + type_span b i) (holds_fields field l) (depth_under field l depth) c x.in-children y.1 t.1 (omega arith))
      (held-laid k (i + type_span b i) end field depth s x.in-next y.2 t.2 (omega arith)))

  -- records i to end hold some type
  abbrev Held : ℕ → ℕ → Bool → ℕ → Type 0
  Held i end field depth = (f : CountingType) × RecordsHold e b i end field depth f

  pub holds-record : (i end : ℕ) (field : Bool) (depth : ℕ) (c s : CountingType) → Bytes b → type_size * end ≤ length b → TypeRecord b i end field depth →
      RecordsHold e b (i + 1) (i + type_span b i) (fields_inside b i field) (depth_inside (fields_inside b i field) depth) c →
      RecordsHold e b (i + type_span b i) end field depth s → RecordsHold e b i end field depth (node (label_with e b i c) (type_payload b i) c s)
  holds-record i end field depth c s bytes room r x y =
      holds-node e b i c end field depth s bytes room r (rw (inside-label b i field (label_with e b i c) refl) at x) y

  pub laid-held : (k i end : ℕ) (field : Bool) (depth : ℕ) → Bytes b → type_size * end ≤ length b → laid_out b k i end field depth ≡ true → Held i end field depth
  unfolding laid_out
  laid-held zero i end field depth bytes room h = (nil, holds-nil e b i end field depth (eqb-true i end h))
  laid-held (suc k) i end field depth bytes room h =
      go (eqb i end) refl (laid-held k (i + 1) (i + type_span b i) (fields_inside b i field) (depth_inside (fields_inside b i field) depth) bytes)
      (laid-held k (i + type_span b i) end field depth bytes room)
    where
      go : (t : Bool) → eqb i end ≡ t →
          (type_size * (i + type_span b i) ≤ length b →
          laid_out b k (i + 1) (i + type_span b i) (fields_inside b i field) (depth_inside (fields_inside b i field) depth) ≡ true →
          Held (i + 1) (i + type_span b i) (fields_inside b i field) (depth_inside (fields_inside b i field) depth)) →
          (laid_out b k (i + type_span b i) end field depth ≡ true → Held (i + type_span b i) end field depth) → Held i end field depth
      go true z hc hs = (nil, holds-nil e b i end field depth (eqb-true i end z))
      go false z hc hs =
          let p = three-parts (type_record b i end field depth) _ _ (rw (z, laid_out) at h) in
          let r = type-record b i end field depth p.0 in
          let x = hc (omega (arith, r.span_fits)) p.1 in
          let y = hs p.2 in
          (node (label_with e b i x.0) (type_payload b i) x.0 y.0, holds-record i end field depth x.0 y.0 bytes room r x.1 y.1)
