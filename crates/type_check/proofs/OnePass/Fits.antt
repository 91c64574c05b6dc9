-- What the check asks of one record: that it is right by itself, and right beside what came before it.
use mathlib.Core.Path.{◌≡◌, refl, ap}
use mathlib.Core.Bool.{Bool, true, false, cond, ◌||◌}
use mathlib.Core.List.{List}
use Prim.Native.Nat.Ordering.{lt}
use Prim.Native.Nat.{ℕ, ◌+◌, ◌≤◌, ◌<◌}
use lib.Dec.{eqb, leb, ltb}
use borrow.Author.Tests.{leb-true, le-leb, le-ltb, ltb-true, lt-ltb, eqb-true}
use Rattle.byte_records.proofs.Tests.{and_parts}
use Rattle.value_table.specs.Value.{max_depth, array_kind, last_scalar}
use Rattle.counting_theory.specs.Label.{compare_label}
use Rattle.counting_theory.specs.declared.equivalence.Equivalence.{Equivalence}
use Rattle.counting_theory.specs.WellFormed.{max_total, is_lt, field_count}
use Rattle.counting_theory.proofs.WellFormed.Tests.{both, three-parts, three}
use Rattle.counting_theory.proofs.WellFormed.Rules.{is_lt-true}
use Rattle.type_arena.specs.Inside.Layout.{label_by}
use Rattle.type_check.specs.Inside.Reading.{Reading}
use Rattle.type_check.specs.Inside.Checker.{Run, addends, fields, field_record, addend_record, scalar_fits, type_record, count_fits, fits}

-- whether a run is one of fields, and its depth
abbrev pub is_fields : Run → Bool
is_fields (addends depth last total) = false
is_fields (fields depth of_record last_key) = true

abbrev pub depth_of : Run → ℕ
depth_of (addends depth last total) = depth
depth_of (fields depth of_record last_key) = depth

module _ (q : Reading) (b : List ℕ) (p end : ℕ) where
  -- a right record with what stands inside it ends by the end
  pub record Within : Type 0 where
    pub span-low : 1 ≤ q.span b p
    pub span_fits : p + q.span b p ≤ end

  pub record-within : (field : Bool) (depth : ℕ) → type_record q b p end field depth ≡ true → Within
  unfolding type_record
  record-within field depth h =
      let x = and_parts _ (cond field (field_record q b p) (addend_record q b p depth)) h in
      let y = three-parts (eqb (q.zero b p) 0) (leb 1 (q.span b p)) (leb (p + q.span b p) end) x.0 in
      record { span-low = leb-true 1 (q.span b p) y.1; span_fits = leb-true (p + q.span b p) end y.2 }

  pub field-filled : (depth : ℕ) → type_record q b p end true depth ≡ true → 2 ≤ q.span b p
  unfolding type_record
  field-filled depth h =
      let x = and_parts _ (field_record q b p) h in
      leb-true 2 (q.span b p) (and_parts _ (leb 2 (q.span b p)) x.1).1

  -- what a right addend says of its depth, its kind and a scalar's span
  pub record Addend (depth : ℕ) : Type 0 where
    pub kind-high : q.kind b p ≤ array_kind
    pub shallow : depth ≤ max_depth
    pub scalar : q.kind b p ≤ last_scalar → q.span b p ≡ 1

  scalar-span : q.kind b p ≤ last_scalar → scalar_fits q b p ≡ true → q.span b p ≡ 1
  scalar-span k h = eqb-true (q.span b p) 1 (rw (le-ltb last_scalar (q.kind b p) k) at h)

  pub record-addend : (depth : ℕ) → type_record q b p end false depth ≡ true → Addend depth
  unfolding type_record
  record-addend depth h =
      let x = three-parts _ (leb depth max_depth) (scalar_fits q b p) (and_parts _ (addend_record q b p depth) h).1 in
      let y = three-parts (leb 1 (q.kind b p)) (leb (q.kind b p) array_kind) (eqb (q.key b p) 0) x.0 in
      record { kind-high = leb-true (q.kind b p) array_kind y.1; shallow = leb-true depth max_depth x.1; scalar = λ k. scalar-span k x.2 }

module _ (q : Reading) (e : Equivalence) (b : List ℕ) (p : ℕ) where
  -- the record at p beside what came before it
  abbrev pub Follows : Run → Type 0
  Follows (addends depth last total) =
      (eqb last p ≡ false → compare_label (label_by q.kind q.key q.span e b last) (label_by q.kind q.key q.span e b p) ≡ lt) × (1 ≤ q.count b p) × (total + q.count b p ≤ max_total)
  Follows (fields depth of_record last_key) = (last_key < q.key b p) × (q.no_lengths b p ≡ true) × (field_count e (q.count b p) of_record ≡ true)

  after_last : (last : ℕ) → (eqb last p || is_lt (compare_label (label_by q.kind q.key q.span e b last) (label_by q.kind q.key q.span e b p))) ≡ true →
      eqb last p ≡ false → compare_label (label_by q.kind q.key q.span e b last) (label_by q.kind q.key q.span e b p) ≡ lt
  after_last last h z = is_lt-true _ (rw z at h)

  last-before : (last : ℕ) → (eqb last p ≡ false → compare_label (label_by q.kind q.key q.span e b last) (label_by q.kind q.key q.span e b p) ≡ lt) →
      (eqb last p || is_lt (compare_label (label_by q.kind q.key q.span e b last) (label_by q.kind q.key q.span e b p))) ≡ true
  last-before last h = go (eqb last p) h
    where
      go : (t : Bool) → (t ≡ false → compare_label (label_by q.kind q.key q.span e b last) (label_by q.kind q.key q.span e b p) ≡ lt) →
          (t || is_lt (compare_label (label_by q.kind q.key q.span e b last) (label_by q.kind q.key q.span e b p))) ≡ true
      go true h = refl
      go false h = ap is_lt (h refl)

  pub count-told : (total : ℕ) → count_fits q b p total ≡ true → (1 ≤ q.count b p) × (total + q.count b p ≤ max_total)
  count-told total h =
      let x = and_parts (leb 1 (q.count b p)) (leb (total + q.count b p) max_total) h in
      (leb-true 1 (q.count b p) x.0, leb-true (total + q.count b p) max_total x.1)

  module _ (end : ℕ) where
    pub fits-parts : (r : Run) → fits q e b p end r ≡ true → (type_record q b p end (is_fields r) (depth_of r) ≡ true) × Follows r
    unfolding fits
    fits-parts (addends depth last total) h =
        let x = three-parts (count_fits q b p total) (type_record q b p end false depth) _ h in
        let y = count-told total x.0 in
        (x.1, (after_last last x.2, y.0, y.1))
    fits-parts (fields depth of_record last_key) h =
        let x = three-parts _ (q.no_lengths b p) (field_count e (q.count b p) of_record) h in
        let y = and_parts (type_record q b p end true depth) (ltb last_key (q.key b p)) x.0 in
        (y.0, (ltb-true last_key (q.key b p) y.1, x.1, x.2))

    pub parts-fit : (r : Run) → type_record q b p end (is_fields r) (depth_of r) ≡ true → Follows r → fits q e b p end r ≡ true
    unfolding fits
    parts-fit (addends depth last total) r h =
        three (both (le-leb 1 (q.count b p) h.1) (le-leb (total + q.count b p) max_total h.2)) r (last-before last h.0)
    parts-fit (fields depth of_record last_key) r h = three (both r (lt-ltb last_key (q.key b p) h.0)) h.1 h.2

    -- a record that fits stands within the run
    pub fits-within : (r : Run) → fits q e b p end r ≡ true → Within q b p end
    fits-within r h = record-within q b p end (is_fields r) (depth_of r) (fits-parts r h).0
