-- The loops of the checker, over the addends of a union and over the fields of a record.
use mathlib.Core.Path.{◌≡◌, refl, sym, ap, ◌∙◌}
use mathlib.Core.Bool.{Bool, true, false, ◌&&◌}
use mathlib.Core.List.{List}
use mathlib.Core.Logic.{◌⊎◌, inl, inr}
use Rattle.std.proofs.Common.{is_some, None, Some}
use Prim.Native.Nat.{ℕ, ◌+◌, ◌*◌, ◌≤◌, ◌<◌}
use native.Mathlib.Omega.{arith}
use lib.Dec.{eqb}
use borrow.Author.Tests.{eq-eqb}
use Rattle.value_table.specs.Value.{record_kind}
use Rattle.byte_records.proofs.Tests.{and_parts}
use Rattle.counting_theory.specs.declared.equivalence.Equivalence.{Equivalence}
use Rattle.counting_theory.specs.WellFormed.{max_total}
use Rattle.type_check.specs.Inside.Checker.{addends, fields, count_fits, fits, ordered, check_run, has_total, addend_right, type_record}
use Rattle.type_check.proofs.OnePass.Fits.{field-filled, count-told, fits-parts, fits-within}
use Rattle.type_check.proofs.OnePass.OneRecord.{check-end}
use Rattle.type_check.proofs.OnePass.CheckLoop.{union-step, fields-step, addend-inside, record-span, wrong-record, wrong-lengths, with_nothing}
use lib.ListN.{length}
use Rattle.type_arena.specs.Inside.Layout.{LabelledBy}
use Rattle.type_check.specs.Inside.Reading.{Reading}

-- A union at the addend at p, behind `last` and after `total`: what is left to check settles the whole union.
pub record Addends (q : Reading) (size : ℕ) (e : Equivalence) (b : List ℕ) (i end depth p last total : ℕ) : Type 0 where
  pub upto : p ≤ end
  pub left : check_run q e b p end (addends depth last total) ≡ check_run q e b i end (addends depth i 0)
  pub limit : total ≤ max_total
  pub before : (last ≡ p) ⊎ LabelledBy size q.kind q.key q.span b last

pub addends-start : (q : Reading) (size : ℕ) (e : Equivalence) (b : List ℕ) (i end depth : ℕ) → i ≤ end → Addends q size e b i end depth i i 0
addends-start q size e b i end depth h = record { upto = h; left = refl; limit = omega arith; before = inl refl }

module _ {q : Reading} {size : ℕ} {e : Equivalence} {b : List ℕ} {i end depth p last total : ℕ} (w : Addends q size e b i end depth p last total) where
  pub addends-done : end ≤ p → Some total ≡ check_run q e b i end (addends depth i 0)
  addends-done l =
      let z : p ≡ end = omega (arith, w.upto) in
      sym (check-end q e b end (addends depth last total)) ∙ rw z at w.left

  pub last-inside : LabelledBy size q.kind q.key q.span b p → LabelledBy size q.kind q.key q.span b last
  last-inside h = go w.before
    where
      go : (last ≡ p) ⊎ LabelledBy size q.kind q.key q.span b last → LabelledBy size q.kind q.key q.span b last
      go (inl z) = rw z h
      go (inr x) = x

  module _ (l : p < end) where
    -- each test that fails settles the union
    pub wrong-count : count_fits q b p total ≡ false → None ≡ check_run q e b i end (addends depth i 0)
    wrong-count h = sym (rw h at (union-step q e b p end depth last total l)) ∙ w.left

    module _ (counts : count_fits q b p total ≡ true) where
      pub count-bounds : (1 ≤ q.count b p) × (total + q.count b p ≤ max_total)
      count-bounds = count-told q e b p total counts

      pub wrong-addend : addend_right q e b p end depth ≡ false → None ≡ check_run q e b i end (addends depth i 0)
      wrong-addend h = sym (rw (counts, h) at (union-step q e b p end depth last total l)) ∙ w.left

      module _ (right : addend_right q e b p end depth ≡ true) where
        pub addend-span : (1 ≤ q.span b p) × (p + q.span b p ≤ end)
        addend-span = let f = record-span q e b p end depth (and_parts _ _ right).0 in (f.0, f.1)

        pub wrong-order : ordered q e b last p ≡ false → None ≡ check_run q e b i end (addends depth i 0)
        wrong-order h = sym (rw (counts, right, h) at (union-step q e b p end depth last total l)) ∙ w.left

        pub addends-next : size * end ≤ length b → ordered q e b last p ≡ true → Addends q size e b i end depth (p + q.span b p) p (total + q.count b p)
        addends-next r h =
            record {
              upto = addend-span.1;
              left = sym (rw (counts, right, h) at (union-step q e b p end depth last total l)) ∙ w.left;
              limit = count-bounds.1;
              before = inr (addend-inside q e b size p end depth l r right);
            }

-- A union of one scalar: its record and its payload settle it.
module _ (q : Reading) (size : ℕ) (e : Equivalence) (b : List ℕ) (a end depth : ℕ) (one : end ≡ a + 1) (scalar : q.kind b a < record_kind) (r : size * end ≤ length b) where
  start : Addends q size e b a end depth a a 0
  start = addends-start q size e b a end depth (omega arith)

  wrong-scalar-count : count_fits q b a 0 ≡ false → None ≡ check_run q e b a end (addends depth a 0)
  wrong-scalar-count c = wrong-count start (omega arith) c

  module _ (c : count_fits q b a 0 ≡ true) where
    wrong-scalar : type_record q b a end false depth ≡ false → None ≡ check_run q e b a end (addends depth a 0)
    wrong-scalar h = wrong-addend start (omega arith) c (sym (wrong-record q e b a end depth h))

    module _ (h : type_record q b a end false depth ≡ true) where
      wrong-scalar-lengths : q.no_lengths b a ≡ false → None ≡ check_run q e b a end (addends depth a 0)
      wrong-scalar-lengths z = wrong-addend start (omega arith) c (sym (wrong-lengths q e b a end depth h (λ i. omega arith) z))

      scalar-total : q.no_lengths b a ≡ true → Some (q.count b a) ≡ check_run q e b a end (addends depth a 0)
      scalar-total z =
          let o : ordered q e b a a ≡ true = rw (eq-eqb a a refl) refl in
          let n = addends-next start (omega arith) c (sym (with_nothing q e b a end depth h (λ i. omega arith) z scalar)) r o in
          let m : 0 + q.count b a ≡ q.count b a = omega arith in
          rw m at (addends-done n (omega (arith, (record-span q e b a end depth h).0)))

  -- its tests
  pub scalar-right : (count : ℕ) → has_total count (check_run q e b a end (addends depth a 0)) ≡ (count_fits q b a 0 && type_record q b a end false depth && q.no_lengths b a && eqb (q.count b a) count)
  scalar-right count = go (count_fits q b a 0) (type_record q b a end false depth) (q.no_lengths b a) refl refl refl
    where
      go : (x y z : Bool) → count_fits q b a 0 ≡ x → type_record q b a end false depth ≡ y → q.no_lengths b a ≡ z →
          has_total count (check_run q e b a end (addends depth a 0)) ≡ (x && y && z && eqb (q.count b a) count)
      go false y z h i j = ap (has_total count) (sym (wrong-scalar-count h))
      go true false z h i j = ap (has_total count) (sym (wrong-scalar h i))
      go true true false h i j = ap (has_total count) (sym (wrong-scalar-lengths h i j))
      go true true true h i j = ap (has_total count) (sym (scalar-total h i j))

-- The fields of a record at the field at p, behind the key `last`.
pub record Fields (q : Reading) (e : Equivalence) (b : List ℕ) (i end depth of_record p last : ℕ) : Type 0 where
  pub upto : p ≤ end
  pub left : is_some (check_run q e b p end (fields depth of_record last)) ≡ is_some (check_run q e b i end (fields depth of_record 0))

pub fields-start : (q : Reading) (e : Equivalence) (b : List ℕ) (i end depth of_record : ℕ) → i ≤ end → Fields q e b i end depth of_record i 0
fields-start q e b i end depth of_record h = record { upto = h; left = refl }

module _ {q : Reading} {e : Equivalence} {b : List ℕ} {i end depth of_record p last : ℕ} (w : Fields q e b i end depth of_record p last) where
  pub fields-done : end ≤ p → true ≡ is_some (check_run q e b i end (fields depth of_record 0))
  fields-done l =
      let z : p ≡ end = omega (arith, w.upto) in
      ap is_some (sym (check-end q e b end (fields depth of_record last))) ∙ rw z at w.left

  module _ (l : p < end) where
    pub wrong-field : fits q e b p end (fields depth of_record last) ≡ false → false ≡ is_some (check_run q e b i end (fields depth of_record 0))
    wrong-field h = sym (ap is_some (rw h at (fields-step q e b p end depth of_record last l))) ∙ w.left

    module _ (right : fits q e b p end (fields depth of_record last) ≡ true) where
      -- the field with its union stands within the record
      pub field-span : (2 ≤ q.span b p) × (p + q.span b p ≤ end)
      field-span = (field-filled q b p end depth (fits-parts q e b p end (fields depth of_record last) right).0, (fits-within q e b p end (fields depth of_record last) right).span_fits)

      pub wrong-total : has_total (q.count b p) (check_run q e b (p + 1) (p + q.span b p) (addends (depth + 1) (p + 1) 0)) ≡ false →
          false ≡ is_some (check_run q e b i end (fields depth of_record 0))
      wrong-total h = sym (ap is_some (rw (right, h) at (fields-step q e b p end depth of_record last l))) ∙ w.left

      pub fields-next : has_total (q.count b p) (check_run q e b (p + 1) (p + q.span b p) (addends (depth + 1) (p + 1) 0)) ≡ true →
          Fields q e b i end depth of_record (p + q.span b p) (q.key b p)
      fields-next h =
          record { upto = field-span.1; left = sym (ap is_some (rw (right, h) at (fields-step q e b p end depth of_record last l))) ∙ w.left }
