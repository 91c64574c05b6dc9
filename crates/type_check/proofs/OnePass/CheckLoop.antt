-- The turns of the checker's loops: what is left to check settles the verdict on the whole run.
use mathlib.Core.Path.{◌≡◌, refl, sym, ap, ◌∙◌}
use mathlib.Core.Bool.{Bool, true, false, cond, ◌&&◌, and_comm, true≢false}
use mathlib.Core.List.{List, [], ◌∷◌}
use Rattle.std.proofs.Common.{is_some, Option, None, Some}
use Prim.Native.Nat.{ℕ, zero, suc, ◌+◌, ◌-◌, ◌*◌, ◌≤◌, ◌<◌}
use native.Mathlib.Omega.{arith}
use lib.Dec.{eqb}
use borrow.Author.Tests.{eqb-true, eqb-false, eq-eqb, ne_eqb}
use Rattle.value_table.specs.Value.{record_kind, array_kind, max_depth}
use Rattle.byte_records.specs.Inside.Chain.{Chain, done, next}
use Rattle.byte_records.proofs.Tests.{and_parts}
use Rattle.counting_theory.specs.declared.equivalence.Equivalence.{Equivalence}
use Rattle.type_check.specs.Inside.Checker.{addends, fields, count_fits, fits, ordered, check_run, has_total, proper_within, inside, addend_right, type_record}
use Rattle.type_check.proofs.OnePass.Fits.{record-within, record-addend, fits-within}
use Rattle.type_check.proofs.OnePass.OneRecord.{check-end, check-step}
use lib.ListN.{length}
use native.Mathlib.Nat.{le_trans}
use Rattle.std.proofs.Math.Nat.{mul-le-mul_left}
use Rattle.type_arena.specs.Inside.Layout.{LabelledBy}
use Rattle.type_arena.proofs.Fields.{record-in}
use Rattle.type_check.specs.Inside.Reading.{Reading}

-- the tests of one addend, in the order in which they are made
regroup : (k t o s : Bool) → (k && t && o && s) ≡ (k && ((t && s) && o))
regroup false t o s = refl
regroup true false o s = refl
regroup true true o s = and_comm o s

module _ (q : Reading) (e : Equivalence) (b : List ℕ) where
  pub union-step : (p end depth last total : ℕ) → p < end →
      check_run q e b p end (addends depth last total)
      ≡ cond (count_fits q b p total && (addend_right q e b p end depth && ordered q e b last p)) (check_run q e b (p + q.span b p) end (addends depth p (total + q.count b p))) None
  unfolding fits
  union-step p end depth last total l = check-step q e b p end (addends depth last total) l
      ∙ ap (λ t. cond t (check_run q e b (p + q.span b p) end (addends depth p (total + q.count b p))) None) (regroup (count_fits q b p total) (type_record q b p end false depth) (ordered q e b last p) _)

  pub fields-step : (p end depth of_record last_key : ℕ) → p < end →
      check_run q e b p end (fields depth of_record last_key)
      ≡ cond (fits q e b p end (fields depth of_record last_key) && has_total (q.count b p) (check_run q e b (p + 1) (p + q.span b p) (addends (depth + 1) (p + 1) 0)))
      (check_run q e b (p + q.span b p) end (fields depth of_record (q.key b p))) None
  fields-step p end depth of_record last_key l = check-step q e b p end (fields depth of_record last_key) l

-- what a payload asks of what stands inside: that it is right, and lengths for an array alone
module _ (q : Reading) (b : List ℕ) (p : ℕ) where
  within-some : (o : Option ℕ) → proper_within q b p o ≡ true → is_some o ≡ true
  within-some None h = h
  within-some (Some t) h = refl

  module _ (other : ¬ (q.kind b p ≡ array_kind)) where
    other-within : q.no_lengths b p ≡ true → (o : Option ℕ) → proper_within q b p o ≡ is_some o
    other-within h None = refl
    other-within h (Some t) = q.other b p t other ∙ h

    wrong-within : q.no_lengths b p ≡ false → (o : Option ℕ) → proper_within q b p o ≡ false
    wrong-within h None = refl
    wrong-within h (Some t) = q.other b p t other ∙ h

passed : (c : Bool) (x : Option ℕ) → is_some (cond c x None) ≡ true → (c ≡ true) × (is_some x ≡ true)
passed true x h = (refl, h)
passed false x h = absurd (true≢false (sym h))

module _ (q : Reading) (e : Equivalence) (b : List ℕ) where
  -- fields that have passed lead by their spans to their end
  fields-chain : (n p end depth of_record last_key : ℕ) → p ≤ end → end - p ≤ n → is_some (check_run q e b p end (fields depth of_record last_key)) ≡ true →
      (ks : List ℕ) × Chain (q.span b) (q.key b) end p ks
  fields-chain zero p end depth of_record last_key l m h =
      let z : p ≡ end = omega arith in
      rw z ([], done)
  fields-chain (suc n) p end depth of_record last_key l m h = go (eqb p end) refl (fields-chain n (p + q.span b p) end depth of_record (q.key b p))
    where
      go : (t : Bool) → eqb p end ≡ t →
          (p + q.span b p ≤ end → end - (p + q.span b p) ≤ n → is_some (check_run q e b (p + q.span b p) end (fields depth of_record (q.key b p))) ≡ true →
          (ks : List ℕ) × Chain (q.span b) (q.key b) end (p + q.span b p) ks) →
          (ks : List ℕ) × Chain (q.span b) (q.key b) end p ks
      go true z ih = rw (eqb-true p end z) ([], done)
      go false z ih =
          let less : p < end = omega (arith, eqb-false p end z) in
          let w = passed _ _ (rw (fields-step q e b p end depth of_record last_key less) at h) in
          let f = fits-within q e b p end (fields depth of_record last_key) (and_parts _ _ w.0).0 in
          let s = f.span-low in
          let t = f.span_fits in
          let r = ih t (omega arith) w.1 in
          (q.key b p ∷ r.0, next {p = p} less s r.1)

  -- an addend that has passed by itself
  pub addend-inside : (size p end depth : ℕ) → p < end → size * end ≤ length b → addend_right q e b p end depth ≡ true → LabelledBy size q.kind q.key q.span b p
  addend-inside size p end depth l r h =
      let a = and_parts _ _ h in
      let f = record-within q b p end false depth a.0 in
      let s = f.span-low in
      let t = f.span_fits in
      record {
        whole = record-in size end p r l;
        fields = λ k.
            let c = fields-chain (q.span b p) (p + 1) (p + q.span b p) depth (q.count b p) 0 (omega arith) (omega arith)
            (rw (eq-eqb (q.kind b p) record_kind k) at (within-some q b p (check_run q e b (p + 1) (p + q.span b p) (inside q b p depth)) a.1)) in
            record { keys = c.0; chain = c.1; within = le_trans (mul-le-mul_left size t) r };
      }

-- An addend by itself: wrong by its record, or as right as what stands inside it.
module _ (q : Reading) (e : Equivalence) (b : List ℕ) (p end depth : ℕ) where
  pub wrong-record : type_record q b p end false depth ≡ false → false ≡ addend_right q e b p end depth
  wrong-record h = rw h refl

  module _ (h : type_record q b p end false depth ≡ true) where
    -- what a right record says of its span, depth and kind
    pub record-span : (1 ≤ q.span b p) × (p + q.span b p ≤ end) × (depth ≤ max_depth) × (q.kind b p ≤ array_kind)
    record-span = let f = record-within q b p end false depth h in let g = record-addend q b p end depth h in (f.span-low, f.span_fits, g.shallow, g.kind-high)

    with-union : ¬ (q.kind b p ≡ record_kind) → proper_within q b p (check_run q e b (p + 1) (p + q.span b p) (addends (depth + 1) (p + 1) 0)) ≡ addend_right q e b p end depth
    with-union n = rw (h, ne_eqb (q.kind b p) record_kind n) refl

    -- where o is what the check of a union inside has found
    pub with-found : (o : Option ℕ) (stop inner : ℕ) → ¬ (q.kind b p ≡ record_kind) → o ≡ check_run q e b (p + 1) stop (addends inner (p + 1) 0) → stop ≡ p + q.span b p → inner ≡ depth + 1 →
        proper_within q b p o ≡ addend_right q e b p end depth
    with-found o stop inner n x y z = rw (x, y, z) (with-union n)

    module _ (other : ¬ (q.kind b p ≡ array_kind)) where
      pub wrong-lengths : q.no_lengths b p ≡ false → false ≡ addend_right q e b p end depth
      wrong-lengths z = rw (h, wrong-within q b p other z) refl

      module _ (z : q.no_lengths b p ≡ true) where
        pub with-fields : q.kind b p ≡ record_kind → is_some (check_run q e b (p + 1) (p + q.span b p) (fields depth (q.count b p) 0)) ≡ addend_right q e b p end depth
        with-fields k = sym (other-within q b p other z (check_run q e b (p + 1) (p + q.span b p) (fields depth (q.count b p) 0))) ∙ rw (h, eq-eqb (q.kind b p) record_kind k) refl

        pub with_nothing : q.kind b p < record_kind → true ≡ addend_right q e b p end depth
        with_nothing k =
            let one : q.span b p ≡ 1 = (record-addend q b p end depth h).scalar (omega arith) in
            ap is_some (sym (check-end q e b (p + 1) (addends (depth + 1) (p + 1) 0)))
            ∙ ap (λ n. is_some (check_run q e b (p + 1) (p + n) (addends (depth + 1) (p + 1) 0))) (sym one)
            ∙ sym (other-within q b p other z (check_run q e b (p + 1) (p + q.span b p) (addends (depth + 1) (p + 1) 0)))
            ∙ with-union (λ i. omega arith)

      -- an addend with nothing inside
      pub scalar-right : q.kind b p < record_kind → q.no_lengths b p ≡ addend_right q e b p end depth
      scalar-right k = go (q.no_lengths b p) refl
        where
          go : (t : Bool) → q.no_lengths b p ≡ t → t ≡ addend_right q e b p end depth
          go true z = with_nothing z k
          go false z = wrong-lengths z
