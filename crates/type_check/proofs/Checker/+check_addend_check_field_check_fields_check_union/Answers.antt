-- The checker: unions by addends, addends by their inner unions, fields between, with a remaining depth that falls.
use mathlib.Core.Path.{◌≡◌, sym, ◌∙◌}
use mathlib.Core.Bool.{Bool, true, false}
use mathlib.Core.List.{List}
use Prim.Native.Nat.{ℕ, ◌+◌, ◌-◌, ◌≤◌}
use native.Mathlib.Omega.{arith}
use Rattle.std.proofs.iter.Serving.{serving}
use Rattle.std.proofs.Common.{Option, Some, None, MatchOption}
use Rattle.value_table.specs.Value.{max_depth, array_kind}
use Rattle.type_check.specs.Inside.Reading.{Reading}
use Rattle.type_check.specs.Inside.Checker.{has_total, proper_within, addends, type_record, check_run}
use Rattle.type_check.proofs.OnePass.CheckLoop.{addend-inside, record-span, with-found, wrong-lengths, with-fields, scalar-right}
use Rattle.type_check.proofs.OnePass.Loops.{addends-done, last-inside, wrong-count, wrong-addend, wrong-order, addend-span, addends-next, fields-done, wrong-field, field-span, wrong-total, fields-next}
use Rattle.type_check.proofs.Checker.+check_addend_check_field_check_fields_check_union.Given as given
use Rattle.type_check.proofs.Checker.+check_addend_check_field_check_fields_check_union.Goals as goal
use Rattle.type_check.proofs.Checker.+check_addend_check_field_check_fields_check_union.Goals.{check_union-then-not-count_fits-via-then-not-count_fits, check_union-then-not-count_fits-via-else-not-count_fits+then-not-check_addend, check_union-then-not-count_fits-via-else-not-count_fits+else-not-check_addend+then-not-in_order, check_addend-After-kind, check_fields-After-check_field, check_union-After-span-p}

module _ (g : given.Over) {t : ℕ} where
  -- what is known of an addend whose record is right
  module _ (c : goal.check_addend-After-kind g t) where
    right : type_record g.L.Judged.reading c.args.self.b.now c.args.p c.args.self.end false (33 - c.args.self.left) ≡ true
    right = sym c.addend_record.ensures ∙ c.if-not-addend_record.false

    spanned : (1 ≤ g.L.Judged.reading.span c.args.self.b.now c.args.p) × (c.args.p + g.L.Judged.reading.span c.args.self.b.now c.args.p ≤ c.args.self.end) × (33 - c.args.self.left ≤ max_depth) × (g.L.Judged.reading.kind c.args.self.b.now c.args.p ≤ array_kind)
    spanned = record-span g.L.Judged.reading c.args.self.equivalence _ _ _ _ right

found : (q : Reading) (b : List ℕ) (p : ℕ) (o : Option ℕ) (r : Bool) (Q : ℕ → Type 0) → MatchOption o (r ≡ false) Q → ((x : ℕ) → Q x → r ≡ q.proper b p x) → proper_within q b p o ≡ r
found q b p None r Q h k = sym h
found q b p (Some x) r Q h k = sym (k x h)

pub check_addend-overflow_sub-self : goal.check_addend-overflow_sub-self
check_addend-overflow_sub-self g t c = omega (arith, (spanned g (goal.at.check_addend-overflow_sub-self g t c).After-kind).2)

pub check_addend-inside-requires : goal.check_addend-inside-requires
check_addend-inside-requires g t c = (c.requires.0, (spanned g (goal.at.check_addend-inside-requires g t c).After-kind).1, omega (arith, c.args.self.shallow))

pub check_addend-check_union-requires : goal.check_addend-check_union-requires
check_addend-check_union-requires g t c κs within =
    let k = (goal.at.check_addend-check_union-requires g t c).After-kind in
    (omega (arith, (spanned g k).2, c.decreases, c.inside.ensures, c.args.self.shallow), (within.0, (within.1, omega (arith, c.inside.ensures, spanned g k))))

pub check_addend-returns-in-6 : goal.check_addend-returns-in-6
check_addend-returns-in-6 g t c =
    let k = (goal.at.check_addend-returns-in-6 g t c).After-kind in
    sym (found g.L.Judged.reading c.args.self.b.now c.args.p c.check_union.result c.is_some_and.result _ c.is_some_and.ensures (λ x z. grind (serving, z)))
    ∙ with-found _ _ _ _ _ _ (right g k) _ _ _ (omega arith) (rw (c.inside.ensures.0, c.inside.ensures.3) at c.check_union.ensures) c.inside.ensures.1 (omega (arith, c.inside.ensures.2, (spanned g k).2, c.args.self.shallow))

pub check_addend-inside-requires-then-no_lengths : goal.check_addend-inside-requires-then-no_lengths
check_addend-inside-requires-then-no_lengths g t c = (c.requires.0, (spanned g (goal.at.check_addend-inside-requires-then-no_lengths g t c).After-kind).1, c.args.self.shallow)

pub check_addend-check_fields-requires : goal.check_addend-check_fields-requires
check_addend-check_fields-requires g t c κs within =
    let k = (goal.at.check_addend-check_fields-requires g t c).After-kind in
    (omega (arith, c.decreases, c.inside-then-no_lengths.ensures), (within.0, (within.1, (omega (arith, spanned g k, c.inside-then-no_lengths.ensures), omega (arith, (spanned g k).2, c.inside-then-no_lengths.ensures, c.args.self.shallow)))))

pub check_addend-returns-then-no_lengths : goal.check_addend-returns-then-no_lengths
check_addend-returns-then-no_lengths g t c =
    let k = (goal.at.check_addend-returns-then-no_lengths g t c).After-kind in
    let i = c.inside-then-no_lengths.ensures in
    rw (i.0, i.1, i.2, i.3, c.count.ensures) at c.check_fields.ensures
    ∙ with-fields _ _ _ _ _ _ (right g k) (omega arith) (sym c.no_lengths.ensures ∙ c.if-no_lengths.true) (omega arith)

pub check_addend-returns-else-no_lengths : goal.check_addend-returns-else-no_lengths
check_addend-returns-else-no_lengths g t c =
    let k = (goal.at.check_addend-returns-else-no_lengths g t c).After-kind in
    c.if-no_lengths.false ∙ wrong-lengths _ _ _ _ _ _ (right g k) (omega arith) (sym c.no_lengths.ensures ∙ c.if-no_lengths.false)

pub check_addend-returns-in_default : goal.check_addend-returns-in_default
check_addend-returns-in_default g t c =
    let k = (goal.at.check_addend-returns-in_default g t c).After-kind in
    c.no_lengths-in_default.ensures ∙ scalar-right _ _ _ _ _ _ (right g k) (omega (arith, c.in_default)) (omega (arith, (spanned g k).3, c.in_default))

module _ (g : given.Over) {t : ℕ} where
  -- what the call on the union inside the field at p says, in the depth of that union
  inner : (c : goal.check_fields-After-check_field g t) → let a = c.args in let p = c.loop-p.p in c.check_field.result ≡ has_total (g.L.Judged.reading.count a.self.b.now p) (check_run g.L.Judged.reading a.self.equivalence a.self.b.now (p + 1) (p + g.L.Judged.reading.span a.self.b.now p) (addends (33 - a.self.left + 1) (p + 1) 0))
  inner c =
      let i = c.inside-inside.ensures in
      let d : 33 - c.inside-inside.result.left ≡ 33 - c.args.self.left + 1 = omega (arith, c.requires.1, i.2, c.args.self.shallow) in
      rw (i.0, i.1, i.3, d) at c.check_field.ensures

pub check_fields-returns-then-not-field_fits : goal.check_fields-returns-then-not-field_fits
check_fields-returns-then-not-field_fits g t c = wrong-field c.loop-p.invariant c.loop-p-test.true (sym (c.field_fits.ensures _) ∙ c.if-not-field_fits.true)

pub check_fields-inside-inside-requires : goal.check_fields-inside-inside-requires
check_fields-inside-inside-requires g t c =
    let s = field-span c.loop-p.invariant c.loop-p-test.true (sym (c.field_fits.ensures _) ∙ c.if-not-field_fits.false) in
    (c.loop-p-test.true, s.1, omega (arith, c.args.self.shallow))

pub check_fields-check_field-requires : goal.check_fields-check_field-requires
check_fields-check_field-requires g t c κs within =
    let s = field-span c.loop-p.invariant c.loop-p-test.true (sym (c.field_fits.ensures _) ∙ c.if-not-field_fits.false) in
    let i = c.inside-inside.ensures in
    (omega (arith, c.decreases, c.requires.1, i), (within.0, (within.1, (omega (arith, s.0, i), omega (arith, c.requires.1, i, c.args.self.shallow)))))

pub check_fields-returns-then-not-check_field : goal.check_fields-returns-then-not-check_field
check_fields-returns-then-not-check_field g t c = wrong-total c.loop-p.invariant c.loop-p-test.true (sym (c.field_fits.ensures _) ∙ c.if-not-field_fits.false) (sym (inner g (goal.at.check_fields-returns-then-not-check_field g t c).After-check_field) ∙ c.if-not-check_field.true)

pub check_fields-loop-p-smaller : goal.check_fields-loop-p-smaller
check_fields-loop-p-smaller g t c =
    let s = field-span c.loop-p.invariant c.loop-p-test.true (sym (c.field_fits.ensures _) ∙ c.if-not-field_fits.false) in
    omega (arith, s.0, s.1, c.inside-inside.ensures)

pub check_fields-loop-p-preserved : goal.check_fields-loop-p-preserved
check_fields-loop-p-preserved g t c =
    rw (c.key-last.ensures, c.inside-inside.ensures.1)
    (fields-next c.loop-p.invariant c.loop-p-test.true (sym (c.field_fits.ensures _) ∙ c.if-not-field_fits.false) (sym (inner g (goal.at.check_fields-loop-p-preserved g t c).After-check_field) ∙ c.if-not-check_field.false))

pub check_fields-returns : goal.check_fields-returns
check_fields-returns g t c = fields-done c.loop-p.invariant c.loop-p-test.false

pub check_union-returns-then-not-count_fits : goal.check_union-returns-then-not-count_fits
check_union-returns-then-not-count_fits g t c =
    let i = c.loop-p.invariant in
    let l = c.loop-p-test.true in
    elim c.then-not-count_fits.branch [
      | check_union-then-not-count_fits-via-then-not-count_fits w ↦ wrong-count i l (sym c.count_fits.ensures ∙ w.if-not-count_fits.true)
      | check_union-then-not-count_fits-via-else-not-count_fits+then-not-check_addend w ↦
          wrong-addend i l (sym c.count_fits.ensures ∙ w.if-not-count_fits.false) (sym w.check_addend.ensures ∙ w.if-not-check_addend.true)
      | check_union-then-not-count_fits-via-else-not-count_fits+else-not-check_addend+then-not-in_order w ↦
          wrong-order i l (sym c.count_fits.ensures ∙ w.if-not-count_fits.false) (sym w.check_addend.ensures ∙ w.if-not-check_addend.false) (sym w.in_order.ensures ∙ w.if-not-in_order.true)
    ]

pub check_union-in_order-requires : goal.check_union-in_order-requires
check_union-in_order-requires g t c =
    let h = addend-inside _ _ _ _ _ _ _ c.loop-p-test.true c.args.self.within (sym c.check_addend.ensures ∙ c.if-not-check_addend.false) in
    (last-inside c.loop-p.invariant h, h)

module _ (g : given.Over) {t : ℕ} where
  -- the addend at p has been accepted
  module _ (c : goal.check_union-After-span-p g t) where
    spans : let l = c.loop-p in (1 ≤ g.L.Judged.reading.span c.args.self.b.now l.p) × (l.p + g.L.Judged.reading.span c.args.self.b.now l.p ≤ c.args.self.end)
    spans = addend-span c.loop-p.invariant c.loop-p-test.true (sym c.count_fits.ensures ∙ c.if-not-count_fits.false) (sym c.check_addend.ensures ∙ c.if-not-check_addend.false)

pub check_union-loop-p-smaller : goal.check_union-loop-p-smaller
check_union-loop-p-smaller g t c = omega (arith, spans g c, c.span-p.ensures.0)

pub check_union-loop-p-preserved : goal.check_union-loop-p-preserved
check_union-loop-p-preserved g t c =
    rw (c.count-total.ensures, c.span-p.ensures.0)
    (addends-next c.loop-p.invariant c.loop-p-test.true (sym c.count_fits.ensures ∙ c.if-not-count_fits.false) (sym c.check_addend.ensures ∙ c.if-not-check_addend.false) c.args.self.within (sym c.in_order.ensures ∙ c.if-not-in_order.false))

pub check_union-returns : goal.check_union-returns
check_union-returns g t c = addends-done c.loop-p.invariant c.loop-p-test.false
