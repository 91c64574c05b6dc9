-- `fault_at` meets its contract: each return follows from the tests on the way to it.
use mathlib.Core.Path.{◌≡◌, sym, ap, ◌∙◌}
use mathlib.Core.Bool.{Bool, true, false}
use mathlib.Core.List.{List}
use Prim.Native.Nat.{ℕ}
use lib.ListN.{length}
use borrow.Author.Tests.{lt-ltb, le-ltb}
use Rattle.value_table.specs.Judged.{fault, bad_kind, bad_span, bad_key, too_large, repeated, too_many, too_deep}
use Rattle.value_table.specs.Inside.EarlierFields.{FieldsBefore}
use Rattle.value_table.proofs.Faultless.{scalar-fine}
use Rattle.value_table.proofs.EarlierFields.{first_field, many-same}
use Rattle.value_table.proofs.faults.fault_at.Goals as goal
use Rattle.value_table.proofs.faults.fault_at.Goals.{then-not-plain_scalar+else-bad_kind+else-bad_span, else-not-plain_scalar, Else-bad_key, Else-repeats, Else-too_large, Else-too_many, Joined-not-plain_scalar}

-- a plain scalar, or neither test found a fault
head-fine : (c : goal.Joined-not-plain_scalar) → let a = c.args in (bad_kind a.table.now a.i ≡ false) × (bad_span a.table.now a.i a.level.now.end ≡ false)
head-fine c =
    elim c.if-not-plain_scalar.branch [
      | then-not-plain_scalar+else-bad_kind+else-bad_span w ↦ (sym w.bad_kind.ensures ∙ w.if-bad_kind.false, sym w.bad_span.ensures ∙ w.if-bad_span.false)
      | else-not-plain_scalar w ↦ scalar-fine _ _ _ (c.plain_scalar.ensures.0 w.if-not-plain_scalar.false) c.requires.2
    ]

key-fine : (c : goal.Else-bad_key) → let a = c.args in (f : Bool) (ks : List ℕ) → FieldsBefore a.table.now a.i a.level.now.first f ks → bad_key a.table.now a.i f ≡ false
key-fine c f ks h = sym (c.bad_key.ensures ∙ ap (bad_key _ _) (first_field c.is_some-field.ensures h)) ∙ c.if-bad_key.false

small : (c : goal.Else-too_large) → let a = c.args in (f : Bool) (ks : List ℕ) → FieldsBefore a.table.now a.i a.level.now.first f ks → too_large a.largest a.table.now a.i f ≡ false
small c f ks h = sym (c.too_large.ensures ∙ ap (too_large _ _ _) (first_field c.is_some-field.ensures h)) ∙ c.if-too_large.false

fresh : (c : goal.Else-repeats) → let a = c.args in (f : Bool) (ks : List ℕ) → FieldsBefore a.table.now a.i a.level.now.first f ks → repeated a.table.now a.i f ks ≡ false
fresh c f ks h = sym (c.repeats.ensures f ks h) ∙ c.if-repeats.false

pub returns-then-bad_kind : goal.returns-then-bad_kind
unfolding fault
returns-then-bad_kind c = λ f ks h n. simp (sym c.bad_kind.ensures ∙ c.if-bad_kind.true)

pub returns-then-bad_span : goal.returns-then-bad_span
unfolding fault
returns-then-bad_span c = λ f ks h n. simp (sym c.bad_span.ensures ∙ c.if-bad_span.true, sym c.bad_kind.ensures ∙ c.if-bad_kind.false)

pub returns-then-bad_key : goal.returns-then-bad_key
unfolding fault
returns-then-bad_key c =
    λ f ks h n. let p = head-fine (goal.at.returns-then-bad_key c).Joined-not-plain_scalar in
    simp (sym (c.bad_key.ensures ∙ ap (bad_key _ _) (first_field c.is_some-field.ensures h)) ∙ c.if-bad_key.true, p.1, p.0)

pub returns-then-too_large : goal.returns-then-too_large
unfolding fault
returns-then-too_large c =
    λ f ks h n. let p = head-fine (goal.at.returns-then-too_large c).Joined-not-plain_scalar in
    simp (sym (c.too_large.ensures ∙ ap (too_large _ _ _) (first_field c.is_some-field.ensures h)) ∙ c.if-too_large.true, key-fine (goal.at.returns-then-too_large c).Else-bad_key f ks h, p.1, p.0)

pub returns-then-repeats : goal.returns-then-repeats
unfolding fault
returns-then-repeats c =
    λ f ks h n. let p = head-fine (goal.at.returns-then-repeats c).Joined-not-plain_scalar in
    simp (sym (c.repeats.ensures f ks h) ∙ c.if-repeats.true, small (goal.at.returns-then-repeats c).Else-too_large f ks h, key-fine (goal.at.returns-then-repeats c).Else-bad_key f ks h, p.1, p.0)

few : (c : goal.Else-too_many) → let a = c.args in (f : Bool) (ks : List ℕ) → FieldsBefore a.table.now a.i a.level.now.first f ks → (f ≡ true → length ks ≡ a.level.now.count) → too_many f (length ks) ≡ false
few c f ks h n = sym (c.too_many.ensures ∙ many-same c.is_some-field.ensures h n) ∙ c.if-too_many.false

pub returns-then-too_many : goal.returns-then-too_many
unfolding fault
returns-then-too_many c =
    λ f ks h n. let p = head-fine (goal.at.returns-then-too_many c).Joined-not-plain_scalar in
    simp (sym (c.too_many.ensures ∙ many-same c.is_some-field.ensures h n) ∙ c.if-too_many.true, fresh (goal.at.returns-then-too_many c).Else-repeats f ks h, small (goal.at.returns-then-too_many c).Else-too_large f ks h, key-fine (goal.at.returns-then-too_many c).Else-bad_key f ks h, p.1, p.0)

pub returns-then-depth-gt-MAX_DEPTH : goal.returns-then-depth-gt-MAX_DEPTH
unfolding fault too_deep
returns-then-depth-gt-MAX_DEPTH c =
    λ f ks h n. let p = head-fine (goal.at.returns-then-depth-gt-MAX_DEPTH c).Joined-not-plain_scalar in
    simp (lt-ltb _ _ c.if-depth-gt-MAX_DEPTH.true, few (goal.at.returns-then-depth-gt-MAX_DEPTH c).Else-too_many f ks h n, fresh (goal.at.returns-then-depth-gt-MAX_DEPTH c).Else-repeats f ks h, small (goal.at.returns-then-depth-gt-MAX_DEPTH c).Else-too_large f ks h, key-fine (goal.at.returns-then-depth-gt-MAX_DEPTH c).Else-bad_key f ks h, p.1, p.0)

pub returns : goal.returns
unfolding fault too_deep
returns c =
    λ f ks h n. let p = head-fine (goal.at.returns c).Joined-not-plain_scalar in
    simp (le-ltb _ _ c.if-depth-gt-MAX_DEPTH.false, few (goal.at.returns c).Else-too_many f ks h n, fresh (goal.at.returns c).Else-repeats f ks h, small (goal.at.returns c).Else-too_large f ks h, key-fine (goal.at.returns c).Else-bad_key f ks h, p.1, p.0)
