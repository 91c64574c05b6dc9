-- `fold_front` meets its contract.
use mathlib.Core.Path.{◌≡◌, refl, sym, ◌∙◌}
use mathlib.Core.Bool.{true, false, not, ◌||◌}
use mathlib.Core.List.{List}
use Prim.Native.Nat.{ℕ}
use lib.Dec.{eqb}
use lib.ListN.{length}
use Rattle.byte_records.proofs.Tests.{or_parts}
use Rattle.counting_theory.specs.declared.equivalence.Equivalence.TheVariants.{Label as by_label}
use Rattle.counting_theory.specs.Encoding.{type_of}
use Rattle.counting_theory.specs.WellFormed.{well_formed, bad_type_length}
use Rattle.counting_theory.specs.Answers.{turned_down, merged_types}
use Rattle.counting_theory.proofs.WellFormed.AcceptsExactly.{type-length, well-formed-type}
use Rattle.answers.specs.declared.Refusal.TheVariants.{Length, First}
use Rattle.answers.proofs.Fronts.{front-refused}
use Rattle.folding.specs.Fold.{kind_type}
use Rattle.folding.specs.Folded.{bad_fold_lengths, folded}
use Rattle.folding.proofs.fold_front.Goals as goal

module _ (b : List ℕ) (arena work : ℕ) where
  lengths : bad_fold_lengths (length b) arena work ≡ false → (bad_type_length (length b) ≡ false) × (bad_type_length arena ≡ false)
  lengths h = or_parts (bad_type_length (length b)) (bad_type_length arena) (or_parts (bad_type_length (length b) || bad_type_length arena) (not (eqb work arena)) h).0

  by_length : bad_fold_lengths (length b) arena work ≡ true → folded b arena work ≡ turned_down 1 0
  unfolding folded
  by_length h = rw h refl

  by-type : bad_fold_lengths (length b) arena work ≡ false → well_formed by_label b ≡ false → folded b arena work ≡ turned_down 8 0
  unfolding folded
  by-type h i = rw (h, i) refl

  by-fold : bad_fold_lengths (length b) arena work ≡ false → well_formed by_label b ≡ true → folded b arena work ≡ merged_types (kind_type (type_of by_label b)) arena
  unfolding folded
  by-fold h i = rw (h, i) refl

pub returns-then-bad_lengths : goal.returns-then-bad_lengths
returns-then-bad_lengths c = front-refused Length _ (by_length _ _ _ (sym c.bad_lengths.ensures ∙ c.if-bad_lengths.true))

pub returns-then-not-well_formed : goal.returns-then-not-well_formed
returns-then-not-well_formed c =
    front-refused First _ (by-type _ _ _ (sym c.bad_lengths.ensures ∙ c.if-bad_lengths.false) (sym c.well_formed-2.ensures ∙ c.if-not-well_formed.true))

pub fold_checked-requires : goal.fold_checked-requires
fold_checked-requires c =
    let a = c.args in
    let l = lengths a.bytes.now (length a.arena.now) a.work (sym c.bad_lengths.ensures ∙ c.if-bad_lengths.false) in
    let formed = sym c.well_formed-2.ensures ∙ c.if-not-well_formed.false in
    ((well-formed-type _ _ (λ p. (c.type_inv.bytes p).fits) l.0).0 formed, (type-length _ l.1).1)

pub returns : goal.returns
returns c =
    let a = c.args in
    let allowed = sym c.bad_lengths.ensures ∙ c.if-bad_lengths.false in
    let formed = sym c.well_formed-2.ensures ∙ c.if-not-well_formed.false in
    rw (by-fold a.bytes.now (length a.arena.now) a.work allowed formed) c.fold_checked.ensures
