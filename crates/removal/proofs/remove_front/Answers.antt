-- `remove_front` meets its contract.
use mathlib.Core.Path.{◌≡◌, refl, ap, ◌∙◌}
use mathlib.Core.Bool.{cond, ◌||◌}
use mathlib.Core.List.{List}
use mathlib.Core.Option.{Option, none, some}
use Prim.Native.Nat.{ℕ}
use lib.ListN.{length}
use Rattle.counting_theory.specs.declared.equivalence.Equivalence.{Equivalence}
use Rattle.removal_theory.specs.Encoding.{type_of}
use Rattle.removal_theory.specs.WellFormed.{bad_type_length}
use Rattle.counting_theory.specs.Answers.{equivalence_of, Written, turned_down}
use Rattle.removal_check.specs.Inside.Pair.{pair_under, on_pair}
use Rattle.answers.proofs.Fronts.{front-refused}
use Rattle.removal.specs.Removed.{removed_type, removed_types, removed_under, removed}
use Rattle.std.proofs.lemmas.Result.{err_from_is_err_and}
use Rattle.removal.proofs.remove_front.Goals as goal

module _ (whole part : List ℕ) (equivalence n : ℕ) where
  abbrev removing : Equivalence → Written
  removing e = removed_types (removed_type e (type_of e whole) (type_of e part)) n

  -- removal is a call on two types, with this work
  removed-pair : removed whole part equivalence n ≡ on_pair removing whole part equivalence n
  unfolding removed
  removed-pair = ap (cond (bad_type_length (length whole) || bad_type_length (length part) || bad_type_length n) (turned_down 1 0)) (go (equivalence_of equivalence))
    where
      go : (e : Option Equivalence) → removed_under e whole part n ≡ pair_under removing e whole part
      go none = refl
      go (some e) = refl

pub remove_checked-requires : goal.remove_checked-requires
remove_checked-requires c =
    let judged = c.in_ok-equivalence.ensures in
    record { fact = judged.0; fact_2 = judged.1 }

pub returns-in_err-equivalence : goal.returns-in_err-equivalence
returns-in_err-equivalence c =
    let p = err_from_is_err_and c.from_residual.result c.from_residual.ensures.1 in
    rw (p.1, p.2) (front-refused _ _ (removed-pair _ _ _ _ ∙ c.in_err-equivalence.ensures _))

pub returns : goal.returns
returns c =
    let a = c.args in
    rw (removed-pair a.whole.now a.part.now a.equivalence (length a.arena.now) ∙ c.in_ok-equivalence.ensures.2 _) c.remove_checked.ensures
