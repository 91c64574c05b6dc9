-- `merge_front` meets its contract.
use mathlib.Core.Path.{◌≡◌, refl, ap, ◌∙◌}
use mathlib.Core.Bool.{cond, ◌||◌}
use mathlib.Core.List.{List}
use mathlib.Core.Option.{Option, none, some}
use Prim.Native.Nat.{ℕ}
use lib.ListN.{length}
use Rattle.counting_theory.specs.Trie.{reduce}
use Rattle.counting_theory.specs.Label.{Counting}
use Rattle.counting_theory.specs.declared.equivalence.Equivalence.{Equivalence}
use Rattle.counting_theory.specs.Encoding.{type_of}
use Rattle.counting_theory.specs.WellFormed.{bad_type_length}
use Rattle.counting_theory.specs.Answers.{equivalence_of, Written, turned_down, merged_types, merged_under, merged}
use Rattle.type_check.specs.Inside.Pair.{pair_under, on_pair}
use Rattle.answers.specs.declared.Refusal.{Refusal}
use Rattle.answers.specs.declared.Refusal.TheVariants.{Length, Equivalence as UnknownNumber, Table, First, Second, Total, NotPart, Room}
use Rattle.answers.specs.Outcomes.{refusal_of}
use Rattle.answers.proofs.Fronts.{refused_by, front-refused}
use Rattle.std.proofs.lemmas.Result.{err_from_is_err_and}
use Rattle.counting_type.proofs.merge_front.Goals as goal

module _ (first second : List ℕ) (equivalence n : ℕ) where
  abbrev merging : Equivalence → Written
  merging e = merged_types (reduce Counting (type_of e first) (type_of e second)) n

  -- the merge is a call on two types, with this work
  merged-pair : merged first second equivalence n ≡ on_pair merging first second equivalence n
  unfolding merged
  merged-pair = ap (cond (bad_type_length (length first) || bad_type_length (length second) || bad_type_length n) (turned_down 1 0)) (go (equivalence_of equivalence))
    where
      go : (e : Option Equivalence) → merged_under e first second n ≡ pair_under merging e first second
      go none = refl
      go (some e) = refl

-- the three numbers of a refusal
refused-as : (why : Refusal) → turned_down (refusal_of why).number (refusal_of why).place ≡ refused_by why
refused-as Length = refl
refused-as UnknownNumber = refl
refused-as (Table fault place) = refl
refused-as First = refl
refused-as Second = refl
refused-as Total = refl
refused-as NotPart = refl
refused-as Room = refl

pub merge_checked-requires : goal.merge_checked-requires
merge_checked-requires c =
    let judged = c.in_ok-equivalence.ensures in
    record { fact = judged.0; fact_2 = judged.1 }

pub returns-in_err-equivalence : goal.returns-in_err-equivalence
returns-in_err-equivalence c =
    let p = err_from_is_err_and c.from_residual.result c.from_residual.ensures.1 in
    rw (p.1, p.2) (front-refused c.in_err-equivalence.field-0.0 _ (merged-pair _ _ _ _ ∙ c.in_err-equivalence.ensures _ ∙ refused-as _))

pub returns : goal.returns
returns c =
    let a = c.args in
    rw (merged-pair a.first.now a.second.now a.equivalence (length a.arena.now) ∙ c.in_ok-equivalence.ensures.2 _) c.merge_checked.ensures
