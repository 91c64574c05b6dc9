-- Condition 3: every way is repeatable.
use mathlib.Core.Path.{◌≡◌, sym, ◌∙◌, ap}
use mathlib.Core.Bool.{false}
use mathlib.Core.List.{List, []}
use Prim.Native.Nat.{ℕ, ◌*◌}
use native.Mathlib.Omega.{arith}
use lib.ListN.{take}
use Rattle.value_table.specs.Value.{Values}
use Rattle.counting_theory.specs.Trie.{size, lookup}
use Rattle.counting_theory.specs.Label.{Label, Counting}
use Rattle.counting_theory.specs.declared.equivalence.Equivalence.{Equivalence}
use Rattle.counting_theory.specs.Raw.{profile_of}
use Rattle.counting_theory.specs.Place.{values_of, payload_at, count_of}
use Rattle.counting_theory.specs.Encoding.{type_size, encode, type_of}
use Rattle.counting_theory.specs.WellFormed.{bad_type_length, IsType}
use Rattle.counting_theory.specs.Answers.{Left}
use Rattle.counting_theory.specs.Ways.{run, plan_messages, in_use, WithinLimits, Final, HoldsProfile, EveryWay}
use Rattle.counting_theory.proofs.Values.Counted.{counts}
use Rattle.counting_theory.proofs.Values.Tally.{count-is-number}
use Rattle.counting_theory.proofs.Lengths.{lengths-at}
use Rattle.counting_theory.proofs.WellFormed.Closed.{profile-type}
use Rattle.counting_theory.proofs.WellFormed.AcceptsExactly.{type-length, type-unique}
use Rattle.counting_theory.proofs.Ways.Written.{bytes-in-use}
use Rattle.counting_theory.proofs.Ways.Ends.{way-ends}
use Rattle.counting_theory.proofs.Ways.Same.{FromTables, plan-messages, same-profile}
use Rattle.counting_theory.proofs.Ways.Alike.{ends-alike, ends-final, all-accepted}
use Rattle.counting_theory.proofs.Ways.Runs.{run-zero, all-run}

-- what stands in the arena where it holds the profile of these messages
module _ (e : Equivalence) (n : ℕ) (allowed : bad_type_length n ≡ false) (ms : Values) (from : FromTables ms) (within : WithinLimits n (profile_of e ms)) where
  final-profile : (l : Left) → Final n (profile_of e ms) l → HoldsProfile e ms l
  final-profile l h =
      let t = profile_of e ms in
      let bytes : in_use l ≡ encode t =
      ap (λ o. take (type_size * o.count) l.arena) h.0 ∙ ap (λ b. take (type_size * size t) b) h.1 ∙ bytes-in-use t _ in
      let is : IsType e (in_use l) t = rw bytes (profile-type e ms from.valid from.fits (omega (arith, type-length n allowed, within.1)) within.0) in
      let same : type_of e (in_use l) ≡ t = sym (type-unique e (in_use l) t is) in
      let there : (place : List Label) → lookup Counting (type_of e (in_use l)) place ≡ payload_at e (values_of ms) place =
      λ place. ap (λ f. lookup Counting f place) same ∙ counts e ms from.valid place in
      record {
        is-type = rw same is;
        profile = same;
        payloads = there;
        counts = λ place. ap count_of (there place) ∙ count-is-number e (values_of ms) place;
        lengths = λ place a h. lengths-at e (values_of ms) place a (sym (there place) ∙ h);
      }

pub every_way : EveryWay
every_way e n plan w =
    let from = plan-messages e n plan w.calls-allowed in
    let ends = way-ends e n plan w in
    record {
      ends = ends;
      alike = λ other v same.
          let one = same-profile e (plan_messages plan) (plan_messages other) from (plan-messages e n other v.calls-allowed) same in
          ends-alike n (profile_of e (plan_messages plan)) (run e plan []) (run e other []) ends (rw one (way-ends e n other v));
      unrefused = λ within. (
        all-run e n plan [] w.leaves-one (all-accepted n _ within (run e plan []) ends),
        ends-final n _ within _ (final-profile e n w.length-allowed (plan_messages plan) from within) (run e plan []) ends,
      );
      work-zero = run-zero e n plan [] w.calls-allowed;
    }
