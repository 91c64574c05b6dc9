-- A way ends as the profile of all its messages says: each type at hand is the profile of some of them.
use mathlib.Core.Path.{◌≡◌, refl, ◌∙◌, ap}
use mathlib.Core.Bool.{false}
use mathlib.Core.List.Permᴰ
use mathlib.Core.List.{List, [], ◌∷◌, map}
use mathlib.Core.Option.{some}
use Prim.Native.Nat.{ℕ, suc, pred}
use native.Mathlib.Omega.{arith}
use lib.ListN.{length}
use Rattle.value_table.specs.Value.{Values, Valid, join_values}
use Rattle.value_table.specs.Judged.{messages}
use Rattle.counting_theory.specs.Label.{CountingType}
use Rattle.counting_theory.specs.declared.equivalence.Equivalence.{Equivalence}
use Rattle.counting_theory.specs.Raw.{raw, profile_of}
use Rattle.counting_theory.specs.Encoding.{encode}
use Rattle.counting_theory.specs.WellFormed.{bad_type_length, IsType, EachFits}
use Rattle.counting_theory.specs.Answers.{Left, leaves, equivalence_number, merged, merged_types}
use Rattle.counting_theory.specs.Ways.{Call, infer, infer_default, merge, go_on, run, at_hand, Accepted, AllAllowed, Way, plan_messages, WithinLimits, Ends}
use Rattle.counting_theory.proofs.WellFormed.Closed.{profile-type}
use Rattle.counting_theory.proofs.WellFormed.AcceptsExactly.{type-length}
use Rattle.counting_theory.proofs.WellFormed.Profile.{fits-run}
use Rattle.counting_theory.proofs.Ways.Same.{fits-join}
use Rattle.counting_theory.proofs.Values.Join.{reduce-join, valid-join}
use Rattle.counting_theory.proofs.Ways.Pull.{Pulled, pulled}
use Rattle.counting_theory.proofs.Ways.Runs.{run-merge, merge-parts}
use Rattle.counting_theory.proofs.Ways.Calls.{accepted-table, inferred-profile, default-profile, merged-types}
use Rattle.counting_theory.proofs.Ways.AllMessages.{profile-only, Whole, whole-read, whole-merged, whole-last, whole_part}
use Rattle.counting_theory.proofs.Ways.Written.{After, written-ends}

module _ (e : Equivalence) (n : ℕ) where
  -- a type at hand, by the messages that went into it
  record HandType : Type 0 where
    inputs : Values
    valid : Valid inputs
    fits : EachFits inputs
    within : WithinLimits n (profile_of e inputs)

  abbrev hand_bytes : HandType → List ℕ
  hand_bytes x = encode (profile_of e x.inputs)

  abbrev hand_raw : HandType → CountingType
  hand_raw x = raw e false x.inputs

  module _ (allowed : bad_type_length n ≡ false) (t : CountingType) where
    hand-type : (x : HandType) → IsType e (hand_bytes x) (profile_of e x.inputs)
    hand-type x = profile-type e x.inputs x.valid x.fits (omega (arith, type-length n allowed)) x.within.0

    merged-hand : (x y : HandType) (arena : ℕ) → arena ≡ n → merged (hand_bytes x) (hand_bytes y) (equivalence_number e) arena ≡ merged_types (profile_of e (join_values x.inputs y.inputs)) n
    merged-hand x y arena fixed =
        merged-types e (profile_of e x.inputs) (profile_of e y.inputs) n arena allowed fixed (hand-type x) (hand-type y)
        ∙ ap (λ f. merged_types f n) (reduce-join e x.inputs y.inputs)

    -- how a run ends with these types at hand, the last one written first
    abbrev EndsOn : List HandType → List Left → Type 0
    EndsOn [] ls = Ends n t ls
    EndsOn (x ∷ hand) ls = After n t (profile_of e x.inputs) ls

    ends_on : (hand : List HandType) (ls : List Left) → Ends n t ls → EndsOn hand ls
    ends_on [] ls h = h
    ends_on (x ∷ hand) [] h = absurd h
    ends_on (x ∷ hand) (l ∷ ls) h = h

    abbrev RunEnds : List Call → List HandType → Type 0
    RunEnds calls hand = Whole e t (plan_messages calls) (map hand_raw hand) → EndsOn hand (run e calls (map hand_bytes hand))

    -- a call that writes the profile of ms
    call_ends : (calls : List Call) (hand : List HandType) (ms : Values) (arena work : List ℕ) → Valid ms → EachFits ms → length arena ≡ n →
        Whole e t (plan_messages calls) (raw e false ms ∷ map hand_raw hand) → ((x : HandType) → RunEnds calls (x ∷ hand)) →
        Ends n t (go_on (leaves (merged_types (profile_of e ms) n) arena work) (λ b. run e calls (b ∷ map hand_bytes hand)))
    call_ends calls hand ms arena work valid fits fixed w later =
        written-ends n t (profile_of e ms) arena work fixed (λ b. run e calls (b ∷ map hand_bytes hand))
        (whole_part e t (plan_messages calls) ms (map hand_raw hand) w)
        (λ h. later (record { inputs = ms; valid = valid; fits = fits; within = h }) w)

    read-ends : (calls : List Call) (hand : List HandType) (source arena work : List ℕ) → Accepted source → length arena ≡ n →
        Whole e t (join_values (messages source) (plan_messages calls)) (map hand_raw hand) → ((x : HandType) → RunEnds calls (x ∷ hand)) →
        Ends n t (go_on (leaves (merged_types (profile_of e (messages source)) n) arena work) (λ b. run e calls (b ∷ map hand_bytes hand)))
    read-ends calls hand source arena work a fixed w =
        call_ends calls hand (messages source) arena work (accepted-table source a).valid (fits-run (messages source) (accepted-table source a).room) fixed
        (whole-read e t (messages source) (plan_messages calls) (map hand_raw hand) w)

    merge-ends : (calls : List Call) (hand : List HandType) (i j : ℕ) (arena : List ℕ) (p : Pulled hand_bytes i hand) (q : Pulled hand_bytes j p.others) →
        length arena ≡ n → Whole e t (plan_messages calls) (map hand_raw hand) → ((x : HandType) → RunEnds calls (x ∷ q.others)) →
        Ends n t (run e (merge i j arena ∷ calls) (map hand_bytes hand))
    merge-ends calls hand i j arena p q fixed w later =
        let x = p.entry in
        let y = q.entry in
        let same = Permᴰ.map hand_raw (Permᴰ.trans p.same (Permᴰ.cons refl q.same)) in
        rw (run-merge e i j arena calls _ _ _ _ _ p.found q.found, merged-hand x y (length arena) fixed)
        (call_ends calls q.others (join_values x.inputs y.inputs) arena [] (valid-join x.inputs y.inputs x.valid y.valid)
        (fits-join x.inputs y.inputs x.fits y.fits) fixed
        (whole-merged e t (plan_messages calls) x.inputs y.inputs _ _ same w) later)

    run_ends : (calls : List Call) (hand : List HandType) → AllAllowed e n calls → at_hand calls (length hand) ≡ some 1 → RunEnds calls hand
    unfolding run at_hand plan_messages
    run_ends [] [] a h w = absurd (let z : ◌≡◌ {A = ℕ} 0 1 = cc in omega arith)
    run_ends [] (x ∷ []) a h w = whole-last e t x.inputs w
    run_ends [] (x ∷ (y ∷ hand)) a h w = absurd (let z : suc (suc (length hand)) ≡ 1 = cc in omega arith)
    run_ends (infer source arena work ∷ calls) hand a h w =
        ends_on hand _ (rw (inferred-profile e n allowed source a.0.0 (length arena) (length work) a.0.1 a.0.2)
        (read-ends calls hand source arena work a.0.0 a.0.1 w (λ x. run_ends calls (x ∷ hand) a.1 h)))
    run_ends (infer_default source arena work ∷ calls) hand a h w =
        ends_on hand _ (rw (default-profile e n allowed source a.0.1 a.0.0 (length arena) (length work) a.0.2 a.0.3)
        (read-ends calls hand source arena work a.0.1 a.0.2 w (λ x. run_ends calls (x ∷ hand) a.1 h)))
    run_ends (merge i j arena ∷ calls) hand a h w =
        let m = merge-parts i j (length hand) (at_hand calls (pred (length hand))) h in
        let p = pulled hand_bytes i hand m.0 in
        let q = pulled hand_bytes j p.others (omega (arith, p.fewer)) in
        let k : pred (length hand) ≡ suc (length q.others) = omega (arith, p.fewer, q.fewer) in
        ends_on hand _ (merge-ends calls hand i j arena p q a.0 w (λ x. run_ends calls (x ∷ q.others) a.1 (rw k at m.2)))

pub way-ends : (e : Equivalence) (n : ℕ) (plan : List Call) → Way e n plan → Ends n (profile_of e (plan_messages plan)) (run e plan [])
way-ends e n plan w =
    run_ends e n w.length-allowed (profile_of e (plan_messages plan)) plan [] w.calls-allowed w.leaves-one (profile-only e (plan_messages plan))
