-- What inference leaves to the profile program: a well-formed type, or a refusal whose place can be printed.
use mathlib.Core.Path.{◌≡◌, refl, sym, ap, ◌∙◌}
use mathlib.Core.Bool.{Bool, true, false, cond, not, ◌||◌}
use mathlib.Core.Logic.{⊎_elim}
use mathlib.Core.List.{List}
use mathlib.Core.Option.{some}
use Prim.Native.Nat.{ℕ, zero, suc, ◌*◌, ◌-◌, ◌≤◌}
use native.Mathlib.Omega.{arith}
use lib.Dec.{eqb, ltb}
use lib.ListN.{length, take, replicate, length-append, length-take}
use lib.Seq.{take_at}
use borrow.Author.Tests.{ltb-false}
use Rattle.byte_records.specs.Number.{Bytes}
use Rattle.value_table.specs.Value.{max_length}
use Rattle.value_table.specs.declared.Fault.TheVariants as faults
use Rattle.value_table.specs.Outcome.{Outcome, accepted}
use Rattle.value_table.specs.Judged.{bad_length, judged, messages}
use Rattle.value_table.specs.Acceptance as table
use Rattle.value_table.proofs.TableLayout.{length-fits}
use Rattle.value_table.proofs.Acceptance.{accepts, placed}
use Rattle.counting_theory.proofs.WellFormed.Limit.{totals-limit}
use Rattle.counting_theory.proofs.WellFormed.Profile.{fits-run}
use Rattle.counting_theory.specs.Trie.{size}
use Rattle.counting_theory.specs.Label.{CountingType}
use Rattle.counting_theory.specs.declared.equivalence.Equivalence.{Equivalence}
use Rattle.counting_theory.specs.Raw.{profile_of}
use Rattle.counting_theory.specs.Encoding.{type_size, encode, type_of}
use Rattle.counting_theory.specs.WellFormed.{bad_type_length, IsType}
use Rattle.counting_theory.specs.Answers.{equivalence_number, Written, turned_down, arena_with, stored, inferred_under, inferred, largest_arena}
use Rattle.answers.specs.declared.Refusal.{Refusal}
use Rattle.answers.specs.declared.Refusal.TheVariants as refusals
use Rattle.answers.specs.Outcomes.{refusal_of}
use Rattle.answers.proofs.Exact.{exact-inferred}
use Rattle.counting_theory.proofs.WellFormed.Closed.{profile-type}
use Rattle.counting_theory.proofs.WellFormed.AcceptsExactly.{type-unique}
use Rattle.counting_theory.proofs.Ways.Weights.{largest-values}
use Rattle.report.specs.Line.{refusal_line}
use Rattle.report.specs.Report.{report, program_equivalence, text_of, profiled, printed}

-- accepted, w has a well-formed type; and its place is at most the number of bytes of a table
pub record Printed (e : Equivalence) (w : Written) : Type 0 where
  pub formed : w.outcome.number ≡ 0 → IsType e w.bytes (type_of e w.bytes)
  pub near : w.outcome.place ≤ max_length

printed-refusal : {e : Equivalence} (number place : ℕ) → place ≤ max_length → Printed e (turned_down (suc number) place)
printed-refusal number place h = record { formed = λ z. absurd (omega arith); near = h }

module _ (e : Equivalence) (b : List ℕ) (bytes : Bytes b) where
  abbrev f : CountingType
  f = profile_of e (messages b)

  abbrev accepted-type : Written
  accepted-type = stored largest_arena f

  accepted-table : (judged b).number ≡ 0 → table.Table b (messages b) (judged b).count
  accepted-table z = (accepts b (judged b).count bytes).0 (λ i. record { number = z i; place = (placed b).0 z i; count = (judged b).count })

  type-of-table : (judged b).number ≡ 0 → type_size * size f ≤ max_length → IsType e (encode f) (type_of e (encode f))
  type-of-table z room =
      let t = accepted-table z in
      let g = profile-type e (messages b) t.valid (fits-run (messages b) t.room) room (totals-limit f (omega (arith, largest-values e (messages b), t.room))) in
      rw (← type-unique e (encode f) f g) g

  printed-stored : (judged b).number ≡ 0 → Printed e accepted-type
  printed-stored z = go (ltb largest_arena (type_size * size f)) refl
    where
      go : (t : Bool) → ltb largest_arena (type_size * size f) ≡ t → Printed e (cond t (turned_down 11 0) (record { outcome = accepted (size f); bytes = encode f }))
      go true h = printed-refusal 10 0 (omega arith)
      go false h = record { formed = λ n. type-of-table z (omega (arith, ltb-false largest_arena (type_size * size f) h)); near = omega arith }

  printed-from : bad_length (length b) ≡ false → (k : ℕ) → (judged b).number ≡ k →
      Printed e (elim k [ zero ↦ accepted-type | suc j ↦ turned_down (suc j) (judged b).place ])
  printed-from l zero h = printed-stored h
  printed-from l (suc j) h = printed-refusal j (judged b).place (⊎_elim (λ z. omega arith) (λ z. omega (arith, ((length-fits (length b)).0 l).1)) (placed b).1)

-- the type that the program reports
pub printed-profiled : (b : List ℕ) → Bytes b → Printed program_equivalence (profiled b)
unfolding inferred bad_type_length
printed-profiled b bytes = go (bad_length (length b)) refl
  where
    go : (t : Bool) → bad_length (length b) ≡ t →
        Printed program_equivalence (cond (t || bad_type_length largest_arena || not (eqb largest_arena largest_arena)) (turned_down 1 0) (inferred_under (some program_equivalence) b largest_arena))
    go true h = printed-refusal 0 0 (omega arith)
    go false h = printed-from program_equivalence b bytes h (judged b).number refl

-- the outcome of the call, and the arena of the largest length that it has left
pub record Told (b arena : List ℕ) (o : Outcome) : Type 0 where
  pub outcome : o ≡ (profiled b).outcome
  pub bytes : take (type_size * o.count) arena ≡ (profiled b).bytes
  pub room : type_size * o.count ≤ length arena
  pub whole : length arena ≡ largest_arena

abbrev program_number : ℕ
program_number = equivalence_number program_equivalence

pub told : (b : List ℕ) (n m : ℕ) (arena : List ℕ) (o : Outcome) → largest_arena ≡ n → largest_arena ≡ m → length arena ≡ n →
    o ≡ (inferred b program_number n m).outcome → arena ≡ arena_with n (inferred b program_number n m) → Told b arena o
told b n m arena o l k whole outcome left =
    let w = profiled b in
    let same : o ≡ w.outcome = rw (← l, ← k) at outcome in
    let a : arena ≡ arena_with largest_arena w = rw (← l, ← k) at left in
    let e : length w.bytes ≡ type_size * o.count = exact-inferred b program_number largest_arena largest_arena ∙ ap (λ x. type_size * x.count) (sym same) in
    record {
      outcome = same;
      bytes = ap (take (type_size * o.count)) a ∙ take_at w.bytes _ (type_size * o.count) e;
      room = omega (arith, e, ap length a, length-append w.bytes (replicate (largest_arena - length w.bytes) 0));
      whole = omega arith;
    }

module _ {b arena : List ℕ} {o : Outcome} (t : Told b arena o) where
  number_of : (k : ℕ) → o.number ≡ k → (profiled b).outcome.number ≡ k
  number_of k z = ap (λ x. x.number) (sym t.outcome) ∙ z

  pub told-type : Bytes b → o.number ≡ 0 → IsType program_equivalence (take (type_size * o.count) arena) (type_of program_equivalence (take (type_size * o.count) arena))
  told-type bytes z = rw t.bytes ((printed-profiled b bytes).formed (number_of 0 z))

  pub told-place : Bytes b → o.place ≤ max_length
  told-place bytes = omega (arith, (printed-profiled b bytes).near, ap (λ x. x.place) t.outcome)

  pub told-report : o.number ≡ 0 → report (type_of program_equivalence (take (type_size * o.count) arena)) ≡ printed b
  unfolding printed
  told-report z = ap (λ x. report (type_of program_equivalence x)) t.bytes ∙ ap (λ k. text_of k (profiled b)) (sym (number_of 0 z))

  pub told-length : type_size * o.count ≡ length (take (type_size * o.count) arena)
  told-length = omega (arith, t.room, length-take (type_size * o.count) arena)

  pub told-refusal : (o.number ≡ 0 → ⊥) → refusal_line o.number o.place ≡ printed b
  unfolding printed
  told-refusal h = go o.number refl
    where
      go : (k : ℕ) → o.number ≡ k → refusal_line o.number o.place ≡ text_of (profiled b).outcome.number (profiled b)
      go zero z = absurd (h z)
      go (suc k) z = (λ i. refusal_line (z i) (t.outcome i).place) ∙ ap (λ j. text_of j (profiled b)) (sym (number_of (suc k) z))

-- a refusal number is not 0, and has two digits at most
pub refusal-number : (why : Refusal) → (1 ≤ (refusal_of why).number) × ((refusal_of why).number ≤ 17)
refusal-number refusals.Length = (omega arith, omega arith)
refusal-number refusals.Equivalence = (omega arith, omega arith)
refusal-number (refusals.Table faults.Kind place) = (omega arith, omega arith)
refusal-number (refusals.Table faults.Span place) = (omega arith, omega arith)
refusal-number (refusals.Table faults.Key place) = (omega arith, omega arith)
refusal-number (refusals.Table faults.Large place) = (omega arith, omega arith)
refusal-number (refusals.Table faults.Repeat place) = (omega arith, omega arith)
refusal-number (refusals.Table faults.Fields place) = (omega arith, omega arith)
refusal-number (refusals.Table faults.Depth place) = (omega arith, omega arith)
refusal-number refusals.First = (omega arith, omega arith)
refusal-number refusals.Second = (omega arith, omega arith)
refusal-number refusals.Total = (omega arith, omega arith)
refusal-number refusals.NotPart = (omega arith, omega arith)
refusal-number refusals.Room = (omega arith, omega arith)
