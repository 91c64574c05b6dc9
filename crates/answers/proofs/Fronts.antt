-- What the calls that write a type leave: first the type in the front of the arena, then zeros behind it.
use mathlib.Core.Path.{◌≡◌, refl, sym, ap, ◌∙◌}
use mathlib.Core.Bool.{true, false, not}
use mathlib.Core.List.{List, []}
use Prim.Native.Nat.{ℕ, ◌*◌, ◌/◌, ◌≤◌, ◌<◌}
use native.Mathlib.Omega.{arith}
use lib.ListN.{length, take, length-take}
use lib.Seq.{sets, sets-eq, take_at}
use borrow.Author.Tests.{lt-ltb, le-ltb, not-true, not-false}
use Rattle.byte_records.specs.Number.{zeros}
use Rattle.std.proofs.Common.{Result, Ok, Err}
use Rattle.std.specs.Result.{result_unwrap_or}
use Rattle.value_table.specs.declared.Fault.TheVariants as faults
use Rattle.value_table.specs.declared.TableError.{TableError}
use Rattle.value_table.specs.declared.TableError.TheVariants.{Length as BadLength, Faulty}
use Rattle.value_table.specs.Outcome.{accepted}
use Rattle.value_table.specs.Outcome as table
use Rattle.answers.specs.declared.Refusal.{Refusal}
use Rattle.answers.specs.declared.Refusal.TheVariants.{Length, Equivalence as UnknownNumber, Table, First, Second, Total, NotPart, Room}
use Rattle.counting_theory.specs.Trie.{size}
use Rattle.counting_theory.specs.Label.{CountingType}
use Rattle.counting_theory.specs.declared.equivalence.Equivalence.{Equivalence}
use Rattle.counting_theory.specs.Encoding.{type_size, encode}
use Rattle.counting_theory.specs.WellFormed.{within_limit}
use Rattle.counting_theory.specs.Answers.{Written, leaves, stored, inferred_from, merged_types}
use Rattle.answers.specs.Outcomes.{refusal_of, refusal_of_table, outcome_of, left_by}
use Rattle.answers.specs.Inside.Front.{WrittenInFront}
use Rattle.counting_theory.proofs.Encoding.Header.{length-encode}
use Rattle.byte_records.proofs.Clear.{cleared_from}
use Rattle.answers.proofs.Exact.{Exact, cleared-arena}

-- what a call writes that is refused
abbrev pub refused_by : Refusal → Written
refused_by why = record { outcome = refusal_of why; bytes = [] }

pub front-refused : {w : Written} (why : Refusal) (arena : List ℕ) → w ≡ refused_by why → WrittenInFront w (Err why) arena
front-refused why arena e = rw e (record { outcome = refl; bytes = refl })

-- a table that call 1 refuses is refused to the inference as well
pub refused-from : (error : TableError) (e : Equivalence) (b : List ℕ) (n : ℕ) → inferred_from (table.refusal_of error) e b n ≡ refused_by (refusal_of_table error)
refused-from BadLength e b n = refl
refused-from (Faulty faults.Kind place) e b n = refl
refused-from (Faulty faults.Span place) e b n = refl
refused-from (Faulty faults.Key place) e b n = refl
refused-from (Faulty faults.Large place) e b n = refl
refused-from (Faulty faults.Repeat place) e b n = refl
refused-from (Faulty faults.Fields place) e b n = refl
refused-from (Faulty faults.Depth place) e b n = refl

module _ (f : CountingType) (n : ℕ) where
  pub front-room : (arena : List ℕ) → n < length (encode f) → WrittenInFront (stored n f) (Err Room) arena
  front-room arena h = front-refused Room arena (rw (lt-ltb n (type_size * size f) (omega (arith, length-encode f))) refl)

  -- a whole type stands in the front of an arena that has room for it
  pub front-stored : (records : ℕ) (arena : List ℕ) → records ≡ size f → length (encode f) ≤ n → take (length (encode f)) arena ≡ encode f → WrittenInFront (stored n f) (Ok records) arena
  front-stored records arena k h e = rw (le-ltb n (type_size * size f) (omega (arith, length-encode f))) (record { outcome = ap accepted k; bytes = e })

  pub front_bytes : (arena : List ℕ) → length (encode f) ≤ n → take (length (encode f)) arena ≡ encode f → WrittenInFront (stored n f) (Ok (length (encode f) / type_size)) arena
  front_bytes arena = front-stored (length (encode f) / type_size) arena (omega (arith, length-encode f))

  module _ (within : not (within_limit f) ≡ false) (answered : Result ℕ Refusal) (arena : List ℕ) where
    -- within the limit only room is asked
    pub front-within : WrittenInFront (stored n f) answered arena → WrittenInFront (merged_types f n) answered arena
    front-within h = rw (not-false (within_limit f) within) h

  pub front-total : (arena : List ℕ) → not (within_limit f) ≡ true → WrittenInFront (merged_types f n) (Err Total) arena
  front-total arena h = front-refused Total arena (rw (not-true (within_limit f) h) refl)

pub sets-front : (arena bytes : List ℕ) → length bytes ≤ length arena → take (length bytes) (sets arena 0 bytes) ≡ bytes
sets-front arena bytes h = rw (sets-eq bytes arena 0 (omega arith)) (take_at bytes _ (length bytes) refl)

-- how many records a call answers, as the code reads it
count-is : (answered : Result ℕ Refusal) → (outcome_of answered).count ≡ result_unwrap_or answered 0
count-is (Ok n) = refl
count-is (Err Length) = refl
count-is (Err UnknownNumber) = refl
count-is (Err (Table fault place)) = refl
count-is (Err First) = refl
count-is (Err Second) = refl
count-is (Err Total) = refl
count-is (Err NotPart) = refl
count-is (Err Room) = refl

module _ {w : Written} {answered : Result ℕ Refusal} {arena : List ℕ} (exact : Exact w) (h : WrittenInFront w answered arena) where
  counts : w.outcome.count ≡ result_unwrap_or answered 0
  counts = ap (λ o. o.count) (sym h.outcome) ∙ count-is answered

  pub front_length : type_size * result_unwrap_or answered 0 ≤ length arena
  front_length =
      let e : length (take (length w.bytes) arena) ≡ length w.bytes = ap length h.bytes in
      omega (arith, exact, length-take (length w.bytes) arena, e, counts)

  -- the arena, cleared behind the type, and a working buffer of zeros
  pub front-cleared : (before cleared work zeroed : List ℕ) → length arena ≡ length before → cleared ≡ cleared_from arena (type_size * result_unwrap_or answered 0) →
      zeroed ≡ zeros (length work) → left_by answered cleared zeroed ≡ leaves w before work
  front-cleared before cleared work zeroed l e z =
      let c = e ∙ ap (λ n. cleared_from arena (type_size * n)) (sym counts) ∙ cleared-arena w arena (length before) exact l (rw exact at h.bytes) in
      λ i. record { outcome = h.outcome i; arena = c i; work = z i }
