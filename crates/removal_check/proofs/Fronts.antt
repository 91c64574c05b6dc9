-- What a call that writes a type in 16-byte records leaves: first the type in the front of the arena, then zeros behind it.
use mathlib.Core.Path.{◌≡◌, refl, sym, ap, ◌∙◌}
use mathlib.Core.List.{List}
use Prim.Native.Nat.{ℕ, ◌*◌, ◌/◌, ◌≤◌, ◌<◌}
use native.Mathlib.Omega.{arith}
use lib.ListN.{length, take, length-take}
use borrow.Author.Tests.{lt-ltb, le-ltb}
use Rattle.byte_records.specs.Number.{zeros}
use Rattle.std.proofs.Common.{Result, Ok, Err}
use Rattle.std.specs.Result.{result_unwrap_or}
use Rattle.value_table.specs.Outcome.{accepted}
use Rattle.answers.specs.declared.Refusal.{Refusal}
use Rattle.answers.specs.declared.Refusal.TheVariants.{Length, Equivalence as UnknownNumber, Table, First, Second, Total, NotPart, Room}
use Rattle.counting_theory.specs.Trie.{size}
use Rattle.removal_theory.specs.Label.{CountingType}
use Rattle.removal_theory.specs.Encoding.{type_size, encode}
use Rattle.counting_theory.specs.Answers.{Written, leaves}
use Rattle.removal_theory.specs.Answers.{stored}
use Rattle.answers.specs.Outcomes.{outcome_of, left_by}
use Rattle.answers.specs.Inside.Front.{WrittenInFront}
use Rattle.removal_theory.proofs.Encoding.Header.{length-encode}
use Rattle.byte_records.proofs.Clear.{cleared_from}
use Rattle.answers.proofs.Fronts.{front-refused}
use Rattle.removal_check.proofs.Exact.{Exact, cleared-arena}

module _ (f : CountingType) (n : ℕ) where
  pub front-room : (arena : List ℕ) → n < length (encode f) → WrittenInFront (stored n f) (Err Room) arena
  front-room arena h = front-refused Room arena (rw (lt-ltb n (type_size * size f) (omega (arith, length-encode f))) refl)

  -- a whole type stands in the front of an arena that has room for it
  pub front-stored : (records : ℕ) (arena : List ℕ) → records ≡ size f → length (encode f) ≤ n → take (length (encode f)) arena ≡ encode f → WrittenInFront (stored n f) (Ok records) arena
  front-stored records arena k h e = rw (le-ltb n (type_size * size f) (omega (arith, length-encode f))) (record { outcome = ap accepted k; bytes = e })

  pub front_bytes : (arena : List ℕ) → length (encode f) ≤ n → take (length (encode f)) arena ≡ encode f → WrittenInFront (stored n f) (Ok (length (encode f) / type_size)) arena
  front_bytes arena = front-stored (length (encode f) / type_size) arena (omega (arith, length-encode f))

-- how many records a call answers, as the code reads it
count-is : (answered : Result ℕ Refusal) → (outcome_of answered).count ≡ result_unwrap_or answered 0
count-is (Ok n) = refl
count-is (Err Length) = refl
count-is (Err UnknownNumber) = refl
count-is (Err (Table fault place)) = refl
count-is (Err First) = refl
count-is (Err Second) = refl
count-is (Err Total) = refl
count-is (Err NotPart) = refl
count-is (Err Room) = refl

module _ {w : Written} {answered : Result ℕ Refusal} {arena : List ℕ} (exact : Exact w) (h : WrittenInFront w answered arena) where
  counts : w.outcome.count ≡ result_unwrap_or answered 0
  counts = ap (λ o. o.count) (sym h.outcome) ∙ count-is answered

  pub front_length : type_size * result_unwrap_or answered 0 ≤ length arena
  front_length =
      let e : length (take (length w.bytes) arena) ≡ length w.bytes = ap length h.bytes in
      omega (arith, exact, length-take (length w.bytes) arena, e, counts)

  -- the arena, cleared behind the type, and a working buffer of zeros
  pub front-cleared : (before cleared work zeroed : List ℕ) → length arena ≡ length before → cleared ≡ cleared_from arena (type_size * result_unwrap_or answered 0) →
      zeroed ≡ zeros (length work) → left_by answered cleared zeroed ≡ leaves w before work
  front-cleared before cleared work zeroed l e z =
      let c = e ∙ ap (λ n. cleared_from arena (type_size * n)) (sym counts) ∙ cleared-arena w arena (length before) exact l (rw exact at h.bytes) in
      λ i. record { outcome = h.outcome i; arena = c i; work = z i }
