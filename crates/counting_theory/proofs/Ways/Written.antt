-- A call that writes f, no larger than the profile t of all the messages: the way ends there, as t says, or goes on.
use mathlib.Core.Path.{◌≡◌, refl, sym, ◌∙◌, ap}
use mathlib.Core.Bool.{Bool, true, false, cond, true≢false}
use mathlib.Core.List.{List, [], ◌∷◌, ◌++◌}
use mathlib.Core.Logic.{inl, inr}
use Prim.Native.Nat.{ℕ, ◌*◌, ◌-◌, ◌<◌}
use native.Mathlib.Omega.{arith}
use lib.Dec.{ltb}
use lib.ListN.{length, take}
use lib.Seq.{take_at}
use borrow.Author.Tests.{ltb-true, ltb-false}
use Rattle.byte_records.specs.Number.{zeros}
use Rattle.value_table.specs.Outcome.{accepted}
use Rattle.counting_theory.specs.Trie.{size}
use Rattle.counting_theory.specs.Inside.TrieLaws.{NoLarger}
use Rattle.counting_theory.specs.Label.{Counting, CountingType}
use Rattle.counting_theory.specs.Encoding.{type_size, encode}
use Rattle.counting_theory.specs.WellFormed.{within_limit}
use Rattle.counting_theory.specs.Answers.{Left, leaves, Written, turned_down, merged_types}
use Rattle.counting_theory.specs.Ways.{go_on, WithinLimits, Ends}
use Rattle.counting_theory.proofs.Encoding.Header.{length-encode}
use Rattle.counting_theory.proofs.WellFormed.Limit.{limit-part}

not-true : (b : Bool) → ¬ (b ≡ true) → b ≡ false
not-true true h = absurd (h refl)
not-true false h = refl

-- the records in use of an arena that begins with the type f
pub bytes-in-use : (f : CountingType) (rest : List ℕ) → take (type_size * size f) (encode f ++ rest) ≡ encode f
bytes-in-use f rest = take_at (encode f) rest (type_size * size f) (length-encode f)

-- what comes after the call that wrote f: nothing, and f is all, or the calls that end as t says
abbrev pub After : ℕ → CountingType → CountingType → List Left → Type 0
After n t f [] = f ≡ t
After n t f (l ∷ ls) = Ends n t (l ∷ ls)

module _ (n : ℕ) (t f : CountingType) (arena work : List ℕ) (fixed : length arena ≡ n) where
  abbrev taken : Written
  taken = record { outcome = accepted (size f); bytes = encode f }

  accepted-ends : WithinLimits n f → (ls : List Left) → After n t f ls → Ends n t (leaves taken arena work ∷ ls)
  accepted-ends h [] i = inl (rw i at h, (ap (λ g. accepted (size g)) i, rw (fixed, i) refl))
  accepted-ends h (l ∷ ls) i = (refl, i)

  module _ (rest : List ℕ → List Left) (part : NoLarger Counting f t) (later : WithinLimits n f → After n t f (rest (encode f))) where
    pub written-ends : Ends n t (go_on (leaves (merged_types f n) arena work) rest)
    unfolding go_on
    written-ends = go (within_limit f) (ltb n (type_size * size f)) refl refl
      where
        blank : zeros (length arena - 0) ≡ zeros n
        blank = let k : length arena - 0 ≡ n = omega arith in ap zeros k

        go : (a b : Bool) → within_limit f ≡ a → ltb n (type_size * size f) ≡ b →
            let w = cond a (cond b (turned_down 11 0) taken) (turned_down 10 0) in
            Ends n t (go_on (leaves w arena work) rest)
        go false b i j =
            let over : ¬ (within_limit t ≡ true) = λ h. true≢false (sym (limit-part f t part h) ∙ i) in
            inr (λ h. over h.0, (inl (refl, not-true (within_limit t) over), blank))
        go true true i j =
            let over : n < type_size * size t = omega (arith, ltb-true n (type_size * size f) j) in
            inr (λ h. omega (arith, h.1), (inr (refl, over), blank))
        go true false i j =
            let h : WithinLimits n f = (i, ltb-false _ _ j) in
            rw (bytes-in-use f (zeros (length arena - length (encode f)))) (accepted-ends h (rest (encode f)) (later h))
