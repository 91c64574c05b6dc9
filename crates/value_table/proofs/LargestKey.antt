-- A largest key: what is refused beside what call 1 refuses, and that call 1 itself never answers 17.
use mathlib.Core.Path.{◌≡◌, refl, ap, ◌∙◌, sym}
use mathlib.Core.Bool.{Bool, true, false, cond}
use mathlib.Core.List.{List, []}
use Prim.Native.Nat.{ℕ, zero, suc, ◌+◌, ◌≤◌, ◌<◌}
use native.Mathlib.Omega.{arith}
use lib.Dec.{eqb, ltb}
use lib.ListN.{length}
use borrow.Author.Tests.{le-ltb, eqb-true, eqb-false}
use Rattle.byte_records.specs.Number.{Bytes}
use Rattle.byte_records.proofs.Tests.{and-false}
use Rattle.value_table.specs.Value.{max_key, records, key_at, KeysUpTo}
use Rattle.value_table.specs.Outcome.{Outcome, accepted, refused}
use Rattle.value_table.specs.Judged.{Open, in_record, bad_length, bad_kind, bad_span, bad_key, too_large, repeated, too_many, too_deep, fault, fault_in, close, decide, walk, judged_up_to, judged}
use Rattle.value_table.specs.Acceptance.{AcceptsUpTo, JudgesAlike, NeverLarge}
use Rattle.value_table.proofs.Header.{key_at-below}
use Rattle.value_table.proofs.Faultless.{faultless}

not-large : (b : List ℕ) (largest i : ℕ) (field : Bool) → key_at b i ≤ largest → too_large largest b i field ≡ false
unfolding too_large
not-large b largest i field h = and-false field (ltb largest (key_at b i)) (λ e. le-ltb largest (key_at b i) h)

-- one of two numbers that are not 17
other : (t : Bool) (k x : ℕ) → (k ≡ 17 → ⊥) → (x ≡ 17 → ⊥) → cond t k x ≡ 17 → ⊥
other true k x f g e = f e
other false k x f g e = g e

fault-other : (b : List ℕ) (largest i end : ℕ) (field : Bool) (before : List ℕ) (depth : ℕ) → key_at b i ≤ largest → fault largest b i end field before depth ≡ 17 → ⊥
unfolding fault
fault-other b largest i end field before depth h e =
    let rest = other (repeated b i field before) 6 _ (λ z. omega arith) (other (too_many field (length before)) 15 _ (λ z. omega arith) (other (too_deep depth) 7 0 (λ z. omega arith) (λ z. omega arith))) in
    other (bad_kind b i) 3 _ (λ z. omega arith) (other (bad_span b i end) 4 _ (λ z. omega arith) (other (bad_key b i field) 5 _ (λ z. omega arith) (rw (not-large b largest i field h) rest))) e

module _ (b : List ℕ) (bytes : Bytes b) where
  key_below : (i : ℕ) → i < records b → key_at b i < 65536
  key_below i h = key_at-below b i bytes (omega arith)

  module _ (largest : ℕ) where
    walk-alike : (k i m : ℕ) (around : List Open) → KeysUpTo largest b → i + k ≡ records b → walk largest b k i around m ≡ walk max_key b k i around m
    unfolding walk fault_in fault
    walk-alike zero i m around h e = refl
    walk-alike (suc k) i m around h e =
        let here : i < records b = omega arith in
        rw (
          not-large b largest i (in_record (close i around)) (h i here),
          not-large b max_key i (in_record (close i around)) (omega (arith, key_below i here)),
          walk-alike k (i + 1) _ _ h (omega arith),
        ) refl

    -- every key passed the test on the way to acceptance
    decide-keys : (i end : ℕ) (around : List Open) (o : Outcome) (m : ℕ) → i < records b →
        (o ≡ accepted m → (j : ℕ) → i + 1 ≤ j → j < end → key_at b j ≤ largest) →
        (f : ℕ) → fault_in largest b i around ≡ f → decide f i o ≡ accepted m → (j : ℕ) → i ≤ j → j < end → key_at b j ≤ largest
    unfolding fault_in
    decide-keys i end around o m some later zero e q j l h = by (eqb j i) refl
      where
        by : (t : Bool) → eqb j i ≡ t → key_at b j ≤ largest
        by true z = rw (eqb-true j i z) (faultless largest b i _ _ _ _ (key_below i some) e).1
        by false z = later q j (omega (arith, eqb-false j i z)) h
    decide-keys i end around o m some later (suc f) e q j l h = absurd (omega (arith, ap (λ x. x.number) q))

    walk-keys : (k i m n : ℕ) (around : List Open) → i + k ≡ records b → walk largest b k i around m ≡ accepted n → (j : ℕ) → i ≤ j → j < records b → key_at b j ≤ largest
    unfolding walk
    walk-keys zero i m n around e q j l h = absurd (omega arith)
    walk-keys (suc k) i m n around e q j l h =
        decide-keys i (records b) (close i around) _ n (omega arith) (walk-keys k (i + 1) _ n _ (omega arith)) _ refl q j l h

  walk-other : (k i m : ℕ) (around : List Open) → i + k ≡ records b → (walk max_key b k i around m).number ≡ 17 → ⊥
  unfolding walk fault_in
  walk-other zero i m around e q = omega arith
  walk-other (suc k) i m around e q =
      by _ _ (fault-other b max_key i _ _ _ _ (omega (arith, key_below i (omega arith)))) (walk-other k (i + 1) _ _ (omega arith)) q
    where
      by : (f : ℕ) (o : Outcome) → (f ≡ 17 → ⊥) → (o.number ≡ 17 → ⊥) → (decide f i o).number ≡ 17 → ⊥
      by zero o g h q = h q
      by (suc f) o g h q = g q

pub judges-alike : JudgesAlike
unfolding judged judged_up_to
judges-alike largest b bytes h = ap (cond (bad_length (length b)) (refused 1 0)) (walk-alike b bytes largest (records b) 0 0 [] h (omega arith))

pub accepts-up-to : AcceptsUpTo
unfolding judged_up_to
accepts-up-to largest b n bytes = (
  λ q. let h = keys q in (sym (judges-alike largest b bytes h) ∙ q, h),
  λ p. judges-alike largest b bytes p.1 ∙ p.0,
)
  where
    keys : judged_up_to largest b ≡ accepted n → KeysUpTo largest b
    keys = by (bad_length (length b))
      where
        by : (t : Bool) → cond t (refused 1 0) (walk largest b (records b) 0 [] 0) ≡ accepted n → KeysUpTo largest b
        by true q = absurd (omega (arith, ap (λ x. x.number) q))
        by false q = λ i h. walk-keys b bytes largest (records b) 0 0 n [] (omega arith) q i (omega arith) h

pub never-large : NeverLarge
unfolding judged judged_up_to
never-large b bytes = by (bad_length (length b))
  where
    by : (t : Bool) → (cond t (refused 1 0) (walk max_key b (records b) 0 [] 0)).number ≡ 17 → ⊥
    by true q = omega arith
    by false q = walk-other b bytes (records b) 0 0 [] (omega arith) q
