-- The number of digits: what its divisions come to, and that it is the digit number.
use mathlib.Core.Path.{◌≡◌, refl, sym, ap, ◌∙◌}
use mathlib.Core.List.{List, [], ◌∷◌, ◌++◌}
use Prim.Native.Nat.{ℕ, zero, suc, ◌+◌, ◌-◌, ◌*◌, ◌/◌, ◌%◌, ◌^◌, ◌≤◌, ◌<◌}
use native.Mathlib.Nat.{div-one, pow-suc, one-le-pow, mul_comm, div-div-eq-div-mul, lt_of_not-le}
use native.Mathlib.Omega.{arith}
use lib.ListN.{length, set}
use lib.Seq.{sets}
use Rattle.byte_records.proofs.Sets.{sets_last}
use Rattle.report.specs.Decimal.{divisions, digit_count, digits, spelled, HasDigits, CountsDigits}

-- any bound that is not below n will do
enough : (k m n : ℕ) → n ≤ k → n ≤ m → divisions k n ≡ divisions m n
unfolding divisions
enough zero zero n a b = refl
enough zero (suc m) zero a b = refl
enough zero (suc m) (suc n) a b = absurd (omega arith)
enough (suc k) zero zero a b = refl
enough (suc k) zero (suc n) a b = absurd (omega arith)
enough (suc k) (suc m) zero a b = refl
enough (suc k) (suc m) (suc n) a b = ap (λ (d : ℕ). 1 + d) (enough k m (suc n / 10) (omega arith) (omega arith))

pub division : (n : ℕ) → 0 < n → divisions n n ≡ 1 + divisions (n / 10) (n / 10)
unfolding divisions
division zero h = absurd (omega arith)
division (suc n) h = ap (λ (d : ℕ). 1 + d) (enough n (suc n / 10) (suc n / 10) (omega arith) (omega arith))

pub first-division : (n : ℕ) → digit_count n ≡ 1 + divisions (n / 10) (n / 10)
unfolding digit_count divisions
first-division zero = refl
first-division (suc n) = division (suc n) (omega arith)

-- below 10^d there are at most d divisions, from 10^d on there are more
at_most : (k n d : ℕ) → n < 10 ^ d → divisions k n ≤ d
unfolding divisions
at_most zero n d h = omega arith
at_most (suc k) zero d h = omega arith
at_most (suc k) (suc n) zero h = absurd (omega arith)
at_most (suc k) (suc n) (suc d) h = omega (arith, at_most k (suc n / 10) d (omega (arith, pow-suc 10 d)))

more : (k n d : ℕ) → n ≤ k → 10 ^ d ≤ n → d < divisions k n
unfolding divisions
more zero n d m h = absurd (omega (arith, one-le-pow d 10 (omega arith)))
more (suc k) zero d m h = absurd (omega (arith, one-le-pow d 10 (omega arith)))
more (suc k) (suc n) zero m h = omega arith
more (suc k) (suc n) (suc d) m h = omega (arith, more k (suc n / 10) d (omega arith) (omega (arith, pow-suc 10 d)))

pub one-digit : (n : ℕ) → 1 ≤ digit_count n
one-digit n = omega (arith, first-division n)

pub digits-at-most : (n d : ℕ) → 1 ≤ d → n < 10 ^ d → digit_count n ≤ d
unfolding digit_count
digits-at-most zero d a h = a
digits-at-most (suc n) d a h = at_most (suc n) (suc n) d h

more-digits : (n d : ℕ) → 10 ^ d ≤ n → d < digit_count n
unfolding digit_count
more-digits zero d h = absurd (omega (arith, one-le-pow d 10 (omega arith)))
more-digits (suc n) d h = more (suc n) (suc n) d (omega arith) h

pub length_digits : (d n : ℕ) → length (digits d n) ≡ d
unfolding digits
length_digits zero n = refl
length_digits (suc d) n = ap suc (length_digits d n)

-- the last digit stands behind those of a tenth
digits_last : (d n : ℕ) → digits (suc d) n ≡ digits d (n / 10) ++ ((48 + n % 10) ∷ [])
unfolding digits
digits_last zero n = rw (div-one n) refl
digits_last (suc d) n =
    let e : n / 10 ^ suc d ≡ n / 10 / 10 ^ d = rw (pow-suc 10 d, mul_comm (10 ^ d) 10) (sym (div-div-eq-div-mul n 10 (10 ^ d))) in
    rw (e, digits_last d n) refl

-- and may be stored before them
pub digit-stored : (d n : ℕ) (s : List ℕ) (p : ℕ) → 0 < d → sets (set s (p + (d - 1)) (48 + n % 10)) p (digits (d - 1) (n / 10)) ≡ sets s p (digits d n)
digit-stored zero n s p h = absurd (omega arith)
digit-stored (suc d) n s p h =
    let e : suc d - 1 ≡ d = omega arith in
    let stored = rw (length_digits d (n / 10)) at (sets_last (digits d (n / 10)) ((48 + n % 10) ∷ []) s p) in
    rw (e, digits_last d n) stored

spelled-last : (m c : ℕ) (xs : List ℕ) → spelled m (xs ++ (c ∷ [])) ≡ 10 * spelled m xs + (c - 48)
unfolding spelled
spelled-last m c [] = refl
spelled-last m c (x ∷ xs) = spelled-last (10 * m + (x - 48)) c xs

-- d digits are enough for what is below 10^d
digits-spell : (d n : ℕ) → n < 10 ^ d → spelled 0 (digits d n) ≡ n
unfolding spelled digits
digits-spell zero n h = omega arith
digits-spell (suc d) n h =
    rw (digits_last d n, spelled-last 0 (48 + n % 10) (digits d (n / 10)))
    (omega (arith, digits-spell d (n / 10) (omega (arith, pow-suc 10 d))))

below : (n : ℕ) → n < 10 ^ digit_count n
below n = lt_of_not-le (λ h. omega (arith, more-digits n (digit_count n) h))

module _ (n : ℕ) (a : 1 ≤ n) where
  divided : digit_count n ≡ divisions n n
  divided = first-division n ∙ sym (division n a)

  has : HasDigits n (digit_count n)
  has =
      let d : ℕ = digit_count n in
      let least : 10 ^ (d - 1) < suc n = lt_of_not-le (λ h. omega (arith, at_most n n (d - 1) h, divided, one-digit n)) in
      (omega (arith, least), below n)

  only : (d : ℕ) → HasDigits n d → digit_count n ≡ d
  only zero h = absurd (omega (arith, h.1))
  only (suc d) h =
      let e : suc d - 1 ≡ d = omega arith in
      omega (arith, digits-at-most n (suc d) (omega arith) h.1, more-digits n d (rw e at h.0))

pub counts-digits : CountsDigits
counts-digits = record {
  digit-number = λ n d a. ((λ e. rw e at (has n a)), only n a d);
  decimal-length = λ n. length_digits (digit_count n) n;
  decimal-spells = λ n. digits-spell (digit_count n) n (below n);
}
