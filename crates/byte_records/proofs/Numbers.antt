-- Numbers of one width that stand in bytes one after the other: their parts, one of them, and a store of one.
use mathlib.Core.Path.{◌≡◌, refl, sym, ◌∙◌, ap}
use mathlib.Core.List.{List, [], ◌∷◌, ◌++◌}
use Prim.Native.Nat.{ℕ, zero, suc, ◌+◌, ◌*◌, ◌-◌, ◌^◌, ◌≤◌, ◌<◌}
use native.Mathlib.Nat.{zero-add, suc-add, add-suc, add_comm, mul-zero, mul-suc}
use native.Mathlib.Omega.{arith}
use lib.ListN.{length, take, drop, get_or, set, replicate, take-append-drop, length-drop}
use lib.Seq.{drop-drop, length-take-le, take-append-le, drop-append-le, take_at, drop_at, take-set-le, drop-set-add, sets, sets-eq}
use Rattle.byte_records.specs.Number.{zeros, bytes_of, number_of, number_at}
use Rattle.byte_records.proofs.Number.{length-bytes_of, number_of-bytes_of}
use Rattle.byte_records.specs.Inside.Numbers.{numbers_of}

pub get_or-zeros : (n i : ℕ) → get_or (zeros n) i 0 ≡ 0
get_or-zeros zero i = refl
get_or-zeros (suc n) zero = refl
get_or-zeros (suc n) (suc i) = get_or-zeros n i

module _ (width : ℕ) where
  next-at : (i : ℕ) → width * suc i ≡ width + width * i
  next-at i = mul-suc width i ∙ add_comm (width * i) width

  pub length-numbers : (n : ℕ) (w : List ℕ) → length (numbers_of width n w) ≡ n
  unfolding numbers_of
  length-numbers zero w = refl
  length-numbers (suc n) w = ap suc (length-numbers n (drop width w))

  pub numbers-append : (p m : ℕ) (xs ys : List ℕ) → length xs ≡ width * p → numbers_of width (p + m) (xs ++ ys) ≡ numbers_of width p xs ++ numbers_of width m ys
  unfolding numbers_of
  numbers-append zero m [] ys e = rw zero-add refl
  numbers-append zero m (x ∷ xs) ys e = absurd (omega arith)
  numbers-append (suc p) m xs ys e =
      let h : width ≤ length xs = omega (arith, next-at p) in
      let r : length (drop width xs) ≡ width * p = omega (arith, next-at p, length-drop width xs) in
      rw (suc-add, take-append-le width xs ys h, drop-append-le width xs ys h, numbers-append p m (drop width xs) ys r) refl

  pub numbers-front : (m : ℕ) (xs ys : List ℕ) → length xs ≡ width * m → numbers_of width m (xs ++ ys) ≡ numbers_of width m xs
  unfolding numbers_of
  numbers-front zero xs ys e = refl
  numbers-front (suc m) xs ys e =
      let h : width ≤ length xs = omega (arith, next-at m) in
      let r : length (drop width xs) ≡ width * m = omega (arith, next-at m, length-drop width xs) in
      rw (take-append-le width xs ys h, drop-append-le width xs ys h, numbers-front m (drop width xs) ys r) refl

  pub numbers-cut : (m : ℕ) (w : List ℕ) → width * m ≤ length w → numbers_of width m (take (width * m) w) ≡ numbers_of width m w
  numbers-cut m w h =
      sym (numbers-front m (take (width * m) w) (drop (width * m) w) (length-take-le (width * m) w h)) ∙ ap (numbers_of width m) (take-append-drop (width * m) w)

  pub numbers-first : (n p : ℕ) (w : List ℕ) → p ≤ n → take p (numbers_of width n w) ≡ numbers_of width p w
  unfolding numbers_of
  numbers-first n zero w h = refl
  numbers-first zero (suc p) w h = absurd (omega arith)
  numbers-first (suc n) (suc p) w h = ap (λ ks. number_of (take width w) ∷ ks) (numbers-first n p (drop width w) (omega arith))

  -- what is left behind p numbers
  pub numbers-rest : (n p : ℕ) (w : List ℕ) → p ≤ n → drop p (numbers_of width n w) ≡ numbers_of width (n - p) (drop (width * p) w)
  unfolding numbers_of
  numbers-rest n zero w h = let e : n - 0 ≡ n = omega arith in rw (e, mul-zero) refl
  numbers-rest zero (suc p) w h = absurd (omega arith)
  numbers-rest (suc n) (suc p) w h =
      let e : suc n - suc p ≡ n - p = omega arith in
      rw (e, next-at p, ← drop-drop (width * p) width w) (numbers-rest n p (drop width w) (omega arith))

  pub numbers-at : (n i : ℕ) (w : List ℕ) → i < n → get_or (numbers_of width n w) i 0 ≡ number_at width w (width * i)
  unfolding numbers_of number_at
  numbers-at zero i w h = absurd (omega arith)
  numbers-at (suc n) zero w h = rw mul-zero refl
  numbers-at (suc n) (suc i) w h = rw (next-at i, ← drop-drop (width * i) width w) (numbers-at n i (drop width w) (omega arith))

  -- zeros in bytes are numbers that are 0
  zeros-first : (k m : ℕ) → number_of (take k (replicate {A = ℕ} m 0)) ≡ 0
  unfolding number_of
  zeros-first zero m = refl
  zeros-first (suc k) zero = refl
  zeros-first (suc k) (suc m) = omega (arith, zeros-first k m)

  zeros-rest : (k m : ℕ) → drop k (replicate {A = ℕ} m 0) ≡ replicate (m - k) 0
  zeros-rest zero m = let e : m - 0 ≡ m = omega arith in rw e refl
  zeros-rest (suc k) zero = let e : 0 - suc k ≡ 0 = omega arith in rw e refl
  zeros-rest (suc k) (suc m) = let e : suc m - suc k ≡ m - k = omega arith in rw e (zeros-rest k m)

  pub numbers-zero : (n m : ℕ) → numbers_of width n (replicate m 0) ≡ replicate n 0
  unfolding numbers_of
  numbers-zero zero m = refl
  numbers-zero (suc n) m = rw (zeros-first width m, zeros-rest width m, numbers-zero n (m - width)) refl

-- stores behind the first k elements
sets-take : (k i : ℕ) (vs l : List ℕ) → take k (sets l (k + i) vs) ≡ take k l
sets-take k i [] l = refl
sets-take k i (v ∷ vs) l = rw add-suc at (sets-take k (suc i) vs (set l (k + i) v)) ∙ take-set-le k l (k + i) v (omega arith)

pub sets-drop : (k i : ℕ) (vs l : List ℕ) → drop k (sets l (k + i) vs) ≡ sets (drop k l) i vs
sets-drop k i [] l = refl
sets-drop k i (v ∷ vs) l = rw add-suc at (sets-drop k (suc i) vs (set l (k + i) v)) ∙ ap (λ x. sets x (suc i) vs) (drop-set-add k l i v)

module _ (width v : ℕ) (small : v < 256 ^ width) where
  first-set : (n : ℕ) (w : List ℕ) → width ≤ length w → numbers_of width (suc n) (sets w 0 (bytes_of width v)) ≡ set (numbers_of width (suc n) w) 0 v
  unfolding numbers_of
  first-set n w h =
      let z = length-bytes_of width v in
      let e : sets w 0 (bytes_of width v) ≡ bytes_of width v ++ drop width w =
      sets-eq (bytes_of width v) w 0 (omega arith) ∙ rw (z, zero-add) refl in
      rw (e, take_at (bytes_of width v) (drop width w) width z, drop_at (bytes_of width v) (drop width w) width z, number_of-bytes_of width v small) refl

  -- number k is stored anew
  pub numbers-set : (n k : ℕ) (w : List ℕ) → k < n → width * n ≤ length w → numbers_of width n (sets w (width * k) (bytes_of width v)) ≡ set (numbers_of width n w) k v
  unfolding numbers_of
  numbers-set zero k w h l = absurd (omega arith)
  numbers-set (suc n) zero w h l = rw mul-zero (first-set n w (omega (arith, next-at width n)))
  numbers-set (suc n) (suc k) w h l =
      let b = bytes_of width v in
      rw (
        next-at width k,
        sets-take width (width * k) b w,
        sets-drop width (width * k) b w,
        numbers-set n k (drop width w) (omega arith) (omega (arith, next-at width n, length-drop width w)),
      ) refl
