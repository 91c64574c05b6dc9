-- Laws of numbers in bytes, over the width.
use mathlib.Core.Path.{◌≡◌, refl, sym, ap, ◌∙◌}
use mathlib.Core.List.{List, [], ◌∷◌}
use Prim.Native.Nat.{ℕ, zero, suc, ◌+◌, ◌*◌, ◌/◌, ◌%◌, ◌^◌, ◌<◌, ◌≤◌}
use native.Mathlib.Nat.{pow-suc, zero-add, add-zero, suc-add, one-mul, mul-suc, mul_comm, mul_assoc, div-add-mod', mod-lt, mod-eq_of_lt, one-le-pow, pow-le-pow_right, mul-le-mul_right}
use Rattle.std.proofs.lemmas.Nat.{pow-add}
use native.Mathlib.Numerals.{add-one}
use native.Mathlib.Omega.{arith}
use lib.Dec.{lit<}
use lib.ListN.{length, get_or}
use lib.Seq.{drop-cons}
use Rattle.byte_records.specs.Number.{bytes_of, number_of, number_at, Bytes}

pub length-bytes_of : (w n : ℕ) → length (bytes_of w n) ≡ w
unfolding bytes_of
length-bytes_of zero n = refl
length-bytes_of (suc w) n = ap suc (length-bytes_of w (n / 256))

pub number_of-bytes_of : (w n : ℕ) → n < 256 ^ w → number_of (bytes_of w n) ≡ n
unfolding bytes_of number_of
number_of-bytes_of zero n h = omega arith
number_of-bytes_of (suc w) n h = omega (arith, number_of-bytes_of w (n / 256) (omega arith), pow-suc 256 w)

pub number_of-below : (xs : List ℕ) → Bytes xs → number_of xs < 256 ^ length xs
unfolding number_of
number_of-below [] h = lit< tt
number_of-below (x ∷ xs) h = omega (arith, h 0, number_of-below xs (λ p. h (suc p)), pow-suc 256 (length xs))

pub bytes_of-number_of : (xs : List ℕ) → Bytes xs → bytes_of (length xs) (number_of xs) ≡ xs
unfolding bytes_of number_of
bytes_of-number_of [] h = refl
bytes_of-number_of (x ∷ xs) h =
    let low : (x + 256 * number_of xs) % 256 ≡ x = omega (arith, h 0) in
    let high : (x + 256 * number_of xs) / 256 ≡ number_of xs = omega (arith, h 0) in
    rw (low, high) (ap (λ ys. x ∷ ys) (bytes_of-number_of xs (λ p. h (suc p))))

-- what lies past the width has no bytes
pub bytes_past : (w y k : ℕ) → bytes_of w (y + 256 ^ w * k) ≡ bytes_of w y
unfolding bytes_of
bytes_past zero y k = refl
bytes_past (suc w) y k =
    let e : 256 ^ suc w * k ≡ 256 * (256 ^ w * k) = rw (pow-suc, mul_comm (256 ^ w) 256, mul_assoc) refl in
    let low : (y + 256 ^ suc w * k) % 256 ≡ y % 256 = omega arith in
    let high : (y + 256 ^ suc w * k) / 256 ≡ y / 256 + 256 ^ w * k = omega arith in
    rw (low, high) (ap (λ xs. y % 256 ∷ xs) (bytes_past w (y / 256) k))

-- n more than a number that was read from its bytes
pub bytes-more : (w m n : ℕ) → bytes_of w (number_of (bytes_of w m) + n) ≡ bytes_of w (m + n)
bytes-more w m n =
    let k = m / 256 ^ w in
    let y = m % 256 ^ w in
    let e : y + 256 ^ w * k ≡ m = omega (arith, div-add-mod' m (256 ^ w), mul_comm k (256 ^ w)) in
    let z : number_of (bytes_of w m) ≡ y = ap (λ x. number_of (bytes_of w x)) (sym e) ∙ ap number_of (bytes_past w y k) ∙ number_of-bytes_of w y (mod-lt m (one-le-pow w 256 (lit< tt))) in
    rw z (sym (bytes_past w (y + n) k) ∙ ap (bytes_of w) (omega arith))

-- a number of one byte more, from its lowest byte
pub number_at-suc : (w : ℕ) (b : List ℕ) (p : ℕ) → p < length b → number_at (suc w) b p ≡ get_or b p 0 + 256 * number_at w b (p + 1)
unfolding number_at number_of
number_at-suc w b p h = rw (add-one, drop-cons b p 0) refl

pub number_at-zero : (b : List ℕ) (p : ℕ) → number_at 0 b p ≡ 0
unfolding number_at number_of
number_at-zero b p = refl

-- a number in two parts
pub number_at-add : (v w : ℕ) (b : List ℕ) (p : ℕ) → p + v ≤ length b → number_at (v + w) b p ≡ number_at v b p + 256 ^ v * number_at w b (p + v)
number_at-add zero w b p h = rw (zero-add, add-zero, number_at-zero, one-mul, zero-add) refl
number_at-add (suc v) w b p h =
    let e : p + 1 + v ≡ p + suc v = omega arith in
    let t = rw e at (number_at-add v w b (p + 1) (omega arith)) in
    let q : 256 ^ suc v * number_at w b (p + suc v) ≡ 256 * (256 ^ v * number_at w b (p + suc v)) = rw (pow-suc, mul_comm (256 ^ v) 256, mul_assoc) refl in
    rw suc-add (omega (arith, t, q, number_at-suc (v + w) b p (omega arith), number_at-suc v b p (omega arith)))

-- a number of one byte
pub number_at-one : (b : List ℕ) (p : ℕ) → number_at 1 b p ≡ get_or b p 0
unfolding number_at number_of
number_at-one [] zero = refl
number_at-one [] (suc p) = refl
number_at-one (x ∷ b) zero = omega arith
number_at-one (x ∷ b) (suc p) = number_at-one b p

-- a byte's place, as a shift
shift-place : (k : ℕ) → 2 ^ (8 * k) ≡ 256 ^ k
shift-place zero = refl
shift-place (suc k) = rw (mul-suc 8 k, pow-add 2 (8 * k) 8, shift-place k, pow-suc 256 k) refl

pub read_room : (k : ℕ) → k ≤ 8 → 256 ^ k ≤ 256 ^ 8
read_room k h = let least : 1 ≤ 256 = lit< tt in pow-le-pow_right least {i = k} {j = 8} h

-- n is the number in the k bytes from p
abbrev pub Read : ℕ → List ℕ → ℕ → ℕ → Type 0
Read n b p k = (n ≡ number_at k b p) × (n < 256 ^ k)

-- one byte more, shifted to its place above them
pub read_more : (n : ℕ) (b : List ℕ) (p k : ℕ) → k < 8 → p + k < length b → get_or b (p + k) 0 < 256 → Read n b p k → Read (n + get_or b (p + k) 0 * 2 ^ (8 * k) % 2 ^ 64) b p (k + 1)
read_more n b p k h l m r =
    let x = get_or b (p + k) 0 in
    let room : 256 ^ (k + 1) ≤ 256 ^ 8 = read_room (k + 1) (omega arith) in
    let next : 256 ^ (k + 1) ≡ 256 ^ k * 256 = rw add-one (pow-suc 256 k) in
    let some : (x + 1) * 256 ^ k ≤ 256 * 256 ^ k = mul-le-mul_right (256 ^ k) (omega arith) in
    let whole : x * 256 ^ k % 2 ^ 64 ≡ x * 256 ^ k = mod-eq_of_lt (omega arith) in
    let v : number_at (k + 1) b p ≡ number_at k b p + 256 ^ k * x = rw (← number_at-one b (p + k)) (number_at-add k 1 b p (omega arith)) in
    rw (shift-place k, whole) (omega arith, omega arith)
