-- Bytes that are compared as numbers, and a number's higher bytes.
use mathlib.Core.Path.{◌≡◌, ap, ◌∙◌}
use mathlib.Core.List.{List}
use Prim.Native.Nat.{ℕ, zero, suc, ◌+◌, ◌*◌, ◌-◌, ◌/◌, ◌^◌, ◌≤◌, ◌<◌}
use native.Mathlib.Nat.{zero-add, add-zero, suc-add, div-one}
use native.Mathlib.Omega.{arith}
use lib.ListN.{length, get_or}
use lib.Pow.{shr-shr}
use Rattle.byte_records.specs.Number.{number_at, Bytes}
use Rattle.byte_records.proofs.Number.{number_at-suc, number_at-zero}

-- w bytes and w + v bytes that give one number: the first w are the same, and the others zeros
module _ (a b : List ℕ) (bytes_a : Bytes a) (bytes_b : Bytes b) where
  next-byte : (w v x y : ℕ) → x + suc w ≤ length a → y + (suc w + v) ≤ length b → number_at (suc w) a x ≡ number_at (suc w + v) b y →
      (get_or b y 0 ≡ get_or a x 0) × (number_at w a (x + 1) ≡ number_at (w + v) b (y + 1))
  next-byte w v x y l m e =
      let p = number_at-suc w a x (omega arith) in
      let q : number_at (suc w + v) b y ≡ get_or b y 0 + 256 * number_at (w + v) b (y + 1) = rw suc-add (number_at-suc (w + v) b y (omega arith)) in
      (omega (arith, bytes_a x, bytes_b y), omega (arith, bytes_a x, bytes_b y))

  pub word_bytes : (w v x y : ℕ) → x + w ≤ length a → y + (w + v) ≤ length b → number_at w a x ≡ number_at (w + v) b y →
      (j : ℕ) → j < w → get_or b (y + j) 0 ≡ get_or a (x + j) 0
  word_bytes zero v x y l m e j n = absurd (omega arith)
  word_bytes (suc w) v x y l m e zero n = rw (add-zero, add-zero) (next-byte w v x y l m e).0
  word_bytes (suc w) v x y l m e (suc j) n =
      let p : x + suc j ≡ x + 1 + j = omega arith in
      let q : y + suc j ≡ y + 1 + j = omega arith in
      rw (p, q) (word_bytes w v (x + 1) (y + 1) (omega arith) (omega arith) (next-byte w v x y l m e).1 j (omega arith))

  pub word_end : (w v x y : ℕ) → x + w ≤ length a → y + (w + suc v) ≤ length b → number_at w a x ≡ number_at (w + suc v) b y → get_or b (y + w) 0 ≡ 0
  word_end zero v x y l m e = rw add-zero (omega (arith, number_at-zero a x, rw zero-add at e, number_at-suc v b y (omega arith)))
  word_end (suc w) v x y l m e =
      let q : y + suc w ≡ y + 1 + w = omega arith in
      rw q (word_end w v (x + 1) (y + 1) (omega arith) (omega arith) (next-byte w (suc v) x y l m e).1)

-- without its lowest byte, and without v of them
module _ (b : List ℕ) (bytes : Bytes b) where
  without-first : (w p : ℕ) → p + suc w ≤ length b → number_at (suc w) b p / 256 ≡ number_at w b (p + 1)
  without-first w p l = omega (arith, bytes p, number_at-suc w b p (omega arith))

  shifted : (v w p : ℕ) → p + (v + w) ≤ length b → number_at (v + w) b p / 2 ^ (8 * v) ≡ number_at w b (p + v)
  shifted zero w p l = rw (zero-add, add-zero) (div-one _)
  shifted (suc v) w p l =
      let e : 8 * suc v ≡ 8 + 8 * v = omega arith in
      let q : p + suc v ≡ p + 1 + v = omega arith in
      rw (e, suc-add, ← shr-shr (number_at (suc (v + w)) b p) 8 (8 * v), without-first (v + w) p (omega arith), q) (shifted v w (p + 1) (omega arith))

  -- the bytes from p to q, of the eight before q
  pub last-bytes : (p q : ℕ) → p ≤ q → q < p + 8 → 8 ≤ q → q ≤ length b → number_at 8 b (q - 8) / 256 / 2 ^ (8 * (7 - (q - p))) ≡ number_at (q - p) b p
  last-bytes p q l m n u =
      let v = 7 - (q - p) in
      let e : 7 ≡ v + (q - p) = omega arith in
      let z : q - 8 + 1 + v ≡ p = omega arith in
      ap (λ (x : ℕ). x / 2 ^ (8 * v)) (without-first 7 (q - 8) (omega arith) ∙ ap (λ (w : ℕ). number_at w b (q - 8 + 1)) e)
      ∙ shifted v (q - p) (q - 8 + 1) (omega arith)
      ∙ ap (number_at (q - p) b) z
