-- Slots in bytes: one that is chosen, read or stored, and all of them cleared.
use mathlib.Core.Path.{◌≡◌, sym, ◌∙◌, ap}
use mathlib.Core.List.{List}
use Prim.Native.Nat.{ℕ, ◌+◌, ◌*◌, ◌/◌, ◌%◌, ◌^◌, ◌≤◌, ◌<◌}
use native.Mathlib.Nat.{mul-le-mul_right, mul-lt-mul_of_pos_right}
use native.Mathlib.Omega.{arith}
use lib.ListN.{length, get_or, set, replicate}
use lib.Seq.{sets, length-sets}
use Rattle.byte_records.specs.Number.{bytes_of, number_at}
use Rattle.byte_records.specs.Inside.Numbers.{numbers_of}
use Rattle.gathering.specs.Inside.Gathering.{slot_size, slots_of}
use Rattle.byte_records.proofs.Numbers.{length-numbers, numbers-at, numbers-zero, numbers-set}

-- a hash of 16 bits, scaled to the number of slots
module _ (x n : ℕ) where
  pub scaled_fits : n ≤ 4096 → x % 65536 * n < 2 ^ 64
  scaled_fits h = omega (arith, mul-le-mul_right {m = x % 65536} {n = 65536} n (omega arith))

  pub scaled-below : 0 < n → x % 65536 * n / 65536 < n
  scaled-below h = omega (arith, mul-lt-mul_of_pos_right {m = x % 65536} {n = 65536} {k = n} (omega arith) h)

pub length-slots : (s : List ℕ) → length (slots_of s) ≡ length s / slot_size
length-slots s = length-numbers slot_size (length s / slot_size) s

pub slot_read : (s : List ℕ) (k : ℕ) → slot_size * (k + 1) ≤ length s → number_at slot_size s (slot_size * k) ≡ get_or (slots_of s) k 0
unfolding number_at
slot_read s k h = sym (numbers-at slot_size (length s / slot_size) k s (omega arith))

pub slot-put : (s : List ℕ) (k v : ℕ) → v < 2 ^ 64 → slot_size * (k + 1) ≤ length s → slots_of (sets s (slot_size * k) (bytes_of slot_size v)) ≡ set (slots_of s) k v
slot-put s k v small h =
    rw (length-sets s (slot_size * k) (bytes_of slot_size v)) (numbers-set slot_size v small (length s / slot_size) k s (omega arith) (omega arith))

pub slots-cleared : (s : List ℕ) (n : ℕ) → s ≡ replicate n 0 → slots_of s ≡ replicate (length s / slot_size) 0
slots-cleared s n e = ap (numbers_of slot_size (length s / slot_size)) e ∙ numbers-zero slot_size (length s / slot_size) n
