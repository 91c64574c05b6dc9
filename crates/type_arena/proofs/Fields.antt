-- The keys of the fields inside a checked record, of any layout.
use Rattle.std.proofs.Common.{◌≡◌, ℕ, zero, suc, ◌+◌, ◌-◌, ◌*◌, ◌<◌, ◌≤◌, List, ◌∷◌, refl, ap, le_refl, arith, le-ltb, lt-ltb}
use Rattle.std.proofs.Math.Nat.{mul-le-mul_left, mul-le-mul_right}
use Rattle.byte_records.specs.Inside.Chain.{Chain, done, next}
use Rattle.byte_records.proofs.Chain.{chain-le}
use Rattle.type_arena.specs.Inside.Layout.{Reader, keys_by, keys_inside, FieldsBy}

-- record a of n records that stand in m bytes
pub record-in : (size n : ℕ) {m : ℕ} (a : ℕ) → size * n ≤ m → a < n → size * a + size ≤ m
record-in size n a h l = let k : size * (a + 1) ≤ size * n = mul-le-mul_left size (omega arith) in omega (arith, k)

pub records-in : (size n : ℕ) {m : ℕ} → 1 ≤ size → size * n ≤ m → n ≤ m
records-in size n h k = let j : 1 * n ≤ size * n = mul-le-mul_right n h in omega (arith, j)

module _ (key span : Reader) (b : List ℕ) where
  chain-keys : {end p : ℕ} {ks : List ℕ} (k : ℕ) → end - p ≤ k → Chain (span b) (key b) end p ks → keys_by key span b k p end ≡ ks
  unfolding keys_by
  chain-keys zero l done = refl
  chain-keys {end = end} (suc k) l done = rw (le-ltb end end (le_refl end), keys_by) refl
  chain-keys zero l (next {p = p} m s h) = absurd (omega arith)
  chain-keys {end = end} (suc k) l (next {p = p} m s h) = rw (lt-ltb p end m, keys_by) (ap (λ xs. key b p ∷ xs) (chain-keys {p = p + span b p} k (omega (arith, chain-le h)) h))

module _ {size : ℕ} {key span : Reader} {b : List ℕ} {p : ℕ} (w : FieldsBy size key span b p) where
  pub inside-keys : keys_inside key span b p ≡ w.keys
  inside-keys = chain-keys key span b _ (omega arith) w.chain

  pub inside-chain : Chain (span b) (key b) (p + span b p) (p + 1) (keys_inside key span b p)
  inside-chain = rw inside-keys w.chain
