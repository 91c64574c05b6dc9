-- Laws of the latest record of each bucket of keys: the walk keeps it, and it rules out a repeated key.
use mathlib.Core.Path.{◌≡◌, refl, sym, ap, ◌∙◌}
use mathlib.Core.Bool.{Bool, true, false}
use mathlib.Core.List.{List}
use mathlib.Core.Logic.{⊎_elim}
use Prim.Native.Nat.{ℕ, ◌+◌, ◌%◌, ◌≤◌, ◌<◌}
use native.Mathlib.Omega.{arith}
use native.Mathlib.Nat.{le_refl, eq-or-lt_of_le}
use lib.Dec.{eqb}
use lib.ListN.{length, get_or, set, length-set}
use lib.Seq.{get_or-set_same, get_or-set_other}
use borrow.Author.Tests.{eqb-true, eqb-false}
use Rattle.std.specs.Prelude.{Some}
use Rattle.value_table.specs.Value.{key_at, member}
use Rattle.value_table.specs.Judged.{repeated}
use Rattle.byte_records.specs.Inside.Chain.{Chain, done, next}
use Rattle.value_table.specs.Inside.EarlierFields.{FieldsBefore, field, key_buckets, Latest}
use Rattle.value_table.proofs.EarlierFields.{member-tail}

-- a bound of what stands at j holds after a larger number is stored at i
set-upto : (l : List ℕ) (i j x a : ℕ) → i < length l → a ≤ x → ((j ≡ i → ⊥) → a ≤ get_or l j 0) → a ≤ get_or (set l i x) j 0
set-upto l i j x a inside le old = by (eqb j i) refl
  where
    by : (t : Bool) → eqb j i ≡ t → a ≤ get_or (set l i x) j 0
    by true e = rw (eqb-true j i e, get_or-set_same l i x 0 inside) le
    by false e = rw (get_or-set_other l i j x 0 (eqb-false j i e)) (old (eqb-false j i e))

-- a key that no record from p on has is none of the siblings'
unseen : {span key : ℕ → ℕ} {i p k : ℕ} {ks : List ℕ} → ((q : ℕ) → p ≤ q → q < i → k ≡ key q → ⊥) → Chain span key i p ks → member k ks ≡ false
unfolding member
unseen n done = refl
unseen n (next {p = p} {ks = ks} l s h) = member-tail ks (n p (le_refl p) l) ∙ unseen (λ q m. n q (omega arith)) h

module _ {b : List ℕ} {i : ℕ} where
  pub unrepeated-latest : {latest : List ℕ} {first : ℕ} {f : Bool} {ks : List ℕ} → Latest b i latest → get_or latest (key_at b i % key_buckets) 0 < first → FieldsBefore b i (Some first) f ks → false ≡ repeated b i f ks
  unfolding repeated
  unrepeated-latest {latest} w l (field h) = sym (unseen (λ q p u e. absurd (omega (arith, w.upto q u, ap (λ k. get_or latest (k % key_buckets) 0) e))) h)

  pub latest-next : {latest : List ℕ} → Latest b i latest → Latest b (i + 1) (set latest (key_at b i % key_buckets) i)
  latest-next {latest} w = record { buckets = simp length-set w.buckets; upto = λ q l. set-upto latest _ _ i q (omega (arith, w.buckets)) (omega arith) (λ n. w.upto q (before q l n)) }
    where
      before : (q : ℕ) → q < i + 1 → (key_at b q % key_buckets ≡ key_at b i % key_buckets → ⊥) → q < i
      before q l n = ⊎_elim (λ e. absurd (n (ap (λ r. key_at b r % key_buckets) e))) (λ m. m) (eq-or-lt_of_le {n = q} {m = i} (omega arith))

pub latest-start : (b latest : List ℕ) → length latest ≡ key_buckets → Latest b 0 latest
latest-start b latest e = record { buckets = e; upto = λ q l. absurd (omega arith) }
