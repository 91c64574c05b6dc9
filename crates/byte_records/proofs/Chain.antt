-- Laws of siblings that spans lead through.
use mathlib.Core.Path.{◌≡◌, refl}
use mathlib.Core.List.{List, [], ◌∷◌, ◌++◌}
use Prim.Native.Nat.{ℕ, ◌+◌, ◌≤◌}
use native.Mathlib.Nat.{le_refl}
use native.Mathlib.Omega.{arith}
use Rattle.byte_records.specs.Inside.Chain.{Chain, done, next}

-- what is known at a sibling
pub record Sibling (span key : ℕ → ℕ) (end p : ℕ) (ks : List ℕ) : Type 0 where
  pub keys : List ℕ
  pub head : ks ≡ key p ∷ keys
  pub some : 1 ≤ span p
  pub upto : p + span p ≤ end
  pub chain : Chain span key end (p + span p) keys

module _ {span key : ℕ → ℕ} {end : ℕ} where
  pub chain-le : {p : ℕ} {ks : List ℕ} → Chain span key end p ks → p ≤ end
  chain-le done = le_refl end
  chain-le (next l s h) = omega arith

  pub chain-sibling : {p : ℕ} {ks : List ℕ} → (p ≡ end → ⊥) → Chain span key end p ks → Sibling span key end p ks
  chain-sibling n done = absurd (n refl)
  chain-sibling n (next {ks = ks} l s h) = record { keys = ks; head = refl; some = s; upto = chain-le h; chain = h }

  pub chain-done : {p : ℕ} {ks : List ℕ} → p ≡ end → Chain span key end p ks → ks ≡ []
  chain-done e done = refl
  chain-done e (next l s h) = absurd (omega arith)

  -- one sibling more, at the end
  pub chain_more : {p : ℕ} {ks : List ℕ} → 1 ≤ span end → Chain span key end p ks → Chain span key (end + span end) p (ks ++ (key end ∷ []))
  chain_more s done = next {p = end} (omega arith) s done
  chain_more s (next {p = p} l t h) = next {p = p} (omega arith) t (chain_more s h)
