-- What may be left, stored from a byte on: laws of followed and placed.
use mathlib.Core.Path.{◌≡◌, refl, sym, ap}
use mathlib.Core.Bool.{Bool, true, false, cond, ◌&&◌}
use mathlib.Core.List.{List, [], ◌++◌}
use mathlib.Core.Option.{Option, none, some}
use Prim.Native.Nat.{ℕ, ◌+◌}
use native.Mathlib.Omega.{arith}
use lib.ListN.{length, length-append}
use lib.Seq.{sets}
use Rattle.removal.specs.Inside.Removing.{followed, placed}
use Rattle.byte_records.proofs.Sets.{sets-append}
use Rattle.counting_theory.proofs.Trie.Canonical.{some-none}

-- nothing, if a count is too high
unfoldable pub unless : {A : Type 0} → Bool → Option A → Option A
unless true o = none
unless false o = o

pub followed-empty : (o : Option (List ℕ)) → followed (some []) o ≡ o
unfolding followed
followed-empty none = refl
followed-empty (some b) = refl

pub followed-none : (o : Option (List ℕ)) → followed o none ≡ none
unfolding followed
followed-none none = refl
followed-none (some b) = refl

-- two tests of what comes first and two of what follows, taken together
pub followed-tests : (p q u v w : Bool) (x y : List ℕ) →
    cond ((p && q) && (u && v && w)) (some (x ++ y)) none ≡ followed (cond ((p && true) && (u && v && true)) (some x) none) (cond (q && w) (some y) none)
unfolding followed
followed-tests false q u v w x y = refl
followed-tests true false false v w x y = refl
followed-tests true false true false w x y = refl
followed-tests true false true true w x y = refl
followed-tests true true false v w x y = refl
followed-tests true true true false w x y = refl
followed-tests true true true true false x y = refl
followed-tests true true true true true x y = refl

pub placed-none : (out : List ℕ) (k : ℕ) → placed out k none ≡ none
unfolding placed
placed-none out k = refl

pub placed-some : (out : List ℕ) (k : ℕ) (z : List ℕ) → some (sets out k z, k + length z) ≡ placed out k (some z)
unfolding placed
placed-some out k z = refl

-- where the first is not there, nothing is
pub lost-next : (o : Option (List ℕ)) → followed none o ≡ none
unfolding followed
lost-next o = refl

same_parts : {a b : List ℕ} {m n : ℕ} → ◌≡◌ {A = Option (List ℕ × ℕ)} (some (a, m)) (some (b, n)) → (a ≡ b) × (m ≡ n)
same_parts {a} {b} {m} {n} h = let e : ◌≡◌ {A = List ℕ × ℕ} (a, m) (b, n) = cc in (ap (λ s. s.0) e, ap (λ s. s.1) e)

-- what is stored first stands before what follows; where it is not there, nothing is
module _ (out out' : List ℕ) (k k' : ℕ) where
  pub placed-next : (p o : Option (List ℕ)) → some (out', k') ≡ placed out k p → placed out' k' o ≡ placed out k (followed p o)
  unfolding placed followed
  placed-next none o h = absurd (some-none h)
  placed-next (some z) none h = refl
  placed-next (some z) (some b) h =
      let e = same_parts h in
      let n : k + length z + length b ≡ k + length (z ++ b) = omega (arith, length-append z b) in
      rw (e.0, e.1, n) (ap (λ s. some (s, k + length (z ++ b))) (sym (sets-append z b out k)))

  -- what is known of bytes that are there
  pub record Found (o : Option (List ℕ)) : Type 0 where
    pub bytes : List ℕ
    pub is : o ≡ some bytes
    pub stored : out' ≡ sets out k bytes
    pub ends : k' ≡ k + length bytes

  pub found : (o : Option (List ℕ)) → some (out', k') ≡ placed out k o → Found o
  unfolding placed
  found none h = absurd (some-none h)
  found (some b) h =
      let e = same_parts h in
      record { bytes = b; is = refl; stored = e.0; ends = e.1 }

pub lost : (out : List ℕ) (k : ℕ) (o : Option (List ℕ)) → none ≡ placed out k o → o ≡ none
unfolding placed
lost out k none h = refl
lost out k (some b) h = absurd (some-none (sym h))
