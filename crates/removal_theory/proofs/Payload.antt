-- The laws of the payloads of removal's types: what the other proofs know of them.
use mathlib.Core.Path.{◌≡◌, refl}
use mathlib.Core.Bool.{true}
use mathlib.Core.List.{List, [], ◌∷◌}
use Prim.Native.Nat.{ℕ, ◌+◌, ◌^◌, ◌≤◌, ◌<◌}
use native.Mathlib.Nat.{add_comm, add_assoc}
use native.Mathlib.Omega.{arith}
use lib.ListN.{length}
use Rattle.byte_records.specs.Inside.Fits.{Fits}
use Rattle.removal_theory.specs.Payload.{Payload, payload_format, numbers, of_numbers, join, proper}

pub join-comm : (a b : Payload) → join a b ≡ join b a
unfolding join
join-comm a b = λ i. record { count = add_comm a.count b.count i }

pub join-assoc : (a b c : Payload) → join (join a b) c ≡ join a (join b c)
unfolding join
join-assoc a b c = λ i. record { count = add_assoc a.count b.count c.count i }

pub count-join : (a b : Payload) → (join a b).count ≡ a.count + b.count
unfolding join
count-join a b = refl

-- numbers and bytes
pub length-numbers : (a : Payload) → length (numbers a) ≡ length payload_format
unfolding numbers
length-numbers a = refl

pub numbers-read : (a : Payload) → of_numbers (numbers a) ≡ a
unfolding numbers of_numbers
numbers-read a = refl

pub numbers-written : (ns : List ℕ) → length ns ≡ length payload_format → numbers (of_numbers ns) ≡ ns
unfolding numbers of_numbers
numbers-written [] h = absurd (omega arith)
numbers-written (n ∷ []) h = refl
numbers-written (n ∷ m ∷ ns) h = absurd (omega arith)

pub numbers_fit : (kind : ℕ) (a : Payload) (within : ℕ) → proper kind a within ≡ true → a.count < 2 ^ 64 → Fits payload_format (numbers a)
unfolding numbers
numbers_fit kind a within p h = (h, tt)

-- what is asked of a payload
pub proper-join : (kind : ℕ) (a b : Payload) (m n : ℕ) → 1 ≤ a.count → 1 ≤ b.count → proper kind a m ≡ true → proper kind b n ≡ true →
    proper kind (join a b) (m + n) ≡ true
unfolding proper
proper-join kind a b m n x y p q = refl
