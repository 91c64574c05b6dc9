-- What waits in a slot is a run of one message with a weight.
use mathlib.Core.Path.{◌≡◌, refl, sym, ◌∙◌, ap}
use mathlib.Core.Bool.{false}
use mathlib.Core.List.{List, []}
use Prim.Native.Nat.{ℕ, zero, suc, ◌+◌, ◌-◌, ◌*◌, ◌≤◌}
use native.Mathlib.Nat.{mul_comm, mul_assoc}
use native.Mathlib.Omega.{arith}
use lib.ListN.{length, take, drop, length-take, length-drop}
use Rattle.value_table.specs.Value.{record_size, max_length, records, span_at}
use Rattle.counting_theory.specs.Trie.{add}
use Rattle.counting_theory.specs.Label.{Counting, CountingType}
use Rattle.counting_theory.specs.declared.equivalence.Equivalence.{Equivalence}
use Rattle.counting_theory.specs.Raw.{raw}
use Rattle.std.specs.Prelude.{Ok}
use Rattle.counting_theory.specs.Inside.Times.{times}
use Rattle.inference.specs.Inside.Inferring.{ArenaHolds, Added, Weighed}
use Rattle.gathering.specs.Inside.Gathering.{bytes_of_message, message_at, message_raw, MessageAt, Waits}

pub waited-nothing : {e : Equivalence} {a free : List ℕ} {m : ℕ} {f : CountingType} (t : List ℕ) (first count : ℕ) → count ≡ 0 → ArenaHolds e false a m 0 f [] free →
    Added (add Counting (message_raw e t first count) f) [] 0 (Ok m) a
unfolding message_raw add
waited-nothing {free = free} t first count c x = rw c (record { count = x.count; free = free; bytes = x.bytes })

module _ {t : List ℕ} {first count : ℕ} (x : Waits t (records t) first count) (short : length t ≤ max_length) (some : 1 ≤ count) where
  pub waits : MessageAt t first
  waits = x.message some

  -- the part of the table that the code hands on
  pub part-is : (from stop : ℕ) → from ≡ record_size * first → stop ≡ record_size * (first + span_at t first) →
      take (stop - from) (drop from t) ≡ bytes_of_message t first
  part-is from stop f s =
      let n : stop - from ≡ record_size * span_at t first = omega arith in
      rw (n, f) refl

  part_length : length (bytes_of_message t first) ≡ record_size * span_at t first
  part_length = omega (arith, length-take (record_size * span_at t first) (drop (record_size * first) t), length-drop (record_size * first) t, waits.within)

  pub weighed : Weighed (count) (bytes_of_message t first)
  weighed =
      let s = span_at t first in
      let z : count * (record_size * s) ≡ record_size * (count * s) = sym (mul_assoc count record_size s) ∙ ap (λ k. k * s) (mul_comm count record_size) ∙ mul_assoc record_size count s in
      record { some = omega arith; small = omega (arith, x.few); bound = rw part_length (omega (arith, z, x.bound)) }

pub slot-times : (e : Equivalence) (t : List ℕ) (first count : ℕ) → 1 ≤ count → times count (raw e false (message_at t first)) ≡ message_raw e t first count
unfolding message_raw
slot-times e t first zero h = absurd (omega arith)
slot-times e t first (suc n) h = refl
