-- An accepted merge: both inputs are types, and what is written is their reduced type.
use mathlib.Core.Path.{◌≡◌, refl, ap}
use mathlib.Core.Bool.{Bool, true, false, cond, not, ◌||◌}
use mathlib.Core.List.{List}
use Prim.Native.Nat.{ℕ, ◌*◌, ◌≤◌}
use native.Mathlib.Omega.{arith}
use lib.Dec.{ltb}
use lib.ListN.{length}
use borrow.Author.Tests.{ltb-false}
use Rattle.byte_records.specs.Number.{Bytes}
use Rattle.byte_records.proofs.Tests.{or_parts}
use Rattle.value_table.specs.Outcome.{accepted}
use Rattle.counting_theory.specs.Trie.{size, reduce}
use Rattle.counting_theory.specs.Label.{Counting, CountingType}
use Rattle.counting_theory.specs.declared.equivalence.Equivalence.{Equivalence}
use Rattle.counting_theory.specs.Encoding.{type_size, encode, type_of}
use Rattle.counting_theory.specs.WellFormed.{within_limit, well_formed, bad_type_length, IsType}
use Rattle.counting_theory.specs.Answers.{equivalence_number, Written, turned_down, largest_arena, merged_types, merged}
use Rattle.counting_theory.proofs.WellFormed.Closed.{reduce-type}
use Rattle.counting_theory.proofs.WellFormed.AcceptsExactly.{type-length, well-formed-type}
use Rattle.counting_theory.proofs.Ways.Calls.{equivalence-of}

-- a type's bytes are those that it is written as
pub own-bytes : {e : Equivalence} {b : List ℕ} {f : CountingType} → IsType e b f → IsType e (encode f) f
own-bytes t = rw t.bytes at t

pub largest-allowed : bad_type_length largest_arena ≡ false
unfolding bad_type_length
largest-allowed = refl

-- types that reduce to that of the whole
pub record Merging (e : Equivalence) (a b whole : List ℕ) : Type 0 where
  pub first : IsType e a (type_of e a)
  pub second : IsType e b (type_of e b)
  pub both : IsType e whole (reduce Counting (type_of e a) (type_of e b))

-- what an accepted merge has written
pub written-parts : (f : CountingType) (n : ℕ) → (merged_types f n).outcome.number ≡ 0 →
    (within_limit f ≡ true) × (type_size * size f ≤ n) × (merged_types f n ≡ record { outcome = accepted (size f); bytes = encode f })
written-parts f n = go (within_limit f) (ltb n (type_size * size f)) refl
  where
    go : (s t : Bool) → ltb n (type_size * size f) ≡ t →
        let w = cond s (cond t (turned_down 11 0) (record { outcome = accepted (size f); bytes = encode f })) (turned_down 10 0) in
        w.outcome.number ≡ 0 → (s ≡ true) × (type_size * size f ≤ n) × (w ≡ record { outcome = accepted (size f); bytes = encode f })
    go false t i h = absurd (omega arith)
    go true true i h = absurd (omega arith)
    go true false i h = (refl, ltb-false n (type_size * size f) i, refl)

pub accepted-merge : (e : Equivalence) (a b : List ℕ) (n : ℕ) → Bytes a → Bytes b → (merged a b (equivalence_number e) n).outcome.number ≡ 0 →
    Merging e a b (merged a b (equivalence_number e) n).bytes
unfolding merged
accepted-merge e a b n p q h =
    rw (equivalence-of e)
    (go (bad_type_length (length a) || bad_type_length (length b) || bad_type_length n) (well_formed e a) (well_formed e b) refl refl refl (rw (equivalence-of e) at h))
  where
    go : (x y z : Bool) → (bad_type_length (length a) || bad_type_length (length b) || bad_type_length n) ≡ x → well_formed e a ≡ y → well_formed e b ≡ z →
        let w = cond x (turned_down 1 0) (cond (not y) (turned_down 8 0) (cond (not z) (turned_down 9 0) (merged_types (reduce Counting (type_of e a) (type_of e b)) n))) in
        w.outcome.number ≡ 0 → Merging e a b w.bytes
    go true y z i j k h = absurd (omega arith)
    go false false z i j k h = absurd (omega arith)
    go false true false i j k h = absurd (omega arith)
    go false true true i j k h =
        let u = or_parts (bad_type_length (length a) || bad_type_length (length b)) (bad_type_length n) i in
        let v = or_parts (bad_type_length (length a)) (bad_type_length (length b)) u.0 in
        let first = (well-formed-type e a p v.0).0 j in
        let second = (well-formed-type e b q v.1).0 k in
        let r = written-parts (reduce Counting (type_of e a) (type_of e b)) n h in
        let both = reduce-type e a b (type_of e a) (type_of e b) first second (omega (arith, r.1, (type-length n u.1).1)) r.0 in
        record { first = first; second = second; both = rw (ap (λ (w : Written). w.bytes) r.2) both }
