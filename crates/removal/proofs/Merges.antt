-- When a merge gives a whole: exactly when the types of its two inputs reduce to that of the whole.
use mathlib.Core.Path.{◌≡◌, refl, ap}
use mathlib.Core.Bool.{cond}
use mathlib.Core.List.{List}
use Prim.Native.Nat.{ℕ, ◌≤◌}
use native.Mathlib.Omega.{arith}
use lib.Dec.{ltb}
use lib.ListN.{length}
use borrow.Author.Tests.{le-ltb}
use Rattle.byte_records.specs.Number.{Bytes}
use Rattle.counting_theory.specs.Trie.{size, reduce}
use Rattle.counting_theory.specs.declared.equivalence.Equivalence.{Equivalence}
use Rattle.removal_theory.specs.Label.{Counting, CountingType}
use Rattle.removal_theory.specs.Encoding.{type_records, encode}
use Rattle.removal_theory.specs.WellFormed.{IsType}
use Rattle.counting_theory.specs.Answers.{equivalence_number, Written, turned_down}
use Rattle.removal_theory.specs.Answers.{stored, largest_arena, merged_types, merged}
use Rattle.removal_theory.proofs.Encoding.Header.{length-encode}
use Rattle.removal_theory.proofs.Ways.Calls.{merged-types}
use Rattle.removal_theory.proofs.Ways.Merges.{own-bytes, largest-allowed, Merging, accepted-merge}
use Rattle.removal.specs.Removed.{writes, MergesTo}

-- what an arena of n bytes gets of the type, told by its bytes
pub stored-type : {e : Equivalence} {b : List ℕ} {f : CountingType} (n : ℕ) → IsType e b f → stored n f ≡ cond (ltb n (length b)) (turned_down 11 0) (writes b)
stored-type {f = f} n t =
    let k = length-encode f in
    let m : type_records (encode f) ≡ size f = omega arith in
    rw (t.bytes, m, k) refl

pub merges-types : (e : Equivalence) (a b whole : List ℕ) → Bytes a → Bytes b → MergesTo e a b whole → Merging e a b whole
merges-types e a b whole p q h =
    rw (ap (λ (w : Written). w.bytes) h) at (accepted-merge e a b largest_arena p q (ap (λ (w : Written). w.outcome.number) h))

pub types-merge : (e : Equivalence) {a b whole : List ℕ} {f g : CountingType} → IsType e a f → IsType e b g → IsType e whole (reduce Counting f g) → MergesTo e a b whole
types-merge e {whole = whole} {f = f} {g = g} t u v =
    let x : merged (encode f) (encode g) (equivalence_number e) largest_arena ≡ merged_types (reduce Counting f g) largest_arena =
    merged-types e f g largest_arena largest_arena largest-allowed refl (own-bytes t) (own-bytes u) in
    let room : length whole ≤ largest_arena = omega (arith, ap length v.bytes, length-encode (reduce Counting f g), v.room) in
    rw (t.bytes, u.bytes, x, v.limit, stored-type largest_arena v, le-ltb largest_arena (length whole) room) refl
