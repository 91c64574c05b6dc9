-- A call that writes a type in 16-byte records answers how many records its bytes have, so that the rest of the arena can be cleared by the
-- answer.
use mathlib.Core.Path.{◌≡◌, refl}
use mathlib.Core.Bool.{Bool, true, false, cond}
use mathlib.Core.List.{List}
use Prim.Native.Nat.{ℕ, ◌*◌}
use lib.Dec.{ltb}
use lib.ListN.{length, take}
use Rattle.counting_theory.specs.Trie.{size}
use Rattle.removal_theory.specs.Label.{CountingType}
use Rattle.removal_theory.specs.Encoding.{type_size}
use Rattle.counting_theory.specs.Answers.{Written, turned_down, arena_with}
use Rattle.removal_theory.specs.Answers.{stored}
use Rattle.removal_theory.proofs.Encoding.Header.{length-encode}
use Rattle.byte_records.proofs.Clear.{cleared_from}

abbrev pub Exact : Written → Type 0
Exact w = length w.bytes ≡ type_size * w.outcome.count

pub exact-cond : (t : Bool) (v w : Written) → Exact v → Exact w → Exact (cond t v w)
exact-cond true v w h i = h
exact-cond false v w h i = i

pub exact-stored : (n : ℕ) (f : CountingType) → Exact (stored n f)
exact-stored n f = exact-cond (ltb n (type_size * size f)) (turned_down 11 0) _ refl (length-encode f)

-- what stands in the arena once it is cleared behind the type
pub cleared-arena : (w : Written) (arena : List ℕ) (n : ℕ) → Exact w → length arena ≡ n → take (type_size * w.outcome.count) arena ≡ w.bytes →
    cleared_from arena (type_size * w.outcome.count) ≡ arena_with n w
cleared-arena w arena n h l e = rw (e, ← h, l) refl
