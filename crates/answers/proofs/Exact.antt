-- A call that writes a type answers how many records its bytes have, so that the rest of the arena can be cleared by the answer.
use mathlib.Core.Path.{◌≡◌, refl}
use mathlib.Core.Bool.{Bool, true, false, cond, not, ◌||◌}
use mathlib.Core.List.{List}
use mathlib.Core.Option.{Option, none, some}
use Prim.Native.Nat.{ℕ, zero, suc, ◌*◌}
use lib.Dec.{ltb}
use lib.ListN.{length, take}
use Rattle.value_table.specs.Outcome.{Outcome}
use Rattle.value_table.specs.Judged.{judged, messages}
use Rattle.counting_theory.specs.Trie.{size, reduce}
use Rattle.counting_theory.specs.Label.{Counting, CountingType}
use Rattle.counting_theory.specs.declared.equivalence.Equivalence.{Equivalence}
use Rattle.counting_theory.specs.Raw.{profile_of}
use Rattle.counting_theory.specs.Encoding.{type_size, type_of}
use Rattle.counting_theory.specs.WellFormed.{within_limit, well_formed, bad_type_length}
use Rattle.counting_theory.specs.Answers.{equivalence_of, Written, turned_down, arena_with, stored, bad_buffers, inferred_from, inferred_under, inferred, merged_under, merged}
use Rattle.counting_theory.proofs.Encoding.Header.{length-encode}
use Rattle.byte_records.proofs.Clear.{cleared_from}

abbrev pub Exact : Written → Type 0
Exact w = length w.bytes ≡ type_size * w.outcome.count

pub exact-cond : (t : Bool) (v w : Written) → Exact v → Exact w → Exact (cond t v w)
exact-cond true v w h i = h
exact-cond false v w h i = i

pub exact-stored : (n : ℕ) (f : CountingType) → Exact (stored n f)
exact-stored n f = exact-cond (ltb n (type_size * size f)) (turned_down 11 0) _ refl (length-encode f)

pub exact-merged : (first second : List ℕ) (equivalence n : ℕ) → Exact (merged first second equivalence n)
unfolding merged
exact-merged first second equivalence n =
    exact-cond (bad_type_length (length first) || bad_type_length (length second) || bad_type_length n) (turned_down 1 0) (merged_under (equivalence_of equivalence) first second n) refl
    (go (equivalence_of equivalence))
  where
    go : (e : Option Equivalence) → Exact (merged_under e first second n)
    go none = refl
    go (some e) =
        exact-cond (not (well_formed e first)) (turned_down 8 0) _ refl
        (exact-cond (not (well_formed e second)) (turned_down 9 0) _ refl
        (exact-cond (within_limit (reduce Counting (type_of e first) (type_of e second))) _ (turned_down 10 0)
        (exact-stored n (reduce Counting (type_of e first) (type_of e second))) refl))

exact-from : (o : Outcome) (e : Equivalence) (table : List ℕ) (n : ℕ) → Exact (inferred_from o e table n)
exact-from o e table n = go o.number
  where
    go : (k : ℕ) → Exact (elim k [ zero ↦ stored n (profile_of e (messages table)) | suc j ↦ turned_down (suc j) o.place ])
    go zero = exact-stored n (profile_of e (messages table))
    go (suc j) = refl

pub exact-inferred : (table : List ℕ) (equivalence arena work : ℕ) → Exact (inferred table equivalence arena work)
unfolding inferred
exact-inferred table equivalence arena work =
    exact-cond (bad_buffers (length table) arena work) (turned_down 1 0) (inferred_under (equivalence_of equivalence) table arena) refl
    (go (equivalence_of equivalence))
  where
    go : (e : Option Equivalence) → Exact (inferred_under e table arena)
    go none = refl
    go (some e) = exact-from (judged table) e table arena

-- what stands in the arena once it is cleared behind the type
pub cleared-arena : (w : Written) (arena : List ℕ) (n : ℕ) → Exact w → length arena ≡ n → take (type_size * w.outcome.count) arena ≡ w.bytes →
    cleared_from arena (type_size * w.outcome.count) ≡ arena_with n w
cleared-arena w arena n h l e = rw (e, ← h, l) refl
