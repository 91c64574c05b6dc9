-- What the merge of two of removal's types writes.
use mathlib.Core.Path.{◌≡◌, refl}
use mathlib.Core.Bool.{true, false}
use Prim.Native.Nat.{ℕ, ◌*◌, ◌%◌, ◌≤◌}
use native.Mathlib.Omega.{arith}
use lib.ListN.{length}
use borrow.Author.Tests.{eq-eqb, le-ltb}
use Rattle.value_table.specs.Value.{max_length}
use Rattle.counting_theory.specs.Trie.{size, reduce}
use Rattle.counting_theory.specs.declared.equivalence.Equivalence.{Equivalence}
use Rattle.counting_theory.proofs.Ways.Calls.{equivalence-of}
use Rattle.removal_theory.specs.Label.{Counting, CountingType}
use Rattle.removal_theory.specs.Encoding.{type_size, encode, type_of}
use Rattle.removal_theory.specs.WellFormed.{well_formed, bad_type_length, IsType}
use Rattle.counting_theory.specs.Answers.{equivalence_number}
use Rattle.removal_theory.specs.Answers.{merged, merged_types}
use Rattle.removal_theory.proofs.Encoding.Header.{length-encode}
use Rattle.removal_theory.proofs.Encoding.Bytes.{bytes-encode}
use Rattle.removal_theory.proofs.WellFormed.AcceptsExactly.{type-unique, well-formed-type}

pub room-length : (f : CountingType) → type_size * size f ≤ max_length → bad_type_length (length (encode f)) ≡ false
unfolding bad_type_length
room-length f room =
    let k = length-encode f in
    rw (eq-eqb (length (encode f) % type_size) 0 (omega arith), le-ltb max_length (length (encode f)) (omega arith)) refl

module _ (e : Equivalence) where
  pub encode-length : (f : CountingType) → IsType e (encode f) f → bad_type_length (length (encode f)) ≡ false
  encode-length f t = room-length f t.room

  pub encode-formed : (f : CountingType) → IsType e (encode f) f → well_formed e (encode f) ≡ true
  encode-formed f t =
      let u : IsType e (encode f) (type_of e (encode f)) = rw (← type-unique e (encode f) f t) t in
      (well-formed-type e (encode f) (bytes-encode f) (encode-length f t)).1 u

  pub merged-types : (f g : CountingType) (n arena : ℕ) → bad_type_length n ≡ false → arena ≡ n → IsType e (encode f) f → IsType e (encode g) g →
      merged (encode f) (encode g) (equivalence_number e) arena ≡ merged_types (reduce Counting f g) n
  unfolding merged
  merged-types f g n arena h i t u =
      rw (
        i,
        encode-length f t,
        encode-length g u,
        h,
        equivalence-of e,
        encode-formed f t,
        encode-formed g u,
        ← type-unique e (encode f) f t,
        ← type-unique e (encode g) g u,
      )
      refl
