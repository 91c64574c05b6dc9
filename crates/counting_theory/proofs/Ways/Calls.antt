-- What the calls of a way write: the inference of an accepted table, and the merge of two types.
use mathlib.Core.Path.{◌≡◌, refl, ◌∙◌, ap}
use mathlib.Core.Bool.{true, false}
use mathlib.Core.List.{List}
use mathlib.Core.Option.{some}
use Prim.Native.Nat.{ℕ, ◌*◌, ◌%◌, ◌≤◌}
use native.Mathlib.Omega.{arith}
use lib.ListN.{length}
use borrow.Author.Tests.{eq-eqb, le-ltb}
use Rattle.value_table.specs.Value.{max_length}
use Rattle.value_table.specs.Judged.{bad_length, messages}
use Rattle.value_table.specs.Acceptance.{Table}
use Rattle.value_table.proofs.Acceptance.{accepts}
use Rattle.value_table.proofs.TableLayout.{length-encode as table-length, length-fits}
use Rattle.counting_theory.specs.Trie.{size, reduce}
use Rattle.counting_theory.specs.Label.{Counting, CountingType}
use Rattle.counting_theory.specs.declared.equivalence.Equivalence.{Equivalence}
use Rattle.counting_theory.specs.declared.equivalence.Equivalence.TheVariants.{Kind as by_kind, Label as by_label}
use Rattle.counting_theory.specs.Raw.{profile_of}
use Rattle.counting_theory.specs.Encoding.{type_size, encode, type_of}
use Rattle.counting_theory.specs.WellFormed.{within_limit, well_formed, bad_type_length, IsType}
use Rattle.counting_theory.specs.Answers.{equivalence_number, equivalence_of, house_default, inferred, inferred_default, merged, merged_types}
use Rattle.counting_theory.specs.Ways.{Accepted}
use Rattle.counting_theory.proofs.Encoding.Header.{length-encode}
use Rattle.counting_theory.proofs.Encoding.Bytes.{bytes-encode}
use Rattle.counting_theory.proofs.WellFormed.Limit.{totals-limit}
use Rattle.counting_theory.proofs.WellFormed.AcceptsExactly.{type-unique, well-formed-type}
use Rattle.counting_theory.proofs.Ways.Weights.{largest-values}

pub equivalence-of : (e : Equivalence) → equivalence_of (equivalence_number e) ≡ some e
equivalence-of by_kind = refl
equivalence-of by_label = refl

pub accepted-table : (b : List ℕ) (a : Accepted b) → Table b (messages b) a.1.0
accepted-table b a = (accepts b a.1.0 a.0).0 a.1.1

accepted-length : (b : List ℕ) → Accepted b → bad_length (length b) ≡ false
accepted-length b a =
    let t = accepted-table b a in
    (length-fits (length b)).1 (omega (arith, ap length t.bytes, table-length (messages b), t.room))

module _ (e : Equivalence) (n : ℕ) (allowed : bad_type_length n ≡ false) (b : List ℕ) (a : Accepted b) where
  -- the profile of one table keeps the limit, so 10 does not come
  pub inferred-profile : (arena work : ℕ) → arena ≡ n → work ≡ n → inferred b (equivalence_number e) arena work ≡ merged_types (profile_of e (messages b)) n
  unfolding inferred
  inferred-profile arena work i j =
      let f = profile_of e (messages b) in
      let low : within_limit f ≡ true = totals-limit f (omega (arith, largest-values e (messages b), (accepted-table b a).room)) in
      rw (i, j, accepted-length b a, allowed, eq-eqb n n refl, equivalence-of e, a.1.1, low) refl

  pub default-profile : house_default ≡ e → (arena work : ℕ) → arena ≡ n → work ≡ n → inferred_default b arena work ≡ merged_types (profile_of e (messages b)) n
  default-profile h arena work i j = ap (λ x. inferred b (equivalence_number x) arena work) h ∙ inferred-profile arena work i j

pub room-length : (f : CountingType) → type_size * size f ≤ max_length → bad_type_length (length (encode f)) ≡ false
unfolding bad_type_length
room-length f room =
    let k = length-encode f in
    rw (eq-eqb (length (encode f) % type_size) 0 (omega arith), le-ltb max_length (length (encode f)) (omega arith)) refl

module _ (e : Equivalence) where
  pub encode-length : (f : CountingType) → IsType e (encode f) f → bad_type_length (length (encode f)) ≡ false
  encode-length f t = room-length f t.room

  pub encode-formed : (f : CountingType) → IsType e (encode f) f → well_formed e (encode f) ≡ true
  encode-formed f t =
      let u : IsType e (encode f) (type_of e (encode f)) = rw (← type-unique e (encode f) f t) t in
      (well-formed-type e (encode f) (bytes-encode f) (encode-length f t)).1 u

  pub merged-types : (f g : CountingType) (n arena : ℕ) → bad_type_length n ≡ false → arena ≡ n → IsType e (encode f) f → IsType e (encode g) g →
      merged (encode f) (encode g) (equivalence_number e) arena ≡ merged_types (reduce Counting f g) n
  unfolding merged
  merged-types f g n arena h i t u =
      rw (
        i,
        encode-length f t,
        encode-length g u,
        h,
        equivalence-of e,
        encode-formed f t,
        encode-formed g u,
        ← type-unique e (encode f) f t,
        ← type-unique e (encode g) g u,
      )
      refl
