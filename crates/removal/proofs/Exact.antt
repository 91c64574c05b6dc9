-- The call is exact: what it gives is the one type which, merged with the part, gives the whole, and 16 says that there is none.
use mathlib.Core.Path.{◌≡◌, refl, sym, ◌∙◌, ap}
use mathlib.Core.Bool.{Bool, true, false, cond}
use mathlib.Core.List.{List}
use mathlib.Core.Option.{Option, none, some}
use Prim.Native.Nat.{ℕ, ◌≤◌}
use native.Mathlib.Omega.{arith}
use lib.Dec.{ltb}
use lib.ListN.{length}
use borrow.Author.Tests.{le-ltb}
use Rattle.byte_records.specs.Number.{Bytes}
use Rattle.counting_theory.specs.Trie.{reduce}
use Rattle.counting_theory.specs.declared.equivalence.Equivalence.{Equivalence}
use Rattle.removal_theory.specs.Label.{Counting, CountingType}
use Rattle.removal_theory.specs.Encoding.{encode, type_of}
use Rattle.removal_theory.specs.WellFormed.{field_counts, bad_type_length, IsType}
use Rattle.counting_theory.specs.Answers.{equivalence_number, Written, turned_down}
use Rattle.counting_theory.proofs.Trie.Canonical.{some-none}
use Rattle.counting_theory.proofs.Trie.Profile.{reduce-comm}
use Rattle.removal_theory.proofs.Label.{counting-laws}
use Rattle.removal_theory.proofs.Encoding.Bytes.{bytes-encode}
use Rattle.removal_theory.proofs.WellFormed.AcceptsExactly.{type-unique, well-formed-type}
use Rattle.counting_theory.proofs.Ways.Calls.{equivalence-of}
use Rattle.removal_theory.proofs.Ways.Calls.{encode-length, encode-formed}
use Rattle.removal_theory.proofs.Ways.Merges.{own-bytes, accepted-merge}
use Rattle.removal.specs.Difference.{difference}
use Rattle.removal.specs.Removed.{taken, keeping_fields, removed_type, removed_types, removed, writes, MergesTo, Removable, AtMostOne, GivesDifference, RefusesExactly, MergeUndone}
use Rattle.removal.proofs.Difference.{steps, difference-reduce, reduce-cancel}
use Rattle.removal.proofs.Remains.{reduce-removal}
use Rattle.removal.proofs.Taken.{taken-laws, counted-each}
use Rattle.removal.proofs.LabelFields.{Out}
use Rattle.removal.proofs.RemovedTypes.{left-type}
use Rattle.removal.proofs.Merges.{stored-type, merges-types, types-merge}

pub at_most_one : AtMostOne
at_most_one e a b part whole x y p h i =
    let s = merges-types e a part whole x p h in
    let t = merges-types e b part whole y p i in
    let same : reduce Counting (type_of e a) (type_of e part) ≡ reduce Counting (type_of e b) (type_of e part) =
    type-unique e whole _ s.both ∙ sym (type-unique e whole _ t.both) in
    let f = reduce-cancel counting-laws taken-laws (type_of e a) (type_of e b) (type_of e part)
    (counted-each (type_of e a) s.first.counts) (counted-each (type_of e b) t.first.counts) same in
    s.first.bytes ∙ ap encode f ∙ sym t.first.bytes

-- the call, past its tests of the inputs
pub removed-types : (e : Equivalence) (whole part : List ℕ) (n : ℕ) → Removable e whole part n →
    removed whole part (equivalence_number e) n ≡ removed_types (removed_type e (type_of e whole) (type_of e part)) n
unfolding removed
removed-types e whole part n r = rw (r.whole_length, r.part_length, r.arena-length, equivalence-of e, r.whole-formed, r.part-formed) refl

removed-merged : (e : Equivalence) {b : List ℕ} (f g : CountingType) → IsType e b f → removed_type e (reduce Counting f g) g ≡ some f
unfolding removed_type
removed-merged e f g t = rw (difference-reduce counting-laws taken-laws f g (counted-each f t.counts), t.fields) refl

pub gives-difference : GivesDifference
gives-difference e whole part n r b x h =
    let m = merges-types e b part whole x r.part_bytes h in
    removed-types e whole part n r
    ∙ rw (← type-unique e whole _ m.both, removed-merged e (type_of e b) (type_of e part) m.first) (stored-type n m.first)

keeping-parts : (e : Equivalence) (o : Option CountingType) (f : CountingType) → keeping_fields e o ≡ some f → (o ≡ some f) × (field_counts e f ≡ true)
keeping-parts e none f h = absurd (some-none (sym h))
keeping-parts e (some g) f h = go (field_counts e g) refl h
  where
    go : (b : Bool) → field_counts e g ≡ b → cond b (some g) none ≡ some f → (some g ≡ some f) × (field_counts e f ≡ true)
    go true z h = let y : g ≡ f = cc in (h, rw y at z)
    go false z h = absurd (some-none (sym h))

-- what removed_type gives is a type which, merged with the part, gives the whole
pub removed-type : (e : Equivalence) {a b : List ℕ} (whole part f : CountingType) → IsType e a whole → IsType e b part → removed_type e whole part ≡ some f →
    IsType e (encode f) f × (reduce Counting f part ≡ whole)
unfolding removed_type
removed-type e whole part f w p h =
    let k = keeping-parts e (difference Counting taken whole part) f h in
    let r : Out whole part f = steps counting-laws taken-laws whole part f k.0 in
    (left-type e w p r k.1, reduce-removal counting-laws taken-laws r w.sorted)

not-refused : (t : Bool) (b : List ℕ) → turned_down 16 0 ≡ cond t (turned_down 11 0) (writes b) → ⊥
not-refused true b h = omega (arith, ap (λ (w : Written). w.outcome.number) h)
not-refused false b h = omega (arith, ap (λ (w : Written). w.outcome.number) h)

pub refuses-exactly : RefusesExactly
refuses-exactly e whole part n r = (
  λ x b y h. not-refused (ltb n (length b)) b (sym x ∙ gives-difference e whole part n r b y h),
  λ x. removed-types e whole part n r ∙ go (removed_type e (type_of e whole) (type_of e part)) refl x,
)
  where
    w : IsType e whole (type_of e whole)
    w = (well-formed-type e whole r.whole-bytes r.whole_length).0 r.whole-formed

    p : IsType e part (type_of e part)
    p = (well-formed-type e part r.part_bytes r.part_length).0 r.part-formed

    go : (o : Option CountingType) → removed_type e (type_of e whole) (type_of e part) ≡ o → ((b : List ℕ) → Bytes b → ¬ MergesTo e b part whole) →
        removed_types o n ≡ turned_down 16 0
    go none z x = refl
    go (some f) z x =
        let t = removed-type e (type_of e whole) (type_of e part) f w p z in
        absurd (x (encode f) (bytes-encode f) (types-merge e t.0 p (rw t.1 w)))

module _ (e : Equivalence) (n : ℕ) (allowed : bad_type_length n ≡ false) where
  type-removable : {whole part : List ℕ} {w p : CountingType} → IsType e whole w → IsType e part p → Removable e whole part n
  type-removable {w = w} {p = p} t u =
      record {
        whole-bytes = rw t.bytes (bytes-encode w);
        part_bytes = rw u.bytes (bytes-encode p);
        whole_length = rw t.bytes (encode-length e w (own-bytes t));
        part_length = rw u.bytes (encode-length e p (own-bytes u));
        arena-length = allowed;
        whole-formed = rw t.bytes (encode-formed e w (own-bytes t));
        part-formed = rw u.bytes (encode-formed e p (own-bytes u));
      }

  back-again : {a b whole : List ℕ} {f g : CountingType} → IsType e a f → IsType e b g → IsType e whole (reduce Counting f g) → length a ≤ n →
      removed whole b (equivalence_number e) n ≡ writes a
  back-again {a = a} {b = b} {whole = whole} {f = f} t u v room =
      gives-difference e whole b n (type-removable v u) a (rw t.bytes (bytes-encode f)) (types-merge e t u v) ∙ rw (le-ltb n (length a) room) refl

pub merge-undone : MergeUndone
merge-undone e first second m n p q h allowed =
    let r = accepted-merge e first second m p q h in
    let f = type_of e first in
    let g = type_of e second in
    record {
      without-second = back-again e n allowed r.first r.second r.both;
      without-first = back-again e n allowed r.second r.first (rw (reduce-comm counting-laws g f r.second.sorted r.first.sorted) r.both);
    }
