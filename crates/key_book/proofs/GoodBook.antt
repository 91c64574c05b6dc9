-- A book is good exactly if each record is and comes before the next one.
use mathlib.Core.Path.{◌≡◌, refl, sym, ◌∙◌, ap, subst}
use mathlib.Core.Bool.{Bool, true, false, cond, not, ◌&&◌}
use mathlib.Core.List.{List, [], ◌∷◌}
use Prim.Native.Nat.{ℕ, zero, suc, ◌+◌, ◌*◌, ◌≤◌, ◌<◌}
use native.Mathlib.Numerals.{add-one}
use native.Mathlib.Omega.{arith}
use lib.Dec.{eqb}
use lib.ListN.{length, get_or, take, drop, length-take, length-drop}
use lib.Seq.{drop-cons, drop-drop, get_or-take, get_or-drop}
use borrow.Author.Tests.{eq-eqb, ne_eqb, eqb-true, not-false}
use Rattle.json_theory.specs.Book.{book_size, key_of, all_zero, padded, filled, good_record, before, book_records, keys_from, good_from, precedes, ascending, book_keys, bad_book}
use Rattle.key_book.specs.Inside.Records.{book_record, Fine, GoodAt}
use Rattle.std.proofs.Common.{Option, nat_eq}
use lib.Pointwise.{pointwise}
use Rattle.std.specs.Option.{MatchOption, unwrap_or}
use Rattle.std.specs.List.{list_all, range_with_len, AllWithin, HoldsAt}
use Rattle.std.specs.Bool.{MatchBool}
use Rattle.std.proofs.lemmas.List.FromFn.{length-range_with_len, get_or-range_with_len}
use native.Mathlib.Nat.{zero-add}
use Rattle.std.specs.Ordering.{nat_cmp, is_lt}
use Rattle.std.specs.Cmp.Lexicographic.{slice_cmp}
use Rattle.std.proofs.lemmas.Iterator.{index_from_first}
use Rattle.std.specs.declared.cmp.Ordering.{Ordering}
use Rattle.std.proofs.lemmas.Cmp.{same_from_slice_cmp}
use Rattle.std.proofs.lemmas.Bool.Decides.{nat_tests}
use Rattle.byte_records.proofs.Tests.{and_parts}
use Rattle.key_book.proofs.Halving.{before-padded}

abbrev pub is_zero : ℕ → Bool
is_zero c = eqb c 0

-- the bytes of a record
pub record-byte : (b : List ℕ) (i k : ℕ) → k < book_size → get_or (book_record b i) k 0 ≡ get_or b (book_size * i + k) 0
unfolding book_record
record-byte b i k l = get_or-take book_size (drop (book_size * i) b) k 0 l ∙ get_or-drop (book_size * i) b k 0

pub record-length : (b : List ℕ) (i : ℕ) → book_size * i + book_size ≤ length b → length (book_record b i) ≡ book_size
unfolding book_record
record-length b i l = omega (arith, length-take book_size (drop (book_size * i) b), length-drop (book_size * i) b)

pub from_on : (s : List ℕ) (k : ℕ) → k < length s → drop k s ≡ get_or s k 0 ∷ drop (k + 1) s
from_on s k l = rw add-one (drop-cons s k 0 l)

zeros : (r : List ℕ) → all_zero r ≡ list_all is_zero r
unfolding all_zero
zeros [] = refl
zeros (c ∷ r) = ap (λ (t : Bool). eqb c 0 && t) (zeros r)

-- a key is not empty, and zeros stand behind it
padded-by : (r : List ℕ) → padded r ≡ list_all is_zero (drop (length (key_of r)) r)
unfolding padded key_of all_zero
padded-by [] = refl
padded-by (c ∷ r) = look (padded-by r) (eqb c 0) refl
  where
    look : padded r ≡ list_all is_zero (drop (length (key_of r)) r) → (t : Bool) → eqb c 0 ≡ t →
        cond t (all_zero r) (padded r) ≡ list_all is_zero (drop (length (cond t [] (c ∷ key_of r))) (c ∷ r))
    look h true e = rw e (zeros r)
    look h false e = h

filled_by : (k : List ℕ) → filled k ≡ not (eqb (length k) 0)
filled_by [] = refl
filled_by (c ∷ k) = rw (ne_eqb (suc (length k)) 0 (λ e. omega arith)) refl

pub good_by : (r : List ℕ) (n : ℕ) → length (key_of r) ≡ n → (n ≡ 0 → ⊥) → list_all is_zero (drop n r) ≡ good_record r
good_by r n e h = rw (filled_by (key_of r), padded-by r, e, ne_eqb n 0 h) refl

zeros-alike : (k : ℕ) (r zs : List ℕ) → length zs ≡ length r → list_all is_zero zs ≡ true → pointwise nat_eq (drop k r) (drop k zs) ≡ list_all is_zero (drop k r)
zeros-alike zero [] [] e h = refl
zeros-alike zero [] (z ∷ zs) e h = absurd (omega arith)
zeros-alike zero (c ∷ r) [] e h = absurd (omega arith)
zeros-alike zero (c ∷ r) (z ∷ zs) e h =
    let p = and_parts (eqb z 0) _ h in
    rw (eqb-true z 0 p.0, zeros-alike zero r zs (omega arith) p.1) refl
zeros-alike (suc k) [] [] e h = refl
zeros-alike (suc k) [] (z ∷ zs) e h = absurd (omega arith)
zeros-alike (suc k) (c ∷ r) [] e h = absurd (omega arith)
zeros-alike (suc k) (c ∷ r) (z ∷ zs) e h = zeros-alike k r zs (omega arith) (and_parts (eqb z 0) _ h).1

-- what stands behind a key, beside as many zeros
pub tail-alike : {b : Bool} {u v : List ℕ} (k : ℕ) (r zs : List ℕ) → length zs ≡ length r → list_all is_zero zs ≡ true → u ≡ drop k r → v ≡ drop k zs →
    b ≡ pointwise nat_eq u v → b ≡ list_all is_zero (drop k r)
tail-alike k r zs e h p q t = t ∙ rw (p, q) (zeros-alike k r zs e h)

pub empty-key : (r : List ℕ) → length (key_of r) ≡ 0 → good_record r ≡ false
empty-key r e = rw (filled_by (key_of r), e) refl

-- where the first zero stands, the key ends
pub key-end : (r : List ℕ) (n : Option ℕ) →
    MatchOption n (AllWithin (λ c. c ≡ 0 → ⊥) r 0 (length r)) (λ i. (i < length r) × HoldsAt (λ c. c ≡ 0) r i × AllWithin (λ c. c ≡ 0 → ⊥) r 0 i) →
    length (key_of r) ≡ unwrap_or n (length r)
unfolding key_of
key-end =
    index_from_first (λ (r : List ℕ). length (key_of r)) (λ c. c ≡ 0) (λ c. c ≡ 0 → ⊥) refl
    (λ c r e. rw (eq-eqb c 0 e) refl) (λ c r e. rw (ne_eqb c 0 e, add-one) refl)

-- whether a record comes before another, as slices compare
pub before_from_cmp : (r s : List ℕ) (o : Ordering) → o ≡ slice_cmp nat_cmp r s → is_lt o ≡ before r s
unfolding before
before_from_cmp =
    same_from_slice_cmp nat_cmp is_lt before refl (λ _ _. refl) (λ _ _. refl) (λ x y xs ys o h. grind (arith, nat_tests))

-- a whole book
record-next : (b : List ℕ) (i : ℕ) → book_record (drop book_size b) i ≡ book_record b (suc i)
unfolding book_record
record-next b i = let e : book_size * suc i ≡ book_size + book_size * i = omega arith in rw (e, drop-drop (book_size * i) book_size b) refl

record-first : (b : List ℕ) → book_record b 0 ≡ take book_size b
unfolding book_record
record-first b = refl

good-all : (n : ℕ) (b : List ℕ) → ((j : ℕ) → j < n → good_record (book_record b j) ≡ true) → good_from n b ≡ true
unfolding good_from
good-all zero b h = refl
good-all (suc n) b h =
    rw (subst (λ (x : List ℕ). good_record x ≡ true) (record-first b) (h 0 (omega arith)))
    (good-all n (drop book_size b) (λ j l. rw (record-next b j) (h (suc j) (omega arith))))

not_good : (n : ℕ) (b : List ℕ) (j : ℕ) → j < n → good_record (book_record b j) ≡ false → good_from n b ≡ false
unfolding good_from
not_good zero b j l h = absurd (omega arith)
not_good (suc n) b zero l h = rw (subst (λ (x : List ℕ). good_record x ≡ false) (record-first b) h) refl
not_good (suc n) b (suc j) l h =
    rw (not_good n (drop book_size b) j (omega arith) (rw (record-next b j) h)) (mathlib.Core.Bool.and-false (good_record (take book_size b)))

abbrev key_at : List ℕ → ℕ → List ℕ
key_at b j = key_of (book_record b j)

precedes-keys : (n : ℕ) (b k : List ℕ) → (1 ≤ n → before k (key_at b 0) ≡ true) → precedes k (keys_from n b) ≡ true
unfolding keys_from
precedes-keys zero b k h = refl
precedes-keys (suc n) b k h = subst (λ (x : List ℕ). before k (key_of x) ≡ true) (record-first b) (h (omega arith))

ascending-all : (n : ℕ) (b : List ℕ) → ((j : ℕ) → j + 1 < n → before (key_at b j) (key_at b (j + 1)) ≡ true) → ascending (keys_from n b) ≡ true
unfolding keys_from ascending
ascending-all zero b h = refl
ascending-all (suc n) b h =
    rw (precedes-keys n (drop book_size b) (key_of (take book_size b)) (λ l. rw (record-next b 0) (subst (λ (x : List ℕ). before (key_of x) (key_at b 1) ≡ true) (record-first b) (h 0 (omega arith)))))
    (ascending-all n (drop book_size b) (λ j l.
    let e : suc (j + 1) ≡ suc j + 1 = omega arith in
    rw (record-next b j, record-next b (j + 1), e) (h (suc j) (omega arith))))

not-ascending : (n : ℕ) (b : List ℕ) (j : ℕ) → j + 1 < n → before (key_at b j) (key_at b (j + 1)) ≡ false → ascending (keys_from n b) ≡ false
unfolding keys_from ascending
not-ascending zero b j l h = absurd (omega arith)
not-ascending (suc zero) b j l h = absurd (omega arith)
not-ascending (suc (suc n)) b zero l h =
    let first : before (key_of (take book_size b)) (key_at b 1) ≡ false = subst (λ (x : List ℕ). before (key_of x) (key_at b 1) ≡ false) (record-first b) h in
    rw (subst (λ (x : List ℕ). before (key_of (take book_size b)) (key_of x) ≡ false) (sym (record-next b 0) ∙ record-first (drop book_size b)) first) refl
not-ascending (suc (suc n)) b (suc j) l h =
    let e : suc j + 1 ≡ suc (j + 1) = omega arith in
    rw (not-ascending (suc n) (drop book_size b) j (omega arith) (rw (record-next b j, record-next b (j + 1), ← e) h))
    (mathlib.Core.Bool.and-false (precedes (key_of (take book_size b)) (keys_from (suc n) (drop book_size b))))

padded-of : (r : List ℕ) → good_record r ≡ true → padded r ≡ true
padded-of r h = (and_parts (filled (key_of r)) (padded r) h).1

has-record : (b : List ℕ) (i : ℕ) → i < book_records b → book_size * i + book_size ≤ length b
has-record b i l = omega arith

-- keys in the order of their records
keys-before : (b : List ℕ) (i j : ℕ) → i < book_records b → j < book_records b → good_record (book_record b i) ≡ true → good_record (book_record b j) ≡ true →
    before (key_at b i) (key_at b j) ≡ before (book_record b i) (book_record b j)
keys-before b i j l m g h =
    before-padded (book_record b i) (book_record b j) (record-length b i (has-record b i l) ∙ sym (record-length b j (has-record b j m))) (padded-of (book_record b i) g) (padded-of (book_record b j) h)

pub bad-record : (b : List ℕ) (i : ℕ) → i < book_records b → good_record (book_record b i) ≡ false → bad_book b ≡ true
unfolding bad_book
bad-record b i l h = rw (not_good (book_records b) b i l h) refl

pub bad-order : (b : List ℕ) (i : ℕ) → i + 1 < book_records b → good_record (book_record b i) ≡ true → before (book_record b i) (book_record b (i + 1)) ≡ false → bad_book b ≡ true
unfolding bad_book
bad-order b i l g h = look (good_record (book_record b (i + 1))) refl
  where
    look : (t : Bool) → good_record (book_record b (i + 1)) ≡ t → bad_book b ≡ true
    look true e =
        rw (not-ascending (book_records b) b i l (keys-before b i (i + 1) (omega arith) l g e ∙ h)) (ap not (mathlib.Core.Bool.and-false (good_from (book_records b) b)))
    look false e = bad-record b (i + 1) l e

pub book-fine : (b : List ℕ) → ((j : ℕ) → j < book_records b → Fine b j) → bad_book b ≡ false
unfolding bad_book
book-fine b h =
    rw (
      good-all (book_records b) b (λ j l. (h j l).good),
      ascending-all (book_records b) b (λ j l. keys-before b j (j + 1) (omega arith) l (h j (omega arith)).good (h (j + 1) l).good ∙ (h j (omega arith)).up l),
    ) refl

pub book-ascends : (b : List ℕ) → bad_book b ≡ false → ascending (book_keys b) ≡ true
unfolding bad_book
book-ascends b h = (and_parts (good_from (book_records b) b) (ascending (book_keys b)) (not-false (good_from (book_records b) b && ascending (book_keys b)) h)).1

pub good-last : (b : List ℕ) (i : ℕ) (t : Bool) → good_record (book_record b i) ≡ true → i + 1 < book_records b → t ≡ before (book_record b i) (book_record b (i + 1)) → GoodAt b i t
good-last b i true g l e = record { good = g; up = λ m. sym e }
good-last b i false g l e = bad-order b i l g (sym e)

pub book-judged : (b : List ℕ) (t : Bool) → (let keys = range_with_len 0 (book_records b) in
    MatchBool t (AllWithin (Fine b) keys 0 (length keys)) ((k : ℕ) × (k < length keys) × HoldsAt (λ i. bad_book b ≡ true) keys k)) → bad_book b ≡ not t
book-judged b true h =
    book-fine b (λ j l.
    let e : get_or (range_with_len 0 (book_records b)) j 0 ≡ j = get_or-range_with_len 0 (book_records b) j 0 l ∙ zero-add j in
    subst (Fine b) e (h j 0 (omega arith) (omega (arith, length-range_with_len 0 (book_records b)))))
book-judged b false h = h.2 0
