-- The number of a key is its place in the book, counted from 1.
use mathlib.Core.Path.{◌≡◌, refl, sym, ◌∙◌, ap, subst}
use mathlib.Core.Bool.{Bool, true, false, cond, ◌&&◌}
use mathlib.Core.Logic.{◌⊎◌, inl, inr, ◌↔◌}
use mathlib.Core.List.{List, [], ◌∷◌}
use Prim.Native.Nat.{ℕ, zero, suc, ◌+◌, ◌≤◌, ◌<◌}
use native.Mathlib.Omega.{arith}
use lib.Dec.{eqb, ltb}
use lib.ListN.{length, get_or, drop}
use borrow.Author.Tests.{eqb-true, eq-eqb, ltb-true, lt-ltb, le-ltb, not-false}
use Rattle.byte_records.proofs.Tests.{same-eq, same_refl, and_parts}
use Rattle.byte_records.specs.Number.{same_bytes}
use Rattle.value_table.specs.Value.{member, max_length}
use Rattle.json_theory.specs.Book.{book_size, before, book_records, keys_from, precedes, ascending, book_keys, good_from, bad_book, place_of, key_number}
use Rattle.json_theory.proofs.Rx.{false-true, or-out}

-- a strict order
pub before-irreflexive : (a : List ℕ) → before a a ≡ false
unfolding before
before-irreflexive [] = refl
before-irreflexive (x ∷ a) = rw (le-ltb x x (omega arith), eq-eqb x x refl) (before-irreflexive a)

before-parts : (x : ℕ) (a : List ℕ) (y : ℕ) (b : List ℕ) → before (x ∷ a) (y ∷ b) ≡ true → (x < y) ⊎ ((x ≡ y) × (before a b ≡ true))
unfolding before
before-parts x a y b h = go (or-out (ltb x y) (eqb x y && before a b) h)
  where
    go : (ltb x y ≡ true) ⊎ ((eqb x y && before a b) ≡ true) → (x < y) ⊎ ((x ≡ y) × (before a b ≡ true))
    go (inl p) = inl (ltb-true x y p)
    go (inr p) = let q = and_parts (eqb x y) (before a b) p in inr (eqb-true x y q.0, q.1)

before-less : (x : ℕ) (a : List ℕ) (y : ℕ) (b : List ℕ) → x < y → before (x ∷ a) (y ∷ b) ≡ true
unfolding before
before-less x a y b h = rw (lt-ltb x y h) refl

before_more : (x : ℕ) (a : List ℕ) (y : ℕ) (b : List ℕ) → x ≡ y → before a b ≡ true → before (x ∷ a) (y ∷ b) ≡ true
unfolding before
before_more x a y b e h = rw (le-ltb x y (omega arith), eq-eqb x y e) h

pub before-trans : (a b c : List ℕ) → before a b ≡ true → before b c ≡ true → before a c ≡ true
unfolding before
before-trans a b [] p q = false-true (go b q)
  where
    go : (b : List ℕ) → before b [] ≡ true → false ≡ true
    go b q = q
before-trans [] b (z ∷ c) p q = refl
before-trans (x ∷ a) [] (z ∷ c) p q = false-true p
before-trans (x ∷ a) (y ∷ b) (z ∷ c) p q = go (before-parts x a y b p) (before-parts y b z c q) (before-trans a b c)
  where
    go : (x < y) ⊎ ((x ≡ y) × (before a b ≡ true)) → (y < z) ⊎ ((y ≡ z) × (before b c ≡ true)) → (before a b ≡ true → before b c ≡ true → before a c ≡ true) →
        before (x ∷ a) (z ∷ c) ≡ true
    go (inl u) (inl v) f = before-less x a z c (omega arith)
    go (inl u) (inr v) f = before-less x a z c (omega (arith, v.0))
    go (inr u) (inl v) f = before-less x a z c (omega (arith, u.0))
    go (inr u) (inr v) f = before_more x a z c (u.0 ∙ v.0) (f u.1 v.1)

-- the keys of an ascending list ascend
pub ascends : (k : List ℕ) (ks : List (List ℕ)) (i : ℕ) → ascending (k ∷ ks) ≡ true → i < length ks → before k (get_or ks i []) ≡ true
unfolding ascending
ascends k [] i h l = absurd (omega arith)
ascends k (j ∷ js) zero h l = (and_parts (before k j) (ascending (j ∷ js)) h).0
ascends k (j ∷ js) (suc i) h l =
    let p = and_parts (before k j) (ascending (j ∷ js)) h in
    before-trans k j (get_or js i []) p.0 (ascends j js i p.1 (omega arith))

-- found: at that place stands the key
pub place_found : (w : List ℕ) (i : ℕ) (ks : List (List ℕ)) (n : ℕ) → place_of w i ks ≡ suc n → 1 ≤ i →
    (j : ℕ) × (j < length ks) × (suc n ≡ i + j) × (get_or ks j [] ≡ w)
unfolding place_of
place_found w i [] n h l = absurd (omega arith)
place_found w i (k ∷ ks) n h l = go (same_bytes w k) refl h (place_found w (suc i) ks n)
  where
    go : (t : Bool) → same_bytes w k ≡ t → cond t i (place_of w (suc i) ks) ≡ suc n →
        (place_of w (suc i) ks ≡ suc n → 1 ≤ suc i → (j : ℕ) × (j < length ks) × (suc n ≡ suc i + j) × (get_or ks j [] ≡ w)) →
        (j : ℕ) × (j < length (k ∷ ks)) × (suc n ≡ i + j) × (get_or (k ∷ ks) j [] ≡ w)
    go true e h f = (0, omega arith, omega arith, sym (same-eq w k e))
    go false e h f = let r = f h (omega arith) in (suc r.0, omega (arith, r.1), omega (arith, r.2), r.3)

-- and the key at place j of an ascending list is found there
pub place-of : (i : ℕ) (ks : List (List ℕ)) (j : ℕ) → ascending ks ≡ true → j < length ks → place_of (get_or ks j []) i ks ≡ i + j
unfolding place_of ascending
place-of i [] j h l = absurd (omega arith)
place-of i (k ∷ ks) zero h l = rw (same_refl k) (omega arith)
place-of i (k ∷ ks) (suc j) h l =
    let b = ascends k ks j h (omega arith) in
    let p = and_parts (precedes k ks) (ascending ks) h in
    rw (other (get_or ks j []) b) (place-of (suc i) ks j p.1 (omega arith) ∙ omega arith)
  where
    other : (x : List ℕ) → before k x ≡ true → same_bytes x k ≡ false
    other x b = go (same_bytes x k) refl
      where
        go : (t : Bool) → same_bytes x k ≡ t → t ≡ false
        go true e = false-true (sym (before-irreflexive x) ∙ subst (λ (y : List ℕ). before y x ≡ true) (sym (same-eq x k e)) b)
        go false e = refl

pub keys_length : (n : ℕ) (b : List ℕ) → length (keys_from n b) ≡ n
unfolding keys_from
keys_length zero b = refl
keys_length (suc n) b = ap suc (keys_length n (drop book_size b))

pub place-below : (w : List ℕ) (i : ℕ) (ks : List (List ℕ)) → 1 ≤ i → place_of w i ks < i + length ks
unfolding place_of
place-below w i [] h = omega arith
place-below w i (k ∷ ks) h = go (same_bytes w k) (place-below w (suc i) ks (omega arith))
  where
    go : (t : Bool) → place_of w (suc i) ks < suc i + length ks → cond t i (place_of w (suc i) ks) < i + suc (length ks)
    go true l = omega arith
    go false l = omega arith

-- a book of at most 65,536 bytes
pub number_small : (b : List ℕ) → length b ≤ max_length → (w : List ℕ) → key_number b w < 65536
unfolding key_number
number_small b h w = go (member 0x5C w)
  where
    go : (t : Bool) → cond t 0 (place_of w 1 (book_keys b)) < 65536
    go true = omega arith
    go false = omega (arith, place-below w 1 (book_keys b) (omega arith), keys_length (book_records b) b)

-- key i + 1 is the key of the book's record i, spelled without an escape
pub key-number : (b w : List ℕ) (i : ℕ) → bad_book b ≡ false →
    (key_number b w ≡ suc i) ↔ ((i < book_records b) × (get_or (book_keys b) i [] ≡ w) × (member 0x5C w ≡ false))
unfolding key_number bad_book
key-number b w i good = (go (member 0x5C w), back)
  where
    up : ascending (book_keys b) ≡ true
    up = (and_parts (good_from (book_records b) b) (ascending (book_keys b)) (not-false (good_from (book_records b) b && ascending (book_keys b)) good)).1

    go : (t : Bool) → cond t 0 (place_of w 1 (book_keys b)) ≡ suc i → (i < book_records b) × (get_or (book_keys b) i [] ≡ w) × (t ≡ false)
    go true h = absurd (omega arith)
    go false h =
        let r = place_found w 1 (book_keys b) i h (omega arith) in
        let e : r.0 ≡ i = omega (arith, r.2) in
        (omega (arith, r.1, keys_length (book_records b) b), subst (λ (j : ℕ). get_or (book_keys b) j [] ≡ w) e r.3, refl)

    back : (i < book_records b) × (get_or (book_keys b) i [] ≡ w) × (member 0x5C w ≡ false) → cond (member 0x5C w) 0 (place_of w 1 (book_keys b)) ≡ suc i
    back h =
        let p = place-of 1 (book_keys b) i up (omega (arith, h.0, keys_length (book_records b) b)) in
        rw h.2 (subst (λ (x : List ℕ). place_of x 1 (book_keys b) ≡ suc i) h.1 (p ∙ omega arith))
