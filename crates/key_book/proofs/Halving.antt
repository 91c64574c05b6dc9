-- How a key is found: the book's keys ascend, so that halving finds it, and whole 32-byte records compare as their keys do.
use mathlib.Core.Path.{◌≡◌, refl, sym, ◌∙◌, ap, subst}
use mathlib.Core.Bool.{Bool, true, false, cond, ◌&&◌, ◌||◌}
use mathlib.Core.List.{List, [], ◌∷◌}
use Prim.Native.Nat.{ℕ, zero, suc, ◌+◌, ◌*◌, ◌≤◌, ◌<◌}
use native.Mathlib.Omega.{arith}
use lib.Dec.{eqb, ltb}
use lib.ListN.{length, get_or, take, drop, length-take}
use lib.Seq.{drop-drop}
use borrow.Author.Tests.{eqb-true, eqb-false, eq-eqb, ne_eqb, ltb-true, ltb-false, lt-ltb, le-ltb}
use Rattle.byte_records.specs.Number.{same_bytes}
use Rattle.json_theory.specs.Book.{book_size, key_of, all_zero, padded, before, keys_from, precedes, ascending, place_of}
use Rattle.byte_records.proofs.Tests.{and_parts, same-eq}
use Rattle.json_theory.proofs.Rx.{false-true}
use Rattle.json_theory.proofs.Book.{before-irreflexive, before-trans, ascends, place_found}

-- earlier keys come first
pub ascends-at : (ks : List (List ℕ)) (i j : ℕ) → ascending ks ≡ true → i < j → j < length ks → before (get_or ks i []) (get_or ks j []) ≡ true
unfolding ascending
ascends-at [] i j h l m = absurd (omega arith)
ascends-at (k ∷ ks) zero zero h l m = absurd (omega arith)
ascends-at (k ∷ ks) zero (suc j) h l m = ascends k ks j h (omega arith)
ascends-at (k ∷ ks) (suc i) zero h l m = absurd (omega arith)
ascends-at (k ∷ ks) (suc i) (suc j) h l m = ascends-at ks i j (and_parts (precedes k ks) (ascending ks) h).1 (omega arith) (omega arith)

-- where w can stand: from low on, before high
abbrev pub Among : List ℕ → List (List ℕ) → ℕ → ℕ → Type 0
Among w ks low high = (j : ℕ) → j < length ks → get_or ks j [] ≡ w → (low ≤ j) × (j < high)

module _ (w : List ℕ) (ks : List (List ℕ)) (up : ascending ks ≡ true) (low high m : ℕ) (l : m < length ks) (h : Among w ks low high) where
  -- w comes before key m, or behind it
  pub among-left : before w (get_or ks m []) ≡ true → Among w ks low m
  among-left b j k e = ((h j k e).0, go (ltb j m) refl)
    where
      go : (t : Bool) → ltb j m ≡ t → j < m
      go true q = ltb-true j m q
      go false q = same (eqb m j) refl
        where
          same : (t : Bool) → eqb m j ≡ t → j < m
          same true r =
              let x : before w w ≡ true = subst (λ (y : List ℕ). before w y ≡ true) (ap (λ (i : ℕ). get_or ks i []) (eqb-true m j r) ∙ e) b in
              false-true (sym (before-irreflexive w) ∙ x)
          same false r =
              let x = ascends-at ks m j up (omega (arith, ltb-false j m q, eqb-false m j r)) k in
              false-true (sym (before-irreflexive w) ∙ before-trans w (get_or ks m []) w b (subst (λ (y : List ℕ). before (get_or ks m []) y ≡ true) e x))

  pub among-right : before (get_or ks m []) w ≡ true → Among w ks (m + 1) high
  among-right b j k e = (go (ltb m j) refl, (h j k e).1)
    where
      go : (t : Bool) → ltb m j ≡ t → m + 1 ≤ j
      go true q = omega (arith, ltb-true m j q)
      go false q = same (eqb m j) refl
        where
          same : (t : Bool) → eqb m j ≡ t → m + 1 ≤ j
          same true r =
              let x : before w w ≡ true = subst (λ (y : List ℕ). before y w ≡ true) (ap (λ (i : ℕ). get_or ks i []) (eqb-true m j r) ∙ e) b in
              false-true (sym (before-irreflexive w) ∙ x)
          same false r =
              let x = ascends-at ks j m up (omega (arith, ltb-false m j q, eqb-false m j r)) l in
              false-true (sym (before-irreflexive w) ∙ before-trans w (get_or ks m []) w (subst (λ (y : List ℕ). before y (get_or ks m []) ≡ true) e x) b)

-- nowhere left: unlisted
pub among_none : (w : List ℕ) (ks : List (List ℕ)) (low high : ℕ) → high ≤ low → Among w ks low high → place_of w 1 ks ≡ 0
among_none w ks low high l h = go (place_of w 1 ks) refl
  where
    go : (n : ℕ) → place_of w 1 ks ≡ n → n ≡ 0
    go zero e = refl
    go (suc n) e =
        let r = place_found w 1 ks n e (omega arith) in
        let x = h r.0 r.1 r.3 in
        absurd (omega arith)

-- key i is that of record i
pub key-at : (n i : ℕ) (b : List ℕ) → i < n → get_or (keys_from n b) i [] ≡ key_of (take book_size (drop (book_size * i) b))
unfolding keys_from
key-at zero i b l = absurd (omega arith)
key-at (suc n) zero b l = refl
key-at (suc n) (suc i) b l =
    let e : book_size * suc i ≡ book_size + book_size * i = omega arith in
    key-at n i (drop book_size b) (omega arith) ∙ rw (e, drop-drop (book_size * i) book_size b) refl

-- keys compare as their records do
zeros-before : (x y : List ℕ) → length x ≡ length y → all_zero x ≡ true → all_zero y ≡ true → before x y ≡ false
unfolding before all_zero
zeros-before x [] l p q = refl
zeros-before [] (b ∷ y) l p q = absurd (omega arith)
zeros-before (a ∷ x) (b ∷ y) l p q =
    let u = and_parts (eqb a 0) (all_zero x) p in
    let v = and_parts (eqb b 0) (all_zero y) q in
    rw (le-ltb a b (omega (arith, eqb-true b 0 v.0)), eq-eqb a b (eqb-true a 0 u.0 ∙ sym (eqb-true b 0 v.0))) (zeros-before x y (omega arith) u.1 v.1)

pub before-padded : (x y : List ℕ) → length x ≡ length y → padded x ≡ true → padded y ≡ true → before (key_of x) (key_of y) ≡ before x y
unfolding before key_of padded
before-padded [] [] l p q = refl
before-padded [] (b ∷ y) l p q = absurd (omega arith)
before-padded (a ∷ x) [] l p q = absurd (omega arith)
before-padded (a ∷ x) (b ∷ y) l p q = go (eqb a 0) (eqb b 0) refl refl p q (before-padded x y (omega arith))
  where
    go : (s t : Bool) → eqb a 0 ≡ s → eqb b 0 ≡ t → cond s (all_zero x) (padded x) ≡ true → cond t (all_zero y) (padded y) ≡ true →
        (padded x ≡ true → padded y ≡ true → before (key_of x) (key_of y) ≡ before x y) →
        before (cond s [] (a ∷ key_of x)) (cond t [] (b ∷ key_of y)) ≡ (ltb a b || (eqb a b && before x y))
    go true true u v p q f =
        rw (le-ltb a b (omega (arith, eqb-true b 0 v)), zeros-before x y (omega arith) p q, mathlib.Core.Bool.and-false (eqb a b)) refl
    go true false u v p q f = rw (lt-ltb a b (omega (arith, eqb-true a 0 u, eqb-false b 0 v))) refl
    go false true u v p q f = rw (le-ltb a b (omega (arith, eqb-true b 0 v)), ne_eqb a b (λ e. eqb-false a 0 u (e ∙ eqb-true b 0 v))) refl
    go false false u v p q f = rw (f p q) refl

-- a key of more than 32 bytes is unlisted
key-short : (r : List ℕ) → length (key_of r) ≤ length r
unfolding key_of
key-short [] = omega arith
key-short (c ∷ r) = go (eqb c 0) (key-short r)
  where
    go : (t : Bool) → length (key_of r) ≤ length r → length (cond t [] (c ∷ key_of r)) ≤ suc (length r)
    go true h = omega arith
    go false h = omega arith

pub long-unlisted : (b w : List ℕ) (n i : ℕ) → book_size < length w → place_of w (suc i) (keys_from n b) ≡ 0
unfolding place_of keys_from
long-unlisted b w zero i l = refl
long-unlisted b w (suc n) i l = rw (other (same_bytes w key) refl) (long-unlisted (drop book_size b) w n (suc i) l)
  where
    key : List ℕ
    key = key_of (take book_size b)

    short : length key ≤ book_size
    short = omega (arith, key-short (take book_size b), length-take book_size b)

    other : (t : Bool) → same_bytes w key ≡ t → t ≡ false
    other true e = let z : w ≡ key = same-eq w key e in absurd (omega (arith, ap length z, short))
    other false e = refl
