-- The orders that labels are made of: numbers, pairs, lists, and what a key tells apart.
use mathlib.Core.Path.{◌≡◌, refl, sym, ◌∙◌, ap}
use mathlib.Core.List.{List, [], ◌∷◌}
use Prim.Native.Nat.Ordering.{eq}
use Prim.Native.Nat.Ordering.{gt}
use Prim.Native.Nat.Ordering.{lt}
use Prim.Native.Nat.compare
use Prim.Native.Nat.{ℕ, zero, suc, ◌<◌, compare, Ordering}
use native.Mathlib.Omega.{arith}
use lib.Dec.{is_le, compare_is_eq}
use borrow.Author.Tests.{leb-true, leb-false, eqb-false}
use Rattle.std.specs.declared.cmp.Ordering as code
use Rattle.std.specs.declared.cmp.Ordering.TheVariants.{Less, Equal, Greater}
use Rattle.std.specs.Ordering.{MatchOrdering, nat_cmp, ordering_then}
use Rattle.std.specs.Cmp.{ranks}
use Rattle.counting_theory.specs.Order.{then, compare_pair, compare_list, compare_on, ordering_of}
use Rattle.counting_theory.specs.Inside.TrieLaws.{flip, IsOrder}

pub number-refl : (n : ℕ) → compare n n ≡ eq
number-refl zero = compare.zero-zero
number-refl (suc n) = compare.suc-suc n n ∙ number-refl n

number-eq : (m n : ℕ) → compare m n ≡ eq → m ≡ n
number-eq zero zero e = refl
number-eq zero (suc n) e = let z = compare.zero-suc n in cc
number-eq (suc m) zero e = let z = compare.suc-zero m in cc
number-eq (suc m) (suc n) e = ap suc (number-eq m n (sym (compare.suc-suc m n) ∙ e))

number-flip : (m n : ℕ) → compare n m ≡ flip (compare m n)
number-flip zero zero = refl
number-flip zero (suc n) = rw (compare.zero-suc n, compare.suc-zero n)
number-flip (suc m) zero = rw (compare.zero-suc m, compare.suc-zero m)
number-flip (suc m) (suc n) = rw (compare.suc-suc m n, compare.suc-suc n m) (number-flip m n)

number-trans : (m n k : ℕ) → compare m n ≡ lt → compare n k ≡ lt → compare m k ≡ lt
number-trans zero zero zero e h = e
number-trans zero zero (suc k) e h = h
number-trans zero (suc n) zero e h = let z = compare.suc-zero n in cc
number-trans zero (suc n) (suc k) e h = compare.zero-suc k
number-trans (suc m) zero k e h = let z = compare.suc-zero m in cc
number-trans (suc m) (suc n) zero e h = let z = compare.suc-zero n in cc
number-trans (suc m) (suc n) (suc k) e h =
    compare.suc-suc m k ∙ number-trans m n k (sym (compare.suc-suc m n) ∙ e) (sym (compare.suc-suc n k) ∙ h)

pub number-order : IsOrder compare
number-order =
    record {
      compare_refl = number-refl;
      compare-eq = λ {x} {y}. number-eq x y;
      compare-flip = number-flip;
      compare-trans = λ {x} {y} {z}. number-trans x y z;
    }

pub compare-less : (m n : ℕ) → compare m n ≡ lt → m < n
compare-less m n h = omega (arith, leb-true m n (ap is_le h), eqb-false m n (ap compare_is_eq h))

pub less-compare : (m n : ℕ) → m < n → compare m n ≡ lt
less-compare m n h = go (compare m n) refl
  where
    go : (o : Ordering) → compare m n ≡ o → o ≡ lt
    go lt e = refl
    go eq e = absurd (omega (arith, number-eq m n e))
    go gt e = absurd (omega (arith, leb-false m n (ap is_le e)))

pub then-eq : (o u : Ordering) → then o u ≡ eq → (o ≡ eq) × (u ≡ eq)
unfolding then
then-eq lt u e = (e, cc)
then-eq eq u e = (refl, e)
then-eq gt u e = (e, cc)

then_flip : (o u : Ordering) → then (flip o) (flip u) ≡ flip (then o u)
unfolding then
then_flip lt u = refl
then_flip eq u = refl
then_flip gt u = refl

pub then_same : (o : Ordering) → then o eq ≡ o
unfolding then
then_same lt = refl
then_same eq = refl
then_same gt = refl

pub then-assoc : (o u v : Ordering) → then o (then u v) ≡ then (then o u) v
unfolding then
then-assoc lt u v = refl
then-assoc eq u v = refl
then-assoc gt u v = refl

module _ {A : Type 0} {compare_a : A → A → Ordering} (O : IsOrder compare_a) where
  open O use {compare_refl, compare-eq, compare-flip, compare-trans}

  then-refl : (x : A) (u : Ordering) → then (compare_a x x) u ≡ u
  unfolding then
  then-refl x u = rw (compare_refl x)

  -- transitive where what follows, compared by o, u and v, is
  then-trans : (x y z : A) (o u v : Ordering) → (o ≡ lt → u ≡ lt → v ≡ lt) →
      then (compare_a x y) o ≡ lt → then (compare_a y z) u ≡ lt → then (compare_a x z) v ≡ lt
  unfolding then
  then-trans x y z o u v h = go (compare_a x y) (compare_a y z) refl refl
    where
      go : (i j : Ordering) → compare_a x y ≡ i → compare_a y z ≡ j → then i o ≡ lt → then j u ≡ lt → then (compare_a x z) v ≡ lt
      go lt lt p q e f = rw (compare-trans p q)
      go lt eq p q e f = rw (← compare-eq q, p)
      go lt gt p q e f = cc
      go eq lt p q e f = rw (compare-eq p, q)
      go eq eq p q e f = rw (compare-eq p, q) (h e f)
      go eq gt p q e f = cc
      go gt j p q e f = cc

  pub pair-order : {B : Type 0} {compare_b : B → B → Ordering} → IsOrder compare_b → IsOrder (compare_pair compare_a compare_b)
  unfolding compare_pair
  pair-order {compare_b = compare_b} P =
      record {
        compare_refl = λ x. then-refl x.0 (compare_b x.1 x.1) ∙ P.compare_refl x.1;
        compare-eq = λ {x} {y} e.
            let h = then-eq (compare_a x.0 y.0) (compare_b x.1 y.1) e in
            λ i. (compare-eq h.0 i, P.compare-eq h.1 i);
        compare-flip = λ x y. rw (compare-flip x.0 y.0, P.compare-flip x.1 y.1) (then_flip (compare_a x.0 y.0) (compare_b x.1 y.1));
        compare-trans = λ {x} {y} {z}.
            then-trans x.0 y.0 z.0 (compare_b x.1 y.1) (compare_b y.1 z.1) (compare_b x.1 z.1) P.compare-trans;
      }

  list-refl : (xs : List A) → compare_list compare_a xs xs ≡ eq
  unfolding compare_list
  list-refl [] = refl
  list-refl (x ∷ xs) = then-refl x (compare_list compare_a xs xs) ∙ list-refl xs

  list-eq : (xs ys : List A) → compare_list compare_a xs ys ≡ eq → xs ≡ ys
  unfolding compare_list
  list-eq [] [] e = refl
  list-eq [] (y ∷ ys) e = cc
  list-eq (x ∷ xs) [] e = cc
  list-eq (x ∷ xs) (y ∷ ys) e =
      let h = then-eq (compare_a x y) (compare_list compare_a xs ys) e in
      let p = compare-eq h.0 in
      let q = list-eq xs ys h.1 in
      cc

  list-flip : (xs ys : List A) → compare_list compare_a ys xs ≡ flip (compare_list compare_a xs ys)
  unfolding compare_list
  list-flip [] [] = refl
  list-flip [] (y ∷ ys) = refl
  list-flip (x ∷ xs) [] = refl
  list-flip (x ∷ xs) (y ∷ ys) = rw (compare-flip x y, list-flip xs ys) (then_flip (compare_a x y) (compare_list compare_a xs ys))

  list-trans : (xs ys zs : List A) → compare_list compare_a xs ys ≡ lt → compare_list compare_a ys zs ≡ lt → compare_list compare_a xs zs ≡ lt
  unfolding compare_list
  list-trans [] [] zs e f = f
  list-trans [] (y ∷ ys) [] e f = cc
  list-trans [] (y ∷ ys) (z ∷ zs) e f = refl
  list-trans (x ∷ xs) [] zs e f = cc
  list-trans (x ∷ xs) (y ∷ ys) [] e f = cc
  list-trans (x ∷ xs) (y ∷ ys) (z ∷ zs) e f =
      then-trans x y z (compare_list compare_a xs ys) (compare_list compare_a ys zs) (compare_list compare_a xs zs) (list-trans xs ys zs) e f

  pub list-order : IsOrder (compare_list compare_a)
  list-order =
      record {
        compare_refl = list-refl;
        compare-eq = λ {x} {y}. list-eq x y;
        compare-flip = list-flip;
        compare-trans = λ {x} {y} {z}. list-trans x y z;
      }

  -- pulled back along an injection
  pub order-on : {B : Type 0} (key : B → A) → ((x y : B) → key x ≡ key y → x ≡ y) → IsOrder (compare_on compare_a key)
  unfolding compare_on
  order-on key injective =
      record {
        compare_refl = λ x. compare_refl (key x);
        compare-eq = λ {x} {y} e. injective x y (compare-eq e);
        compare-flip = λ x y. compare-flip (key x) (key y);
        compare-trans = compare-trans;
      }

pub more-compare : (m n : ℕ) → n < m → compare m n ≡ gt
more-compare m n h = number-flip n m ∙ ap flip (less-compare n m h)

-- the code's comparison of numbers, and of two comparisons the first that tells its arguments apart
pub ordering-compare : (m n : ℕ) → ordering_of (nat_cmp m n) ≡ compare m n
ordering-compare m n = go (nat_cmp m n) (ranks m n)
  where
    go : (o : code.Ordering) → MatchOrdering o (m < n) (m ≡ n) (n < m) → ordering_of o ≡ compare m n
    go Less h = sym (less-compare m n h)
    go Equal h = sym (rw h (number-refl n))
    go Greater h = sym (more-compare m n h)

pub ordering-then : (o u : code.Ordering) → ordering_of (ordering_then o u) ≡ then (ordering_of o) (ordering_of u)
unfolding then
ordering-then Less u = refl
ordering-then Equal u = refl
ordering-then Greater u = refl
