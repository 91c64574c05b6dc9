-- Compound tests, told by their parts; and the test for equal bytes.
use mathlib.Core.Path.{◌≡◌, refl}
use mathlib.Core.Bool.{Bool, true, false, ◌&&◌, ◌||◌}
use mathlib.Core.List.{List, [], ◌∷◌}
use Prim.Native.Nat.{ℕ}
use borrow.Author.Tests.{eqb-true, eq-eqb}
use Rattle.byte_records.specs.Number.{same_bytes}

pub or_parts : (s t : Bool) → (s || t) ≡ false → (s ≡ false) × (t ≡ false)
or_parts true t e = (e, cc)
or_parts false t e = (refl, e)

pub and_parts : (s t : Bool) → (s && t) ≡ true → (s ≡ true) × (t ≡ true)
and_parts true t e = (refl, e)
and_parts false t e = (e, cc)

pub and-false : (s t : Bool) → (s ≡ true → t ≡ false) → (s && t) ≡ false
and-false true t h = h refl
and-false false t h = refl

pub same_refl : (m : List ℕ) → same_bytes m m ≡ true
unfolding same_bytes
same_refl [] = refl
same_refl (x ∷ m) = rw (eq-eqb x x refl) (same_refl m)

pub same-eq : (m k : List ℕ) → same_bytes m k ≡ true → m ≡ k
unfolding same_bytes
same-eq [] [] h = refl
same-eq [] (y ∷ k) h = cc
same-eq (x ∷ m) [] h = cc
same-eq (x ∷ m) (y ∷ k) h =
    let p = and_parts _ _ h in
    let z = eqb-true x y p.0 in
    let w = same-eq m k p.1 in
    cc
