-- The entry i of a list, and the others.
use mathlib.Core.Path.{◌≡◌, refl, ap}
use mathlib.Core.List.Permᴰ
use mathlib.Core.List.{List, [], ◌∷◌, map, Permᴰ}
use mathlib.Core.Option.{some}
use Prim.Native.Nat.{ℕ, zero, suc, ◌<◌}
use native.Mathlib.Omega.{arith}
use lib.ListN.{length}
use Rattle.counting_theory.specs.Ways.{pull}

module _ {A B : Type 0} (h : A → B) where
  -- what pull finds in the list of what h gives at each entry of xs
  pub record Pulled (i : ℕ) (xs : List A) : Type 0 where
    pub entry : A
    pub others : List A
    pub found : pull i (map h xs) ≡ some (h entry, map h others)
    pub same : Permᴰ xs (entry ∷ others)
    pub fewer : length xs ≡ suc (length others)

  pub pulled : (i : ℕ) (xs : List A) → i < length xs → Pulled i xs
  unfolding pull
  pulled i [] below = absurd (omega arith)
  pulled zero (x ∷ xs) below = record { entry = x; others = xs; found = refl; same = Permᴰ.refl (x ∷ xs); fewer = refl }
  pulled (suc i) (x ∷ xs) below =
      let p = pulled i xs (omega arith) in
      record {
        entry = p.entry;
        others = x ∷ p.others;
        found = rw p.found refl;
        same = Permᴰ.trans (Permᴰ.cons refl p.same) (Permᴰ.swap refl refl);
        fewer = ap suc p.fewer;
      }

pub pull-found : {A : Type 0} (i : ℕ) (xs : List A) → i < length xs → (x : A) × (rest : List A) × (pull i xs ≡ some (x, rest)) × (length xs ≡ suc (length rest))
unfolding pull
pull-found i [] below = absurd (omega arith)
pull-found zero (x ∷ xs) below = (x, xs, refl, refl)
pull-found (suc i) (x ∷ xs) below = let p = pull-found i xs (omega arith) in (p.0, x ∷ p.1, rw p.2 refl, ap suc p.3)
