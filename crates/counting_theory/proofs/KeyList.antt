-- Lists of keys: putting one in order keeps its members.
use mathlib.Core.Path.{◌≡◌, refl, ◌∙◌, ap}
use mathlib.Core.Bool.{Bool, true, false, cond, ◌||◌}
use mathlib.Core.List.{List, [], ◌∷◌}
use Prim.Native.Nat.{ℕ}
use lib.Dec.{eqb, leb}
use Rattle.value_table.specs.Value.{member}
use Rattle.counting_theory.specs.Raw.{insert_key, ascending}

or-left-comm : (a b c : Bool) → (a || (b || c)) ≡ (b || (a || c))
or-left-comm true true c = refl
or-left-comm true false c = refl
or-left-comm false b c = refl

pub member-insert_key : (k x : ℕ) (xs : List ℕ) → member k (insert_key x xs) ≡ (eqb k x || member k xs)
unfolding member insert_key
member-insert_key k x [] = refl
member-insert_key k x (y ∷ ys) = go (leb x y) (ap (λ t. eqb k y || t) (member-insert_key k x ys) ∙ or-left-comm (eqb k y) (eqb k x) (member k ys))
  where
    go : (t : Bool) → (eqb k y || member k (insert_key x ys)) ≡ (eqb k x || (eqb k y || member k ys)) →
        member k (cond t (x ∷ (y ∷ ys)) (y ∷ insert_key x ys)) ≡ (eqb k x || (eqb k y || member k ys))
    go true i = refl
    go false i = i

pub member-ascending : (k : ℕ) (ks : List ℕ) → member k (ascending ks) ≡ member k ks
unfolding member ascending
member-ascending k [] = refl
member-ascending k (x ∷ ks) = member-insert_key k x (ascending ks) ∙ ap (λ t. eqb k x || t) (member-ascending k ks)
