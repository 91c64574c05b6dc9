-- Key lists are canonical: two records have one under label exactly if they have the same keys.
use mathlib.Core.Path.{◌≡◌, refl, sym, ◌∙◌, ap}
use mathlib.Core.Bool.{Bool, true, false, cond, ◌||◌, true≢false}
use mathlib.Core.List.{List, [], ◌∷◌}
use Prim.Native.Nat.{ℕ, ◌≤◌, ◌<◌}
use native.Mathlib.Nat.{lt_irrefl}
use native.Mathlib.Omega.{arith}
use lib.Dec.{eqb, leb}
use borrow.Author.Tests.{eqb-true, eqb-false, eq-eqb, leb-true, leb-false}
use Rattle.value_table.specs.Value.{keys, member, Distinct, record_kind}
use Rattle.byte_records.proofs.Tests.{or_parts}
use Rattle.counting_theory.specs.Label.{Label, listed, label_of}
use Rattle.counting_theory.specs.declared.equivalence.Equivalence.TheVariants.{Label as by_label}
use Rattle.counting_theory.specs.Raw.{insert_key, ascending}
use Rattle.counting_theory.specs.Place.{LabelsApart}
use Rattle.counting_theory.proofs.KeyList.{member-insert_key, member-ascending}

-- x is below every key of xs
abbrev Below : ℕ → List ℕ → Type 0
Below x xs = (k : ℕ) → member k xs ≡ true → x < k

abbrev Ascends : List ℕ → Type 0
Ascends [] = Unit {0}
Ascends (x ∷ xs) = Below x xs × Ascends xs

or_cases : {X : Type 0} (a b : Bool) → (a || b) ≡ true → (a ≡ true → X) → (b ≡ true → X) → X
or_cases true b h f g = f refl
or_cases false b h f g = g h

insert-ascends : (k : ℕ) (xs : List ℕ) → member k xs ≡ false → Ascends xs → Ascends (insert_key k xs)
unfolding member insert_key
insert-ascends k [] h u = (λ j z. absurd (true≢false (sym z)), tt)
insert-ascends k (x ∷ xs) h u = go (leb k x) refl (insert-ascends k xs new.1 u.1)
  where
    new : (eqb k x ≡ false) × (member k xs ≡ false)
    new = or_parts (eqb k x) (member k xs) h

    go : (b : Bool) → leb k x ≡ b → Ascends (insert_key k xs) → Ascends (cond b (k ∷ x ∷ xs) (x ∷ insert_key k xs))
    go true e i = (λ j z. or_cases (eqb j x) (member j xs) z (λ y. omega (arith, eqb-true j x y, leb-true k x e, eqb-false k x new.0)) (λ y. omega (arith, u.0 j y, leb-true k x e)), u)
    go false e i = (λ j z. or_cases (eqb j k) (member j xs) (sym (member-insert_key j k xs) ∙ z) (λ y. omega (arith, eqb-true j k y, leb-false k x e)) (u.0 j), i)

ascending-ascends : (xs : List ℕ) → Distinct xs → Ascends (ascending xs)
unfolding ascending Distinct
ascending-ascends [] d = tt
ascending-ascends (x ∷ xs) d = insert-ascends x (ascending xs) (member-ascending x xs ∙ d.0) (ascending-ascends xs d.1)

below_new : (x : ℕ) (xs : List ℕ) → Below x xs → member x xs ≡ false
below_new x xs u = go (member x xs) refl
  where
    go : (b : Bool) → member x xs ≡ b → b ≡ false
    go true e = absurd (lt_irrefl x (u x e))
    go false e = refl

member-head : (x : ℕ) (xs : List ℕ) → member x (x ∷ xs) ≡ true
unfolding member
member-head x xs = rw (eq-eqb x x refl) refl

least : (x y : ℕ) (ys : List ℕ) → Below y ys → member x (y ∷ ys) ≡ true → y ≤ x
unfolding member
least x y ys v h = or_cases (eqb x y) (member x ys) h (λ e. omega (arith, eqb-true x y e)) (λ e. omega (arith, v x e))

same-tails : (x : ℕ) (xs ys : List ℕ) → Below x xs → Below x ys → ((k : ℕ) → member k (x ∷ xs) ≡ member k (x ∷ ys)) → (k : ℕ) → member k xs ≡ member k ys
unfolding member
same-tails x xs ys u v h k = go (eqb k x) refl (h k)
  where
    go : (b : Bool) → eqb k x ≡ b → (b || member k xs) ≡ (b || member k ys) → member k xs ≡ member k ys
    go true e i = rw (eqb-true k x e) (below_new x xs u ∙ sym (below_new x ys v))
    go false e i = i

-- ascending lists with the same members are equal
canonical : (xs ys : List ℕ) → Ascends xs → Ascends ys → ((k : ℕ) → member k xs ≡ member k ys) → xs ≡ ys
unfolding member
canonical [] [] u v h = refl
canonical [] (y ∷ ys) u v h = absurd (true≢false (sym (h y ∙ member-head y ys)))
canonical (x ∷ xs) [] u v h = absurd (true≢false (sym (member-head x xs) ∙ h x))
canonical (x ∷ xs) (y ∷ ys) u v h =
    let p = least x y ys v.0 (sym (h x) ∙ member-head x xs) in
    let q = least y x xs u.0 (h y ∙ member-head y ys) in
    let z : x ≡ y = omega arith in
    let i = canonical xs ys u.1 v.1 (same-tails y xs ys (rw z at u.0) v.0 (rw z at h)) in
    cc

pub labels_apart : LabelsApart
unfolding listed
labels_apart c d u v = (
  λ e k. sym (member-ascending k (keys c)) ∙ ap (λ (l : Label). member k l.keys) e ∙ member-ascending k (keys d),
  λ h. ap (label_of by_label record_kind 0)
      (canonical (ascending (keys c)) (ascending (keys d)) (ascending-ascends (keys c) u) (ascending-ascends (keys d) v)
      (λ k. member-ascending k (keys c) ∙ h k ∙ sym (member-ascending k (keys d)))),
)
