-- What holds of every value of a list; and that parts of valid values are valid.
use mathlib.Core.Path.{◌≡◌, refl}
use mathlib.Core.Bool.{Bool, true, false, cond}
use mathlib.Core.List.{List, [], ◌∷◌, ◌++◌, flat_map}
use Prim.Native.Nat.{ℕ, suc}
use lib.Dec.{eqb}
use Rattle.value_table.specs.Value.{Values, none, value, record_kind, array_kind, Proper, ValidAt}
use Rattle.counting_theory.specs.Label.{Label}
use Rattle.counting_theory.specs.declared.equivalence.Equivalence.{Equivalence}
use Rattle.counting_theory.specs.Place.{Value, values_of, values_with, elements_of, elements, field_of, field_values, select, of_class}

abbrev pub Every : (Value → Type 0) → List Value → Type 0
Every P [] = Unit {0}
Every P (v ∷ M) = P v × Every P M

-- a value of a valid run
pub record ValidValue (v : Value) : Type 0 where
  pub field : Bool
  pub depth : ℕ
  pub key : ℕ
  pub proper : Proper field depth v.head key v.content
  pub inner : ValidAt (eqb v.head.kind record_kind) (suc depth) v.content

abbrev pub EachValid : List Value → Type 0
EachValid M = Every ValidValue M

module _ (P : Value → Type 0) where
  every_append : (M N : List Value) → Every P M → Every P N → Every P (M ++ N)
  every_append [] N m n = n
  every_append (v ∷ M) N m n = (m.0, every_append M N m.1 n)

  every-cond : (b : Bool) (M : List Value) → Every P M → Every P (cond b M [])
  every-cond true M m = m
  every-cond false M m = tt

  pub every_map : (Q : Value → Type 0) → ((v : Value) → P v → Q v) → (M : List Value) → Every P M → Every Q M
  every_map Q h [] m = tt
  every_map Q h (v ∷ M) m = (h v m.0, every_map Q h M m.1)

  every-flat_map : (f : Value → List Value) → ((v : Value) → P v → Every P (f v)) → (M : List Value) → Every P M → Every P (flat_map f M)
  unfolding flat_map
  every-flat_map f h [] m = tt
  every-flat_map f h (v ∷ M) m = every_append (f v) (flat_map f M) (h v m.0) (every-flat_map f h M m.1)

  pub every-select : (test : Value → Bool) (M : List Value) → Every P M → Every P (select test M)
  unfolding select
  every-select test [] m = tt
  every-select test (v ∷ M) m = go (test v) (every-select test M m.1)
    where
      go : (b : Bool) → Every P (select test M) → Every P (cond b (v ∷ select test M) (select test M))
      go true i = (m.0, i)
      go false i = i

-- where no value passes the test, none is selected
pub select-none : (test : Value → Bool) (M : List Value) → Every (λ v. test v ≡ false) M → select test M ≡ []
unfolding select
select-none test [] m = refl
select-none test (v ∷ M) m = rw m.0 (select-none test M m.1)

pub valid-class : (e : Equivalence) (l : Label) (M : List Value) → EachValid M → EachValid (of_class e l M)
unfolding of_class
valid-class e l M = every-select ValidValue _ M

module _ (field : Bool) (depth : ℕ) where
  pub valid-values : (c : Values) → ValidAt field depth c → EachValid (values_of c)
  unfolding values_of ValidAt
  valid-values none h = tt
  valid-values (value head key content next) h =
      (record { field = field; depth = depth; key = key; proper = h.0; inner = h.1 }, valid-values next h.2)

  valid-with : (k : ℕ) (c : Values) → ValidAt field depth c → EachValid (values_with k c)
  unfolding values_with ValidAt
  valid-with k none h = tt
  valid-with k (value head key content next) h = go (eqb k key) (valid-with k next h.2)
    where
      go : (b : Bool) → EachValid (values_with k next) →
          EachValid (cond b (record { head = head; content = content } ∷ values_with k next) (values_with k next))
      go true i = (record { field = field; depth = depth; key = key; proper = h.0; inner = h.1 }, i)
      go false i = i

pub valid-elements : (M : List Value) → EachValid M → EachValid (elements M)
unfolding elements
valid-elements =
    every-flat_map ValidValue elements_of
    (λ v h. every-cond ValidValue (eqb v.head.kind array_kind) (values_of v.content) (valid-values _ _ v.content h.inner))

pub valid-under : (k : ℕ) (M : List Value) → EachValid M → EachValid (field_values k M)
unfolding field_values
valid-under k =
    every-flat_map ValidValue (field_of k)
    (λ v h. every-cond ValidValue (eqb v.head.kind record_kind) (values_with k v.content) (valid-with _ _ k v.content h.inner))
