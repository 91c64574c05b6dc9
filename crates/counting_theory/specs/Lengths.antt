-- The shortest and the longest array at a place, said of the values alone: both occur, and no array there is shorter or longer.
use Rattle.std.specs.Prelude.{◌≡◌, List, [], ◌∷◌, ◌⊎◌, ℕ, ◌≤◌, length}
use Rattle.std.proofs.Math.Option.{some}
use Rattle.counting_theory.specs.Payload.{Payload}
use Rattle.counting_theory.specs.Label.{Label}
use Rattle.counting_theory.specs.declared.equivalence.Equivalence.{Equivalence}
use Rattle.counting_theory.specs.Place.{Value, elements_of, values_at, payload_at}

-- P holds of each value, or of some value
abbrev pub Each : (Value → Type 0) → List Value → Type 0
Each P [] = Unit {0}
Each P (v ∷ M) = P v × Each P M

abbrev pub Some : (Value → Type 0) → List Value → Type 0
Some P [] = ⊥
Some P (v ∷ M) = P v ⊎ Some P M

-- the number of elements of an array; a value of any other kind has none
abbrev pub elements_in : Value → ℕ
elements_in v = length (elements_of v)

-- a has the two ends of the lengths of M
pub record LengthsOf (M : List Value) (a : Payload) : Type 0 where
  pub within : Each (λ v. (a.shortest ≤ elements_in v) × (elements_in v ≤ a.longest)) M
  pub shortest-occurs : Some (λ v. elements_in v ≡ a.shortest) M
  pub longest-occurs : Some (λ v. elements_in v ≡ a.longest) M

-- What the values at a place give together has them. Where they are no arrays, both are 0.
abbrev pub LengthsAt : Type 0
LengthsAt = (eq : Equivalence) (M : List Value) (place : List Label) (a : Payload) → payload_at eq M place ≡ some a → LengthsOf (values_at eq M place) a
