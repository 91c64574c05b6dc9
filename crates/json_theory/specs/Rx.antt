-- Regular expressions over bytes, as ABNF writes them, with their words.
use Rattle.std.specs.Prelude.{◌≡◌, Bool, ◌&&◌, ◌⊎◌, List, [], ◌∷◌, ◌++◌, ℕ, ◌≤◌, leb}

-- `range low high` is %xLOW-HIGH, `a then b` a b in a row, `either a b` is a / b, `star a` is *a
pub data Rx : Type 0 where
  never empty : Rx
  range : (low high : ℕ) → Rx
  then either : (a b : Rx) → Rx
  star : (a : Rx) → Rx

-- none or more words of P in a row
pub data Star (P : List ℕ → Type 0) : List ℕ → Type 0 where
  stop : Star P []
  more : {u v : List ℕ} → P u → Star P v → Star P (u ++ v)

-- w is a word of the expression
abbrev pub Word : Rx → List ℕ → Type 0
Word never w = ⊥
Word empty w = w ≡ []
Word (range low high) w = (c : ℕ) × (low ≤ c) × (c ≤ high) × (w ≡ c ∷ [])
Word (then a b) w = (u : List ℕ) × (v : List ℕ) × Word a u × Word b v × (w ≡ u ++ v)
Word (either a b) w = Word a w ⊎ Word b w
Word (star a) w = Star (Word a) w

-- c is one of %xLOW-HIGH
abbrev pub within : ℕ → ℕ → ℕ → Bool
within low high c = leb low c && leb c high
