-- A buffer cleared from a byte on.
use mathlib.Core.Path.{◌≡◌, refl}
use mathlib.Core.List.{List, ◌++◌}
use Prim.Native.Nat.{ℕ, ◌-◌}
use native.Mathlib.Numerals.{unary_clauses}
use lib.ListN.{length, take, replicate}

-- the bytes before i, then zeros
abbrev pub cleared_from : List ℕ → ℕ → List ℕ
cleared_from d i = take i d ++ replicate (length d - i) 0

pub cleared-whole : (b : List ℕ) → cleared_from b 0 ≡ replicate (length b) 0
cleared-whole b = simp unary_clauses refl
