-- The state behind some bytes.
use Rattle.std.specs.Prelude.{List, [], ◌∷◌, ℕ}
use Rattle.json_theory.specs.Steps.{State, step}

unfoldable pub run : (List ℕ → ℕ) → State → List ℕ → State
run name state [] = state
run name state (c ∷ s) = run name (step name state c) s
