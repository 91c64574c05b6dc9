-- The words of kinds.
use mathlib.Core.Path.{◌≡◌, refl}
use mathlib.Core.List.{[]}
use Prim.Native.Nat.{ℕ, zero, suc, ◌≤◌}
use native.Mathlib.Nat.{lt_of_not-le}
use native.Mathlib.Omega.{arith}
use lib.ListN.{get_or-eq_default}
use Rattle.report.specs.Line.{words, kind_word}

pub no_word : (kind : ℕ) → (1 ≤ kind → kind ≤ 7 → ⊥) → kind_word kind ≡ []
unfolding kind_word
no_word zero h = refl
no_word (suc kind) h = get_or-eq_default words [] (lt_of_not-le (h (omega arith)))
