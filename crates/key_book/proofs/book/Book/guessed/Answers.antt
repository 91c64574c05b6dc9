-- `guessed` meets its contract.
use mathlib.Core.Path.{◌≡◌, ap, ◌∙◌}
use Prim.Native.Nat.{ℕ, ◌+◌, ◌-◌}
use native.Mathlib.Omega.{arith}
use Rattle.std.proofs.Common.{Some}
use Rattle.key_book.proofs.Matching.{key-found}
use Rattle.key_book.proofs.book.Book.guessed.Goals as goal

pub returns-then-is_key : goal.returns-then-is_key
returns-then-is_key c =
    let guess = c.from-guess.result in
    let e : guess ≡ guess - 1 + 1 = omega arith in
    rw (← c.self.view_is)
    (ap (λ (n : ℕ). Some n) e ∙ key-found _ _ c.self.invariant.1 (guess - 1) (omega arith) (c.is_key.ensures c.if-is_key.true))
