-- `filled` meets its contract.
use native.Mathlib.Omega.{arith}
use lib.Count.{leading_le}
use Rattle.key_book.proofs.guesses.filled.Goals as goal

pub overflow_cast-result : goal.overflow_cast-result
overflow_cast-result c = omega (arith, leading_le 64 c.args.x)

pub overflow_sub-result : goal.overflow_sub-result
overflow_sub-result c = omega (arith, leading_le 64 c.args.x)
