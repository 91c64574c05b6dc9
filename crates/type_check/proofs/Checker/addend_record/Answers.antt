-- `addend_record` meets its contract.
use mathlib.Core.Path.{◌≡◌}
use mathlib.Core.Bool.{not}
use Rattle.std.proofs.lemmas.Grind.{common_steps}
use Prim.Native.Nat.{ℕ, ◌-◌, ◌≤◌}
use native.Mathlib.Omega.{arith}
use lib.Dec.{eqb, leb}
use Rattle.std.proofs.lemmas.Bool.Decides.{nat_tests}
use Rattle.type_check.specs.Inside.Checker.{type_record}
use Rattle.type_check.proofs.Checker.addend_record.Goals as goal

-- there is a level left exactly where the depth is allowed
depth-left : (left : ℕ) → left ≤ 32 → leb (33 - left) 32 ≡ not (eqb left 0)
depth-left left h = grind (arith, nat_tests)

pub returns-then-self-ne0 : goal.returns-then-self-ne0
unfolding type_record
returns-then-self-ne0 g c = rw (depth-left c.args.self.left (omega arith)) (grind (arith, common_steps))

pub returns-else-self-ne0 : goal.returns-else-self-ne0
unfolding type_record
returns-else-self-ne0 g c = rw (depth-left c.args.self.left (omega arith)) (grind (arith, common_steps))
