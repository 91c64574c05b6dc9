-- `check_scalar` meets its contract.
use Rattle.std.proofs.lemmas.Grind.{common_steps}
use Prim.Native.Nat.{◌+◌, ◌-◌}
use native.Mathlib.Omega.{arith}
use Rattle.type_check.proofs.OnePass.Loops.{scalar-right}
use Rattle.type_check.proofs.Checker.check_scalar.Goals as goal

pub returns-then-no_lengths : goal.returns-then-no_lengths
returns-then-no_lengths g c = rw (scalar-right g.L.Judged.reading g.L.Records.Layout.SIZE c.args.self.equivalence c.args.self.b.now (c.args.p + 1) c.args.self.end (33 - c.args.self.left) (omega (arith, c.requires.0)) (omega (arith, c.requires.1)) c.args.self.within) (grind (arith, common_steps))

pub returns-else-no_lengths : goal.returns-else-no_lengths
returns-else-no_lengths g c = rw (scalar-right g.L.Judged.reading g.L.Records.Layout.SIZE c.args.self.equivalence c.args.self.b.now (c.args.p + 1) c.args.self.end (33 - c.args.self.left) (omega (arith, c.requires.0)) (omega (arith, c.requires.1)) c.args.self.within) (grind (arith, common_steps))
