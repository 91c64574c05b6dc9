-- `keep` meets its contract.
use Rattle.std.proofs.Common.{length, ap, arith}
use Rattle.type_arena.proofs.FirstAddend.{front-le}
use Rattle.type_arena.proofs.addend.keep.Goals as goal

pub append-requires : goal.append-requires
append-requires c = omega (arith, front-le c.args.x.now, ap length c.front_of.ensures)
