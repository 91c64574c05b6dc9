-- `body_of` meets its contract.
use Rattle.std.proofs.Common.{◌*◌, ap}
use Rattle.counting_theory.specs.Encoding.{type_size}
use Rattle.type_arena.proofs.FirstAddend.{body_is}
use Rattle.type_arena.proofs.addend.body_of.Goals as goal

pub returns : goal.returns
returns c = body_is c.args.x.now _ (ap (λ n. type_size * n) c.span_at.ensures.0)
