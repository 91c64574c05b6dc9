-- `rest_of` meets its contract.
use Rattle.std.proofs.Common.{◌*◌, ap}
use Rattle.counting_theory.specs.Encoding.{type_size}
use Rattle.type_arena.proofs.FirstAddend.{rest-is}
use Rattle.type_arena.proofs.addend.rest_of.Goals as goal

pub returns : goal.returns
returns c = rest-is c.args.x.now _ (ap (λ n. type_size * n) c.span_at.ensures.0)
