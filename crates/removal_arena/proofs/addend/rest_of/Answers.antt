-- `rest_of` meets its contract.
use Rattle.std.proofs.Common.{◌*◌, ap}
use Rattle.removal_theory.specs.Encoding.{type_size}
use Rattle.removal_arena.proofs.FirstAddend.{rest-is}
use Rattle.removal_arena.proofs.addend.rest_of.Goals as goal

pub returns : goal.returns
returns c = rest-is c.args.x.now _ (ap (λ n. type_size * n) c.span_at.ensures.0)
