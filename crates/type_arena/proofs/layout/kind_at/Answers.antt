-- `kind_at` meets its contract.
use Rattle.std.proofs.Common.{rules}
use Rattle.byte_records.proofs.Number.{number_at-one}
use Rattle.type_arena.proofs.layout.kind_at.Goals as goal

pub returns : goal.returns
returns g c = rw (g.L.Layout.kind_is, number_at-one) (search rules)
