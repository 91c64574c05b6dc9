-- `zero_at` meets its contract.
use borrow.Author.Rules.{rules}
use Rattle.byte_records.specs.Format.{field_at}
use Rattle.value_table.specs.Value.{zero_at}
use Rattle.byte_records.proofs.Number.{number_at-one}
use Rattle.value_table.proofs.record.zero_at.Goals as goal

pub returns : goal.returns
unfolding zero_at field_at
returns c = rw number_at-one (search rules)
