-- `kind_at` meets its contract.
use native.Mathlib.Nat.{add-zero}
use borrow.Author.Rules.{rules}
use Rattle.byte_records.specs.Format.{field_at}
use Rattle.value_table.specs.Value.{kind_at}
use Rattle.byte_records.proofs.Number.{number_at-one}
use Rattle.value_table.proofs.record.kind_at.Goals as goal

pub returns : goal.returns
unfolding kind_at field_at
returns c = rw (number_at-one, add-zero) (search rules)
