-- `kind_and_zero_at` meets its contract.
use Prim.Native.Nat.{◌*◌}
use native.Mathlib.Nat.{add-zero}
use native.Mathlib.Omega.{arith}
use Rattle.byte_records.specs.Format.{field_at}
use Rattle.value_table.specs.Value.{record_size, kind_at, zero_at}
use Rattle.byte_records.proofs.Number.{number_at-add}
use Rattle.value_table.proofs.record.kind_and_zero_at.Goals as goal

pub returns : goal.returns
unfolding kind_at zero_at field_at
returns c =
    let t = c.args.table.now in
    let p = record_size * c.args.i in
    rw (add-zero p) (omega (arith, c.number.ensures.0, number_at-add 1 1 t p (omega arith)))
