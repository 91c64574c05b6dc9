-- `store_value` meets its contract.
use native.Mathlib.Omega.{arith}
use Prim.Native.Nat.{◌*◌}
use Rattle.value_table.specs.Value.{record_size}
use Rattle.value_table.proofs.Stores.{sets-value}
use Rattle.value_table.proofs.record_store.store_value.Goals as goal

pub returns : goal.returns
returns c =
    cc (sets-value c.args.kind c.args.key c.args.table.now (record_size * c.args.i) (omega (arith, c.ranges.kind)))
