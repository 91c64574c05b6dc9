-- `open_gap` meets its contract.
use Prim.Native.Nat.{◌-◌}
use native.Mathlib.Omega.{arith}
use Rattle.byte_records.proofs.Gap.{moved-next}
use Rattle.byte_records.proofs.store.open_gap.Goals as goal

pub loop-i-preserved : goal.loop-i-preserved
loop-i-preserved c =
    let l = c.loop-i in
    moved-next c.args.b.now c.args.n c.args.gap c.requires l.b l.i (l.i - 1) (omega arith) l.auto.i l.auto.b l.invariant
