-- `number` meets its contract.
use mathlib.Core.Path.{sym}
use Prim.Native.Nat.{◌+◌}
use native.Mathlib.Omega.{arith}
use lib.Dec.{lit<}
use Rattle.byte_records.proofs.Number.{number_at-zero, read_room, read_more}
use Rattle.byte_records.proofs.little_endian.number.Goals as goal

pub loop-k-init : goal.loop-k-init
loop-k-init g c = (sym (number_at-zero c.args.s.now c.args.p), lit< tt)

pub overflow_add-n-in-loop-k : goal.overflow_add-n-in-loop-k
overflow_add-n-in-loop-k g c =
    let l = c.loop-k in
    let r = read_more l.n c.args.s.now c.args.p l.k (omega arith) (omega arith) (c.type_inv.s _).fits l.invariant in
    omega (arith, read_room (l.k + 1) (omega arith))

pub loop-k-preserved : goal.loop-k-preserved
loop-k-preserved g c =
    let l = c.loop-k in
    read_more l.n c.args.s.now c.args.p l.k (omega arith) (omega arith) (c.type_inv.s _).fits l.invariant
