-- `put_bytes` meets its contract. The loop's invariant: what is left to copy gives what is to be stored.
use mathlib.Core.Path.{refl, ◌∙◌}
use native.Mathlib.Nat.{add-zero}
use native.Mathlib.Omega.{arith}
use lib.ListN.{length-set}
use Rattle.byte_records.proofs.Sets.{copy_more, copy-end}
use Rattle.byte_records.proofs.store.put_bytes.Goals as goal

pub loop-k-init : goal.loop-k-init
loop-k-init c = (refl, rw add-zero refl)

pub loop-k-preserved : goal.loop-k-preserved
loop-k-preserved c =
    let a = c.args in
    let l = c.loop-k in
    (simp length-set l.invariant.0, copy_more a.src.now l.out a.at l.k (omega arith) ∙ l.invariant.1)

pub returns : goal.returns
returns c =
    let l = c.loop-k in
    let a = c.args in
    copy-end a.src.now l.out _ a.at l.k (omega arith) l.invariant.1
