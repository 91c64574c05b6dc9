-- `put_record` meets its contract.
use native.Mathlib.Omega.{arith}
use Rattle.counting_theory.proofs.Encoding.Header.{type_key-below}
use Rattle.report.proofs.walk.Run.put_record.Goals as goal

pub put-requires-clause-key : goal.put-requires-clause-key
put-requires-clause-key c =
    let key = type_key-below c.args.b.now c.args.p (λ q. (c.type_inv.b q).fits) (omega (arith, c.requires.0.here)) in
    omega (arith, key, c.key_at.ensures)

pub returns : goal.returns
returns c =
    let h = c.put.ensures in
    (rw (c.kind_at.ensures, c.key_at.ensures, c.share.ensures.0, c.count_at-count.ensures) at h.0, h.1)
