-- `count_standing` meets its contract.
use Rattle.inference.proofs.scalar_fields.count_standing.Goals as goal

pub returns-then-field : goal.returns-then-field
returns-then-field c =
    let z = c.if-field.true in
    let x = c.count_fields.ensures in
    (x.0, λ e vs f q rest u r. rw z (x.1 e vs f q rest u (rw z at r)))
