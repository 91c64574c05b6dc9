-- `given` meets its contract.
use Rattle.std.proofs.Common.{refl, ◌∙◌, eq-eqb, ne_eqb}
use Rattle.value_table.specs.Value.{array_kind}
use Rattle.type_arena.specs.Inside.Payload.{payload_of}
use Rattle.type_arena.proofs.PayloadBytes.{item-is}
use Rattle.type_arena.proofs.payload.Payload.given.Goals as goal

pub returns-then-kind-eq-ARRAY : goal.returns-then-kind-eq-ARRAY
unfolding payload_of
returns-then-kind-eq-ARRAY c content h =
    let a = c.args in
    item-is a.weight a.kind a.elements content (h c.if-kind-eq-ARRAY.true ∙ rw (eq-eqb a.kind array_kind c.if-kind-eq-ARRAY.true) refl)

pub returns-else-kind-eq-ARRAY : goal.returns-else-kind-eq-ARRAY
unfolding payload_of
returns-else-kind-eq-ARRAY c content h =
    let a = c.args in
    item-is a.weight a.kind 0 content (rw (ne_eqb a.kind array_kind c.if-kind-eq-ARRAY.false) refl)
