-- `locate` meets its contract.
use Rattle.std.proofs.Common.{◌≡◌, ◌∙◌, ◌*◌, ◌/◌, ◌<◌, length, take, eqb, arith}
use Rattle.std.specs.Prelude.{Ok}
use Rattle.std.proofs.lemmas.Result.{err_from_is_err_and}
use borrow.Author.Tests.{eq-eqb}
use Rattle.inference.specs.Inside.Inferring.{TableRun, LabelListed, PlacedAt, wanted}
use Rattle.inference.proofs.InPlace.Items.{label_is, wanted-listed, located, too_many_lem}
use Rattle.type_arena.specs.Inside.Payload.{payload_of}
use Rattle.value_table.specs.Value.{record_kind, Values, keys}
use Rattle.inference.proofs.placing.locate.Goals as goal
use Rattle.inference.proofs.placing.locate.Goals.{In_ok-keys}

-- the keys that are listed
listed-keys : (c : goal.In_ok-keys) (vs : Values) → TableRun (eqb c.args.item.now.kind record_kind) c.args.item.now.below.now vs → LabelListed c.args.equivalence c.args.item.now.kind vs (Ok c.in_ok-keys.keys) c.list_label.new.work
listed-keys c vs r = rw c.in_ok-keys.was at (c.list_label.ensures vs (λ z. rw (eq-eqb _ record_kind z) at r))

pub returns-in_err-keys : goal.returns-in_err-keys
returns-in_err-keys c field f q free h s vs r =
    let k = c.list_label in
    let d : (c.args.item.now.kind ≡ record_kind) × (length k.new.work < 2 * length (keys vs)) = rw c.in_err-keys.was at (k.ensures vs (λ z. rw (eq-eqb _ record_kind z) at r)) in
    let p = err_from_is_err_and c.from_residual.result c.from_residual.ensures.1 in
    rw p.1
    (too_many_lem c.args.equivalence field c.args.item.now.kind c.args.item.now.key _ _ vs f c.requires.3 d.0 r h.siblings _ _ _ d.1 (omega (arith, c.requires.2, k.auto.work)))

pub returns : goal.returns
returns c field f q free h s vs r =
    let a = c.args in
    let k = c.place in
    let n = c.in_ok-keys.keys in
    let w = c.list_label.new.work in
    let l = listed-keys (goal.at.returns c).In_ok-keys vs r in
    let label = wanted-listed a.equivalence a.item.now.kind a.item.now.key n w l.1 ∙ label_is a.equivalence a.item.now.kind a.item.now.key n w vs l.0 in
    let x : PlacedAt (wanted a.equivalence a.item.now.kind a.item.now.key (length (take (2 * n) w) / 2) (take (2 * n) w)) (payload_of c.given-more.result) f q a.rest k.result k.new.a =
    k.ensures field f q free h s in
    located a.equivalence a.item.now.kind a.item.now.key a.item.now.weight vs f q a.rest k.result k.new.a (rw (label, c.given-more.ensures vs (c.elements_in-elements.ensures vs r)) at x)
