-- `value_at` meets its contract.
use mathlib.Core.Path.{◌≡◌, sym, ◌∙◌, ap}
use native.Mathlib.Omega.{arith}
use Rattle.json_theory.specs.Parts.{start}
use Rattle.json_theory.specs.Inside.Scanning.{byte_at}
use Rattle.text_reader.specs.Inside.Progress.{kind_started}
use Rattle.text_reader.specs.Inside.Items.{kind_number}
use Rattle.text_reader.proofs.ValueAt.{no_value, too-deep, no_room, value_read, starts-inside, kind-some, kind-tag}
use Rattle.text_reader.proofs.value.value_at.Goals as goal
use Rattle.text_reader.proofs.value.value_at.Goals.{In-Some}

-- the kind of the first byte
kind : (c : goal.In-Some) → kind_number c.in-Some.kind ≡ kind_started (start (byte_at c.args.text.now c.args.at))
kind c = c.in-Some.ensures ∙ ap (λ x. kind_started (start x)) c.byte_at-c.ensures

some : (c : goal.In-Some) → kind_started (start (byte_at c.args.text.now c.args.at)) ≡ 0 → ⊥
some c e = kind-some c.in-Some.kind (kind c ∙ e)

pub returns-in_default-clause-by_index : goal.returns-in_default-clause-by_index
returns-in_default-clause-by_index c = λ book σ around w a r d n h.
    rw c.at.ensures
    (no_value c.args.text.now book _ c.args.at c.args.key σ around w a r (sym (c.in_default.ensures ∙ ap (λ x. kind_started (start x)) c.byte_at-c.ensures)))

pub returns-then-depth-eq-MAX_DEPTH-clause-by_index : goal.returns-then-depth-eq-MAX_DEPTH-clause-by_index
returns-then-depth-eq-MAX_DEPTH-clause-by_index c = λ book σ around w a r d n h.
    rw c.at-then-depth-eq-MAX_DEPTH.ensures
    (too-deep c.args.text.now book _ c.args.at c.args.key σ around w a r (some (goal.at.returns-then-depth-eq-MAX_DEPTH-clause-by_index c).In-Some)
    (omega (arith, c.if-depth-eq-MAX_DEPTH.true, d)))

pub returns-then-table-count-clause-by_index : goal.returns-then-table-count-clause-by_index
returns-then-table-count-clause-by_index c = λ book σ around w a r d n h.
    rw c.at-then-table-count.ensures
    (no_room c.args.text.now book _ c.args.at c.args.key σ around w a r (some (goal.at.returns-then-table-count-clause-by_index c).In-Some)
    (omega (arith, c.if-depth-eq-MAX_DEPTH.false, d, c.requires.3)) (omega (arith, c.if-table-count.true, n)))

pub begin-requires-clause-at_in_bounds : goal.begin-requires-clause-at_in_bounds
begin-requires-clause-at_in_bounds c =
    (starts-inside c.args.text.now c.args.at (some (goal.at.begin-requires-clause-at_in_bounds c).In-Some), c.requires.0.1, c.byte_at-c.ensures)

pub returns-clause-by_index : goal.returns-clause-by_index
returns-clause-by_index c = λ book σ around w a r d n h.
    let i = (goal.at.returns-clause-by_index c).In-Some in
    value_read c.args.text.now book _ c.args.at c.args.key σ around w a r (some i)
    (omega (arith, c.if-depth-eq-MAX_DEPTH.false, d, c.requires.3)) (omega (arith, c.if-table-count.false, n, c.requires.2))
    c.args.table.now _ c.begin.result h (omega (arith, n, c.if-table-count.false, c.requires.2))
    (rw (n, ← kind i, ← kind-tag c.in-Some.kind) c.store_value.ensures) (rw c.byte_at-c.ensures at (c.begin.ensures.by_index c.args.key around))
