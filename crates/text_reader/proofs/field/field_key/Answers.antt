-- `field_key` meets its contract.
use mathlib.Core.Path.{sym, ◌∙◌}
use native.Mathlib.Omega.{arith}
use Rattle.std.proofs.lemmas.Result.{err_from_is_err_and}
use Rattle.value_table.specs.Value.{none}
use Rattle.json_theory.specs.Steps.{base}
use Rattle.json_items.specs.Inside.Items.{ColonTo}
use Rattle.text_reader.proofs.FieldKey.{quote-opens, no-quote, key-colon, no_colon}
use Rattle.text_reader.proofs.field.field_key.Goals as goal

pub returns-then-byte_at-ne34-clause-by_index : goal.returns-then-byte_at-ne34-clause-by_index
returns-then-byte_at-ne34-clause-by_index c = λ room key done outer σ a sp st l m.
    rw c.at.ensures
    (no-quote c.args.text.now c.args.book.now room c.args.at key done outer σ a sp st (λ e. c.if-byte_at-ne34.true (c.byte_at.ensures ∙ e)))

pub returns-in_err-key-clause-by_index : goal.returns-in_err-key-clause-by_index
returns-in_err-key-clause-by_index c =
    let p = err_from_is_err_and c.from_residual.result c.from_residual.ensures.1 in
    rw (p.1, p.2)
    (λ room key done outer σ a sp st l m.
    quote-opens c.args.text.now c.args.book.now room c.args.at key done outer σ a (sym c.byte_at.ensures ∙ c.if-byte_at-ne34.false)
    ∙ c.in_err-key.ensures.by_index room key done outer l m)

pub returns-in_err-end-clause-by_index : goal.returns-in_err-end-clause-by_index
returns-in_err-end-clause-by_index c =
    let p = err_from_is_err_and c.from_residual-in_err-end.result c.from_residual-in_err-end.ensures.1 in
    rw (p.1, p.2)
    (λ room key done outer σ a sp st l m.
    quote-opens c.args.text.now c.args.book.now room c.args.at key done outer σ a (sym c.byte_at.ensures ∙ c.if-byte_at-ne34.false)
    ∙ no_colon _ _ c.new_key.new.seen room _ _ _ _ _ (c.in_ok-key.ensures.by_index room key done outer l m) _ (c.in_err-end.ensures _ _))

pub returns-clause-key_place : goal.returns-clause-key_place
returns-clause-key_place c =
    let t : ColonTo c.args.text.now 0 (base none) c.in_ok-key.key.end c.in_ok-end.end = c.in_ok-end.ensures 0 (base none) in
    (omega (arith, t.from, c.in_ok-key.ensures.key_place), t.upto)

pub returns-clause-by_index : goal.returns-clause-by_index
returns-clause-by_index c = λ room key done outer σ a sp st l m.
    let opens = quote-opens c.args.text.now c.args.book.now room c.args.at key done outer σ a (sym c.byte_at.ensures ∙ c.if-byte_at-ne34.false) in
    let read = c.in_ok-key.ensures.by_index room key done outer l m in
    key-colon _ _ c.new_key.new.seen room c.args.at σ _ _ _ (record { reads = opens ∙ read.reads; marks = read.marks }) _ (c.in_ok-end.ensures _ _)
