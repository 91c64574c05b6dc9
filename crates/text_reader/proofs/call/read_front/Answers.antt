-- `read_front` meets its contract.
use mathlib.Core.Path.{refl, sym, ◌∙◌, ap}
use Rattle.std.proofs.lemmas.Result.{err_from_is_err_and}
use Rattle.std.proofs.Common.{Err}
use Rattle.text_reader.specs.Answer.{refusal_of_text}
use Rattle.text_reader.proofs.InFront.{refused-front, taken-front, read-lengths, read-book, read_whole, lengths-low, made, not-made}
use Rattle.text_reader.proofs.call.read_front.Goals as goal

pub returns-then-bad_lengths : goal.returns-then-bad_lengths
returns-then-bad_lengths c =
    refused-front _ 1 0 _ _ _ refl (read-lengths c.args.text.now c.args.book.now _ (sym c.bad_lengths.ensures ∙ c.if-bad_lengths.true)) refl

pub with_guesses-requires : goal.with_guesses-requires
with_guesses-requires c =
    (lengths-low c.args.text.now c.args.book.now _ (sym c.bad_lengths.ensures ∙ c.if-bad_lengths.false)).1

pub returns-in_err-book : goal.returns-in_err-book
returns-in_err-book c =
    let p = err_from_is_err_and c.from_residual.result c.from_residual.ensures.1 in
    let bad = not-made c.args.book.now c.with_guesses.result c.in_err-book.field-0.0 c.with_guesses.ensures (sym c.ok_or.ensures.value ∙ c.in_err-book.was) in
    rw (p.1, p.2)
    (refused-front _ 14 0 (Err c.in_err-book.field-0.0) _ _ refl
    (read-book c.args.text.now c.args.book.now _ (sym c.bad_lengths.ensures ∙ c.if-bad_lengths.false) bad.0) (ap refusal_of_text bad.1))

pub read_marked-requires : goal.read_marked-requires
read_marked-requires c =
    let low = lengths-low c.args.text.now c.args.book.now _ (sym c.bad_lengths.ensures ∙ c.if-bad_lengths.false) in
    (low.0, low.2)

pub returns-in_err-count : goal.returns-in_err-count
returns-in_err-count c =
    let p = err_from_is_err_and c.from_residual-in_err-count.result c.from_residual-in_err-count.ensures.1 in
    let good = made c.args.book.now c.with_guesses.result c.in_ok-book.book c.with_guesses.ensures c.in_ok-book.ensures.ok_part in
    rw (p.1, p.2)
    (refused-front _ _ _ _ _ _ c.read_marked.auto.table
    (read_whole c.args.text.now c.args.book.now _ _ (sym c.bad_lengths.ensures ∙ c.if-bad_lengths.false) good.1 (rw good.0 at c.in_err-count.ensures)) refl)

pub returns : goal.returns
returns c =
    let good = made c.args.book.now c.with_guesses.result c.in_ok-book.book c.with_guesses.ensures c.in_ok-book.ensures.ok_part in
    let told = c.in_ok-count.ensures in
    taken-front _ _ _ _ _ _ _ told c.read_marked.auto.table
    (read_whole c.args.text.now c.args.book.now _ _ (sym c.bad_lengths.ensures ∙ c.if-bad_lengths.false) good.1 (rw good.0 at told.reads))
