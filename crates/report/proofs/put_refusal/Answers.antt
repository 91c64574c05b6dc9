-- `put_refusal` meets its contract.
use native.Mathlib.Omega.{arith}
use mathlib.Core.List.{append_assoc}
use Rattle.report.specs.Line.{refusal_line}
use Rattle.report.proofs.Storing.{stored-then, stored-front}
use Rattle.report.proofs.put_refusal.Goals as goal

pub returns : goal.returns
unfolding refusal_line
returns c =
    let word = c.put_text-first.ensures in
    let number = c.put_number_and-second.ensures in
    let place = c.put_number_and.ensures in
    let all = stored-then word (stored-then number.0 place.0) in
    stored-front {s = c.args.out.now} {xs = refusal_line c.args.number c.args.place} (simp append_assoc (simp append_assoc at all)) (omega (arith, word.behind, number.1, place.1, c.requires.2))
