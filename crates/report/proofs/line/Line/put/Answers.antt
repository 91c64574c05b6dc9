-- `put` meets its contract: the seven parts one after the other.
use native.Mathlib.Omega.{arith}
use mathlib.Core.List.{append_assoc}
use Rattle.report.specs.Line.{line_of}
use Rattle.report.proofs.Storing.{stored-then}
use Rattle.report.proofs.line.Line.put.Goals as goal

pub returns : goal.returns
unfolding line_of
returns c =
    let depth = c.put_number_and-word.ensures in
    let named = c.kind_word.ensures in
    let word = rw named.0 at c.put_text-behind_word.ensures in
    let key = c.put_number_and-third.ensures in
    let count = c.put_padded-behind_count.ensures in
    let share = c.put_number_and.ensures in
    let all = stored-then depth.0 (stored-then word (stored-then c.put_byte-second.ensures
    (stored-then key.0 (stored-then count.0 (stored-then c.put_byte-last.ensures share.0))))) in
    (simp append_assoc (simp append_assoc at all), omega (arith, depth.1, c.put_text-behind_word.ensures.behind, named.1, key.1, count.1, share.1, c.put_byte-second.ensures.behind, c.put_byte-last.ensures.behind))
