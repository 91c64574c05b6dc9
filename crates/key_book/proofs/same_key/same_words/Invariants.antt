-- `same_words` meets its contract.
use Prim.Native.Nat.{◌*◌}
use Rattle.key_book.proofs.Matching.{Comparing}
use Rattle.key_book.proofs.same_key.same_words.Given as goal

abbrev pub invariant-loop-word : goal.invariant-loop-word
invariant-loop-word l = Comparing l.book l.i l.text l.from l.to (8 * l.word)
