-- `guessed` meets its contract.
use Prim.Native.Nat.{◌<◌}
use Rattle.key_book.specs.Inside.Records.{places}
use Rattle.key_book.proofs.book.Book.guessed.Given as goal

abbrev pub invariant-loop : goal.invariant-loop
invariant-loop l = l.at < places
