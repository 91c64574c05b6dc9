-- `bisect` meets its contract.
use Prim.Native.Nat.{◌-◌, ◌≤◌}
use Rattle.json_theory.specs.Book.{book_records, book_keys}
use Rattle.json_theory.specs.Inside.Scanning.{between}
use Rattle.key_book.proofs.Halving.{Among}
use Rattle.key_book.proofs.book.Book.bisect.Given as goal

abbrev pub invariant-loop-low : goal.invariant-loop-low
invariant-loop-low l =
    (l.low ≤ l.high) × (l.high ≤ book_records l.self-inside.bytes.now) × Among (between l.text l.from l.to) (book_keys l.self-inside.bytes.now) l.low l.high

abbrev pub decreases-loop-low : goal.decreases-loop-low
decreases-loop-low l = l.high - l.low
