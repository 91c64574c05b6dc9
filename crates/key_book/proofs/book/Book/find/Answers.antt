-- `find` meets its contract.
use mathlib.Core.Path.{refl}
use native.Mathlib.Omega.{arith}
use Rattle.json_theory.specs.Inside.Scanning.{between}
use Rattle.key_book.proofs.Halving.{long-unlisted}
use Rattle.json_theory.proofs.Scanning.{between-length}
use Rattle.key_book.proofs.book.Book.find.Goals as goal

pub returns-then-to-from-gt-SIZE : goal.returns-then-to-from-gt-SIZE
returns-then-to-from-gt-SIZE c =
    let text = c.args.text.now in
    let from = c.args.from in
    let end = c.args.to in
    rw (long-unlisted c.args.self.now (between text from end) _ 0 (omega (arith, between-length text from end c.requires.upto))) refl
