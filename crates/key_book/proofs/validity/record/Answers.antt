-- `record` meets its contract.
use mathlib.Core.Path.{◌≡◌, refl}
use Prim.Native.Nat.{◌+◌, ◌*◌, ◌-◌}
use native.Mathlib.Omega.{arith}
use Rattle.key_book.specs.Inside.Records.{book_record}
use Rattle.key_book.proofs.GoodBook.{record-length}
use Rattle.key_book.proofs.validity.record.Goals as goal

pub returns : goal.returns
unfolding book_record
returns c =
    let e : 32 * c.args.i + 32 - 32 * c.args.i ≡ 32 = omega arith in
    rw e (refl, record-length c.args.book.now c.args.i c.requires.0)
