-- `short_word` meets its contract.
use mathlib.Core.Path.{◌≡◌}
use Prim.Native.Nat.{◌-◌}
use native.Mathlib.Omega.{arith}
use Rattle.byte_records.specs.Number.{number_at}
use Rattle.key_book.proofs.Words.{last-bytes}
use Rattle.key_book.proofs.same_key.short_word.Goals as goal

pub returns : goal.returns
returns c =
    let e : c.number.result ≡ number_at 8 c.args.text.now (c.args.to - 8) = c.number.ensures.0 in
    rw e
    (last-bytes c.args.text.now (λ p. (c.type_inv.text p).fits) c.args.from c.args.to (omega arith) (omega arith) (omega arith) (omega arith))
