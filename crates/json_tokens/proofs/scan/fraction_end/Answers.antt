-- `fraction_end` meets its contract.
use Rattle.std.proofs.Common.{arith, sym, ◌∙◌}
use borrow.Author.Tests.{ne_eqb}
use Rattle.json_theory.specs.Inside.Scanning.{byte_at}
use Rattle.json_tokens.proofs.Numbers.{part-here, fraction}
use Rattle.json_tokens.proofs.scan.fraction_end.Goals as goal

pub returns-in-46 : goal.returns-in-46
returns-in-46 c = λ a m h. fraction _ a _ h (sym c.byte_at.ensures ∙ c.in-46.is) c.some_digits.result c.some_digits.ensures

pub returns-in_default : goal.returns-in_default
returns-in_default c =
    λ a m h. part-here m (rw (ne_eqb (byte_at c.args.text.now c.args.from) 0x2E (λ z. absurd (omega (arith, c.byte_at.ensures)))) at h)
