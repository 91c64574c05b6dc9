-- `exponent_end` meets its contract.
use Rattle.std.proofs.Common.{arith, rules, ◌∙◌}
use Rattle.json_theory.specs.Parts.{e}
use Rattle.json_theory.proofs.Scanning.{byte_inside}
use Rattle.json_tokens.proofs.Strings.{stuck-if}
use Rattle.json_tokens.proofs.Numbers.{either-byte, neither-byte, number-upto, part-here, exponent}
use Rattle.json_tokens.proofs.scan.exponent_end.Goals as goal

pub some_digits-requires : goal.some_digits-requires
some_digits-requires c =
    number-upto c.sign_end.ensures.goes (omega (arith, byte_inside c.args.text.now c.args.from (omega (arith, c.byte_at.ensures, c.in-101.is))))

pub returns-in-101 : goal.returns-in-101
returns-in-101 c =
    λ a m h. exponent _ a _ _ h (either-byte 0x45 0x65 _ _ c.byte_at.ensures c.in-101.is) c.sign_end.ensures c.some_digits.result c.some_digits.ensures

pub returns-in_default : goal.returns-in_default
returns-in_default c =
    λ a m h. part-here m (h ∙ stuck-if _ e (neither-byte 0x45 0x65 _ _ c.byte_at.ensures (search rules)))
