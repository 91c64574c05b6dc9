-- `hex_end` meets its contract.
use Rattle.std.proofs.Common.{ap, sym, ◌∙◌, arith}
use Rattle.json_theory.specs.Parts.{is_hex}
use Rattle.json_tokens.proofs.Strings.{hex-start, hex-on, hex-stop, hex-done}
use Rattle.json_tokens.proofs.quoted.hex_end.Goals as goal

pub loop-at-init : goal.loop-at-init
loop-at-init c = hex-start _ _

pub returns-then-not-is_ascii_hexdigit : goal.returns-then-not-is_ascii_hexdigit
returns-then-not-is_ascii_hexdigit c =
    hex-stop c.loop-at.invariant c.loop-at-test.true
    (ap is_hex (sym c.byte_at.ensures) ∙ sym c.is_ascii_hexdigit.ensures.value ∙ c.if-not-is_ascii_hexdigit.true)

pub loop-at-preserved : goal.loop-at-preserved
loop-at-preserved c =
    hex-on c.loop-at.invariant (omega arith) c.loop-at-test.true
    (ap is_hex (sym c.byte_at.ensures) ∙ sym c.is_ascii_hexdigit.ensures.value ∙ c.if-not-is_ascii_hexdigit.false)

pub returns : goal.returns
returns c = hex-done c.loop-at.invariant (omega arith)
