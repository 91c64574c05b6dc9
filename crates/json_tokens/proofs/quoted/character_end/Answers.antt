-- `character_end` meets its contract.
use Rattle.std.proofs.Common.{ap, sym, ◌∙◌, arith, rules}
use Rattle.json_theory.specs.Parts.{next_in_string, plain}
use Rattle.json_theory.proofs.Scanning.{stops-here}
use Rattle.json_tokens.specs.Inside.Tokens.{is_plain}
use Rattle.json_tokens.proofs.Strings.{escaped-char, plain-char, in-plain, low-stuck, high-stuck}
use Rattle.json_tokens.proofs.quoted.character_end.Goals as goal

pub returns-in-92 : goal.returns-in-92
returns-in-92 c = escaped-char _ _ (sym c.requires.1 ∙ c.in-92.is) c.escape_end.result c.escape_end.ensures

pub returns-in-32-to-127 : goal.returns-in-32-to-127
returns-in-32-to-127 c =
    plain-char _ _ (ap is_plain (sym c.requires.1) ∙ in-plain _ c.requires.2 (λ e. absurd (omega arith)) (omega arith) (search rules))

pub returns-in_default : goal.returns-in_default
returns-in_default c = stops-here (ap (next_in_string plain) (sym c.requires.1) ∙ low-stuck _ (omega arith) (λ l. omega arith))

pub returns-in_default-2 : goal.returns-in_default-2
returns-in_default-2 c = stops-here (ap (next_in_string plain) (sym c.requires.1) ∙ low-stuck _ (omega arith) (λ l. omega arith))

pub returns-in_default-3 : goal.returns-in_default-3
returns-in_default-3 c = stops-here (ap (next_in_string plain) (sym c.requires.1) ∙ high-stuck _ (omega arith) (search rules))
