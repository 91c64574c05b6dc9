-- `escape_end` meets its contract.
use Rattle.std.proofs.Common.{sym, ◌∙◌, rules}
use Rattle.json_theory.specs.Parts.{plain}
use Rattle.json_theory.proofs.Scanning.{goes_one, stops-here}
use Rattle.json_tokens.proofs.Tokens.{scan-on}
use Rattle.json_tokens.proofs.Strings.{escape-u, escape-goes, escape-stuck}
use Rattle.json_tokens.proofs.quoted.escape_end.Goals as goal

pub returns-in-117 : goal.returns-in-117
returns-in-117 c = scan-on plain (goes_one (escape-u _ (sym c.byte_at.ensures ∙ c.in-117.is))) c.hex_end.result c.hex_end.ensures

pub returns-in-34 : goal.returns-in-34
returns-in-34 c = goes_one (escape-goes _ _ c.byte_at.ensures c.in-34.is)

pub returns-in_default : goal.returns-in_default
returns-in_default c = stops-here (escape-stuck _ _ c.byte_at.ensures (search rules) (search rules))
