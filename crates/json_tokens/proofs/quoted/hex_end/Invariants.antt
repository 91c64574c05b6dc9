-- `hex_end` meets its contract.
use Rattle.std.proofs.Common.{◌-◌}
use Rattle.json_theory.specs.Parts.{hexes4, next_in_string}
use Rattle.json_theory.specs.Inside.Scanning.{Goes}
use Rattle.json_tokens.proofs.Strings.{hex_after}
use Rattle.json_tokens.proofs.quoted.hex_end.Given as goal

abbrev pub invariant-loop-at : goal.invariant-loop-at
invariant-loop-at l = Goes next_in_string l.text hexes4 l.from (hex_after (l.at - l.from)) l.at
