-- `tail_end` meets its contract.
use Rattle.std.proofs.Common.{◌-◌}
use Rattle.json_tokens.proofs.Strings.{TailsTo}
use Rattle.json_tokens.proofs.quoted.tail_end.Given as goal

abbrev pub invariant-loop-at : goal.invariant-loop-at
invariant-loop-at l = TailsTo l.text l.from l.at (l.end - l.at)
