-- `string_end` meets its contract.
use Rattle.std.proofs.Common.{length, ◌≤◌, ◌-◌}
use Rattle.json_tokens.specs.Inside.Tokens.{CharsTo}
use Rattle.json_tokens.proofs.quoted.string_end.Given as goal

abbrev pub invariant-loop-from : goal.invariant-loop-from
invariant-loop-from l = CharsTo l.text l.from l.quote l.escaped × (l.quote ≤ length l.text)

abbrev pub decreases-loop-from : goal.decreases-loop-from
decreases-loop-from l = length l.text - l.quote
