-- `word_end` meets its contract.
use Rattle.std.proofs.Common.{◌+◌, drop}
use Rattle.json_theory.specs.Inside.Scanning.{Goes}
use Rattle.json_tokens.specs.Inside.Tokens.{next_letter}
use Rattle.json_tokens.proofs.scan.word_end.Given as goal

abbrev pub invariant-loop-k : goal.invariant-loop-k
invariant-loop-k l = Goes next_letter l.text l.word l.from (drop l.k l.word) (l.from + l.k)
