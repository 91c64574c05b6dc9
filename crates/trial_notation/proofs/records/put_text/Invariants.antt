-- `put_text` is safe: eight numbers are told for each of 16,384 records.
use Rattle.std.proofs.Common.{◌<◌}
use Rattle.trial_notation.proofs.records.put_text.Given as goal

abbrev pub invariant-loop-c : goal.invariant-loop-c
invariant-loop-c l = l.at < 131072
