-- `checksum` is safe: both sums stay below their modulus.
use Rattle.std.proofs.Common.{◌<◌}
use Rattle.trial_output.proofs.checksum.Given as goal

abbrev pub invariant-loop-byte : goal.invariant-loop-byte
invariant-loop-byte l = (l.low < 65521) × (l.high < 65521)
