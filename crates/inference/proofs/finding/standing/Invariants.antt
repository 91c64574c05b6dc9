-- `standing` meets its contract. The loop's invariant: a sibling, or the end, is where it has come to.
use Rattle.std.proofs.Common.{◌-◌}
use Rattle.inference.specs.Inside.Inferring.{Starts, OfShown}
use Rattle.inference.proofs.finding.standing.Given as goal

abbrev pub invariant-loop-passed : goal.invariant-loop-passed
invariant-loop-passed l = OfShown l.wanted.equivalence l.b l.n l.from (λ f. Starts l.at f)

abbrev pub decreases-loop-passed : goal.decreases-loop-passed
decreases-loop-passed l = l.n - l.passed
