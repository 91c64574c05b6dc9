-- `search` meets its contract.
use Rattle.std.proofs.Common.{◌+◌, ◌-◌, cond}
use Rattle.inference.specs.Inside.Inferring.{label_of_wanted, OfShown}
use Rattle.inference.proofs.InPlace.Seeking.{Seen}
use Rattle.inference.proofs.search.search.Given as goal

abbrev pub invariant-loop-at : goal.invariant-loop-at
invariant-loop-at l = OfShown l.wanted.equivalence l.b l.n l.from (λ f. Seen l.wanted.equivalence l.b l.n (label_of_wanted l.wanted) f l.resumed l.at)

abbrev pub decreases-loop-at : goal.decreases-loop-at
decreases-loop-at l = cond l.resumed (l.n + 1) 0 + (l.n - l.at)
