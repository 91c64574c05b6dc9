-- `settle` meets its contract.
use lib.ListN.{drop}
use Rattle.value_table.specs.Value.{records}
use Rattle.gathering.specs.Inside.Gathering.{slots_of, Gathering}
use Rattle.gathering.proofs.Source.settle.Given as goal

abbrev pub invariant-loop-k : goal.invariant-loop-k
invariant-loop-k l =
    Gathering l.self.equivalence l.self.table.now l.a l.n (records l.self.table.now) (drop l.k (slots_of l.slots))
