-- `put` meets its contract: the lines of the records from p on are left to store.
use Prim.Native.Nat.{◌-◌}
use Rattle.report.specs.Report.{program_equivalence}
use Rattle.report.proofs.Walking.{Walking}
use Rattle.report.proofs.walk.Run.+put.Given as goal

abbrev pub decreases-put : goal.decreases-put
decreases-put l = l.end - l.i

abbrev pub invariant-loop-p : goal.invariant-loop-p
invariant-loop-p l = Walking program_equivalence l.b l.i l.end l.self.depth l.self.whole l.self.width l.initial.out l.at l.p l.out l.to

abbrev pub decreases-loop-p : goal.decreases-loop-p
decreases-loop-p l = l.end - l.p
