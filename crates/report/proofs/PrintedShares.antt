-- No share that the program prints has a false end, since each is of a count from 1 to its whole.
use Prim.Native.Nat.{ℕ}
use Rattle.counting_theory.specs.Trie.{nil, node, total}
use Rattle.counting_theory.specs.Label.{Counting, CountingType}
use Rattle.counting_theory.specs.Encoding.{type_of}
use Rattle.report.specs.Report.{whole_inside, program_equivalence, profiled, EachShare, PrintsNoFalseEnd}
use Rattle.report.specs.Inside.Walk.{Shares}
use Rattle.report.proofs.Shares.{no-false-ends}
use Rattle.report.proofs.TypeRun.{whole-shares}
use Rattle.report.proofs.Program.{printed-profiled}

each-share : (whole : ℕ) (f : CountingType) → Shares whole f → EachShare whole f
each-share whole nil s = tt
each-share whole (node l a inner next) s = (no-false-ends a.count whole s.0 s.1, each-share (whole_inside l a.count inner) inner s.3, each-share whole next s.4)

pub prints-no-false-end : PrintsNoFalseEnd
prints-no-false-end input bytes z =
    let f = type_of program_equivalence (profiled input).bytes in each-share (total Counting f) f (whole-shares ((printed-profiled input bytes).formed z))
