-- `put_report` meets its contract: the whole type is one run.
use mathlib.Core.Path.{ap, ◌∙◌}
use native.Mathlib.Omega.{arith}
use Rattle.report.specs.Decimal.{digit_count}
use Rattle.report.proofs.Storing.{stored-front}
use Rattle.report.proofs.TypeRun.{whole-short, whole_run, whole-union, whole-total, whole-largest, whole-lines}
use Rattle.report.proofs.put_report.Goals as goal

pub union_total-requires : goal.union_total-requires
union_total-requires c = whole-union c.requires.0

pub largest_count-requires : goal.largest_count-requires
largest_count-requires c = (omega arith, whole-short c.requires.0)

pub digit_count-requires : goal.digit_count-requires
digit_count-requires c = omega (arith, c.largest_count.ensures, whole-largest c.requires.0)

pub put-requires : goal.put-requires
put-requires c =
    let t = c.requires.0 in
    (rw (whole-total t c.union_total.ensures) (whole_run t), c.digit_count.ensures.2, omega (arith, c.requires.1))

pub returns : goal.returns
returns c =
    let w = c.digit_count.ensures.0 ∙ ap digit_count c.largest_count.ensures in
    let h = c.put.ensures in
    stored-front (rw (whole-lines c.requires.0 _ _ w (whole-total c.requires.0 c.union_total.ensures)) at h.0) (omega (arith, h.1, c.requires.1))
