-- `share` meets its contract.
use mathlib.Core.Path.{sym, ap, ◌∙◌}
use native.Mathlib.Omega.{arith}
use Rattle.report.specs.Line.{without_false_end}
use Rattle.report.proofs.Shares.{neither-end, share_part, share-rest}
use Rattle.report.proofs.line.share.Goals as goal

pub returns-then-count-whole : goal.returns-then-count-whole
returns-then-count-whole c =
    let s = c.args in
    let r = c.rounded-thousandths in
    let given = c.without_false_end.ensures in
    (given ∙ ap without_false_end r.ensures.0 ∙ sym (share_part s.count s.whole (omega arith)), omega (arith, given, neither-end r.result r.ensures.1))

pub returns : goal.returns
returns c =
    let s = c.args in
    let r = c.rounded-thousandths.ensures in
    (r.0 ∙ sym (share-rest s.count s.whole (omega arith)), r.1)
