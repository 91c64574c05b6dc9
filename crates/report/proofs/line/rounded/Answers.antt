-- `rounded` meets its contract.
use mathlib.Core.Path.{refl}
use Rattle.report.specs.Line.{rounded}
use Rattle.report.proofs.Shares.{rounded-below}
use Rattle.report.proofs.line.rounded.Goals as goal

pub returns : goal.returns
unfolding rounded
returns c = (refl, rounded-below c.args.count c.args.whole c.requires.0 c.requires.1)
