-- `find` meets its contract.
use Rattle.inference.proofs.finding.find.Goals as goal

pub returns-then-p-n : goal.returns-then-p-n
returns-then-p-n c field rest f q free h s = c.standing-p.ensures field rest f q free h s c.if-p-n.true
