-- `put_number_and` meets its contract.
use native.Mathlib.Omega.{arith}
use Rattle.report.proofs.Storing.{stored-then}
use Rattle.report.proofs.line.put_number_and.Goals as goal

pub returns : goal.returns
returns c = (stored-then c.put_number-p.ensures.0 c.put_byte.ensures, omega (arith, c.put_number-p.ensures.1, c.put_byte.ensures.behind))
