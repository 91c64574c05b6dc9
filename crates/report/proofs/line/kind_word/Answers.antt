-- `kind_word` meets its contract.
use mathlib.Core.Path.{refl}
use native.Mathlib.Omega.{arith}
use Rattle.report.specs.Line.{kind_word}
use Rattle.report.proofs.Words.{no_word}
use Rattle.report.proofs.line.kind_word.Goals as goal

pub returns-in-1 : goal.returns-in-1
unfolding kind_word
returns-in-1 c = rw c.in-1.is (refl, omega arith)

pub returns-in-2 : goal.returns-in-2
unfolding kind_word
returns-in-2 c = rw c.in-2.is (refl, omega arith)

pub returns-in-3 : goal.returns-in-3
unfolding kind_word
returns-in-3 c = rw c.in-3.is (refl, omega arith)

pub returns-in-4 : goal.returns-in-4
unfolding kind_word
returns-in-4 c = rw c.in-4.is (refl, omega arith)

pub returns-in-5 : goal.returns-in-5
unfolding kind_word
returns-in-5 c = rw c.in-5.is (refl, omega arith)

pub returns-in-6 : goal.returns-in-6
unfolding kind_word
returns-in-6 c = rw c.in-6.is (refl, omega arith)

pub returns-in-7 : goal.returns-in-7
unfolding kind_word
returns-in-7 c = rw c.in-7.is (refl, omega arith)

pub returns-in_default : goal.returns-in_default
returns-in_default c = (rw (no_word c.args.kind (λ a b. omega arith)) refl, omega arith)
