-- `bisect` meets its contract.
use mathlib.Core.Path.{refl, subst}
use native.Mathlib.Omega.{arith}
use borrow.Author.Rules.{rules}
use Rattle.key_book.specs.Inside.Records.{OrderIs}
use Rattle.json_theory.specs.Inside.Scanning.{between}
use Rattle.key_book.proofs.Halving.{among_none}
use Rattle.key_book.proofs.Matching.{among-all, key-found, halve-left, halve-right}
use Rattle.key_book.proofs.book.Book.bisect.Goals as goal

pub loop-low-init : goal.loop-low-init
loop-low-init c =
    (search rules, search rules, among-all (between c.args.text.now c.args.from c.args.to) c.self.inside.bytes.now)

pub loop-low-preserved-in-Less : goal.loop-low-preserved-in-Less
loop-low-preserved-in-Less c = (
  search rules,
  search rules,
  halve-right _ _ c.self.invariant.1 _ _ _ (omega arith) c.loop-low.invariant.2
      (subst (OrderIs _ _) c.in-Less.is c.compare.ensures),
)

pub returns-in-Equal : goal.returns-in-Equal
returns-in-Equal c =
    rw (← c.self.view_is)
    (key-found _ _ c.self.invariant.1 _ (omega arith) (subst (OrderIs _ _) c.in-Equal.is c.compare.ensures))

pub loop-low-preserved : goal.loop-low-preserved
loop-low-preserved c = (
  search rules,
  search rules,
  halve-left _ _ c.self.invariant.1 _ _ _ (omega arith) c.loop-low.invariant.2
      (subst (OrderIs _ _) c.in-Greater.is c.compare.ensures),
)

pub returns : goal.returns
returns c =
    rw (← c.self.view_is, among_none _ _ _ _ c.loop-low-test.false c.loop-low.invariant.2) refl
