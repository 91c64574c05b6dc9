-- `repeats` meets its contract.
use borrow.Author.Rules.{rules}
use borrow.Author.Tests.{lt-leb}
use Rattle.value_table.proofs.EarlierFields.{unrepeated, siblings, repeated-member}
use Rattle.value_table.proofs.Latest.{unrepeated-latest}
use Rattle.value_table.proofs.faults.repeats.Goals as goal

pub returns-in-None : goal.returns-in-None
returns-in-None c = λ f ks h. unrepeated (rw c.in-None.is at h)

pub key_before-requires : goal.key_before-requires
key_before-requires c = (search rules, siblings (rw c.in-Some.is at c.requires.1.before))

pub returns-then-first-latest : goal.returns-then-first-latest
returns-then-first-latest c = λ f ks h. repeated-member (rw c.in-Some.is at h) (c.key_before.ensures ks)

pub returns-else-first-latest : goal.returns-else-first-latest
returns-else-first-latest c =
    λ f ks h. let l = c.if-first-latest.false in
    rw (lt-leb _ _ l) (unrepeated-latest c.requires.2 (rw c.bucket_of.ensures.0 at l) (rw c.in-Some.is at h))
