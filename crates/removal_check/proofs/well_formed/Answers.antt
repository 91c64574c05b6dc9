-- `well_formed` meets its contract.
use Rattle.std.proofs.Common.{sym, ◌∙◌}
use lib.ListN.{length}
use Rattle.removal_check.proofs.OnePass.AcceptsExactly.{check-well-formed}
use Rattle.removal_theory.proofs.WellFormed.AcceptsExactly.{type-length}
use Rattle.removal_check.proofs.well_formed.Goals as goal

pub check_records-requires : goal.check_records-requires
check_records-requires c = (type-length (length c.args.bytes.now) c.requires).1

pub returns : goal.returns
returns c = c.check_records.ensures ∙ sym (check-well-formed _ _ (λ p. (c.type_inv.bytes p).fits) c.requires)
