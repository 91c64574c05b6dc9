-- `start_for` meets its contract.
use Rattle.counting_theory.specs.declared.equivalence.Equivalence.TheVariants.{Kind as by_kind}
use Rattle.folding.proofs.OnBytes.FieldStart.{as_fields_lem, sought-start}
use Rattle.folding.proofs.pass.start_for.Goals as goal

pub returns-in-Ok : goal.returns-in-Ok
returns-in-Ok c rest f q free h s = sought-start _ f _ (c.find_field.ensures by_kind rest f q free (as_fields_lem c.if-not-field.false h) s) _ c.in-Ok.is

pub returns-in-Ok-2 : goal.returns-in-Ok-2
returns-in-Ok-2 c rest f q free h s = sought-start _ f _ (c.find_field.ensures by_kind rest f q free (as_fields_lem c.if-not-field.false h) s) _ c.in-Ok.is
