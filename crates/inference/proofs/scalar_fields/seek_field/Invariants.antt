-- `seek_field` meets its contract.
use Rattle.std.proofs.Common.{◌-◌}
use Rattle.counting_theory.specs.Label.{field_kind}
use Rattle.inference.specs.Inside.Inferring.{Starts}
use Rattle.inference.specs.Inside.ScalarFields.{OfFields, plain}
use Rattle.inference.proofs.InPlace.Scalars.{Begun}
use Rattle.inference.proofs.scalar_fields.seek_field.Given as goal

abbrev pub invariant-loop-at : goal.invariant-loop-at
invariant-loop-at l = OfFields l.b l.n l.from (λ e f q. Begun e l.b l.n (plain e field_kind l.key) f l.at × Starts l.before f)

abbrev pub decreases-loop-at : goal.decreases-loop-at
decreases-loop-at l = l.n - l.at
