-- `last_alike` meets its contract.
use Rattle.std.proofs.Common.{◌≡◌, ◌+◌, ◌-◌, ◌≤◌}
use Rattle.counting_theory.specs.Encoding.{type_span}
use Rattle.inference.specs.Inside.ScalarFields.{OfFields, BelowAt}
use Rattle.inference.proofs.scalar_fields.last_alike.Given as goal

abbrev pub invariant-loop-next : goal.invariant-loop-next
invariant-loop-next l = (l.from ≤ l.p) × (l.like ≡ type_span l.b l.p) × (l.next ≡ l.p + type_span l.b l.p) ×
    OfFields l.b l.n l.from (λ e f q. BelowAt l.b l.n l.key f l.p)

abbrev pub decreases-loop-next : goal.decreases-loop-next
decreases-loop-next l = l.n - l.next
