-- `count_fields` meets its contract.
use Rattle.std.proofs.Common.{◌≡◌, ◌*◌, true, List, ℕ, length}
use Rattle.value_table.specs.Value.{Values}
use Rattle.counting_theory.specs.declared.equivalence.Equivalence.{Equivalence}
use Rattle.counting_theory.specs.Encoding.{type_size}
use Rattle.counting_theory.specs.Label.{CountingType}
use Rattle.inference.specs.Inside.ScalarFields.{AddedSoFar}
use Rattle.inference.proofs.scalar_fields.count_fields.Given as goal

abbrev pub invariant-loop-next : goal.invariant-loop-next
invariant-loop-next l = (length l.a ≡ length l.initial.a) ×
    ((e : Equivalence) (vs : Values) (f : CountingType) (q : List ℕ) (rest : ℕ) → length q ≡ type_size * rest → AddedSoFar e true l.weight vs f q l.initial.a l.t l.n l.i l.from → AddedSoFar e true l.weight vs f q l.a l.t l.n l.next l.at)
