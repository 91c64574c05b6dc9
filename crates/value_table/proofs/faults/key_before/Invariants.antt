-- `key_before` meets its contract.
use mathlib.Core.List.{List}
use Prim.Native.Nat.{ℕ, ◌-◌}
use Rattle.value_table.specs.Value.{key_at, span_at}
use Rattle.byte_records.specs.Inside.Chain.{Chain}
use Rattle.value_table.proofs.EarlierFields.{Left}
use Rattle.value_table.proofs.faults.key_before.Given as goal

abbrev pub invariant-loop-p : goal.invariant-loop-p
invariant-loop-p l = (all : List ℕ) → Chain (span_at l.table) (key_at l.table) l.i l.first all → Left l.table l.i l.key all l.p

abbrev pub decreases-loop-p : goal.decreases-loop-p
decreases-loop-p l = l.i - l.p
