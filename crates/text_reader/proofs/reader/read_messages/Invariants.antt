-- `read_messages` meets its contract.
use mathlib.Core.Path.{◌≡◌}
use Prim.Native.Nat.{◌-◌, ◌/◌}
use lib.ListN.{length}
use Rattle.value_table.specs.Value.{record_size, max_depth}
use Rattle.text_reader.specs.Inside.Items.{ReadUpTo}
use Rattle.text_reader.proofs.reader.read_messages.Given as goal

abbrev pub invariant-loop-at : goal.invariant-loop-at
invariant-loop-at l =
    ReadUpTo l.text l.book l.table l.seen (length l.initial.table / record_size) l.outer l.at l.count l.level
    × (length l.outer ≡ max_depth) × (length l.table ≡ length l.initial.table) × (length l.seen ≡ length l.initial.seen)

abbrev pub decreases-loop-at : goal.decreases-loop-at
decreases-loop-at l = length l.text - l.at
