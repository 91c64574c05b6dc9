-- The checker: unions by addends, addends by their inner unions, fields between, with a remaining depth that falls.
use Prim.Native.Nat.{◌+◌, ◌*◌, ◌-◌}
use Rattle.type_check.proofs.OnePass.Loops.{Addends, Fields}
use Rattle.type_check.proofs.Checker.+check_addend_check_field_check_fields_check_union.Given as goal

abbrev pub decreases-check_addend : goal.decreases-check_addend
decreases-check_addend g l = 4 * l.self.left + 2

abbrev pub decreases-check_field : goal.decreases-check_field
decreases-check_field g l = 4 * l.self.left + 4

abbrev pub decreases-check_fields : goal.decreases-check_fields
decreases-check_fields g l = 4 * l.self.left + 1

abbrev pub decreases-check_union : goal.decreases-check_union
decreases-check_union g l = 4 * l.self.left + 3

abbrev pub invariant-check_fields-loop-p : goal.invariant-check_fields-loop-p
invariant-check_fields-loop-p g l = Fields g.L.Judged.reading l.self.equivalence l.self.b.now l.i l.self.end (33 - l.self.left) l.of_record l.p l.last

abbrev pub decreases-check_fields-loop-p : goal.decreases-check_fields-loop-p
decreases-check_fields-loop-p g l = l.self.end - l.p

abbrev pub invariant-check_union-loop-p : goal.invariant-check_union-loop-p
invariant-check_union-loop-p g l = Addends g.L.Judged.reading g.L.Records.Layout.SIZE l.self.equivalence l.self.b.now l.i l.self.end (33 - l.self.left) l.p l.last l.total

abbrev pub decreases-check_union-loop-p : goal.decreases-check_union-loop-p
decreases-check_union-loop-p g l = l.self.end - l.p
