-- `walk_table` meets its contract.
use mathlib.Core.Path.{refl}
use native.Mathlib.Omega.{arith}
use Rattle.byte_records.specs.Number.{Bytes}
use Rattle.value_table.proofs.Latest.{latest-start, latest-next}
use Rattle.value_table.proofs.WalkLoop.{no-level-eq, walking_start, walking-done, walking-inner, walking-inside, walking-parent, walking-refused, walking-room, walking_skip, walking-enter, fault-positive, Inside}
use Rattle.value_table.proofs.walk.walk_table.Goals as goal
use Rattle.value_table.proofs.walk.walk_table.Goals.{After-innermost-depth, then-span-gt1, else-span-gt1}

inner : (c : goal.After-innermost-depth) → Inside c.args.largest c.args.table.now c.loop-i.walk.levels c.innermost-depth.result c.loop-i.i
inner c = rw c.innermost-depth.ensures.0 (walking-inner c.loop-i.walk.depth c.loop-i.invariant.0 c.loop-i-test.true)

pub loop-i-init : goal.loop-i-init
loop-i-init c = (rw (no-level-eq _ c.default.ensures) (walking_start _ _), latest-start _ _ refl)

pub innermost-depth-requires : goal.innermost-depth-requires
innermost-depth-requires c = c.loop-i.invariant.0.shallow

pub fault_at-requires : goal.fault_at-requires
fault_at-requires c =
    let v = inner (goal.at.fault_at-requires c).After-innermost-depth in
    (omega arith, omega arith, walking-inside v.walking c.loop-i-test.true v.goes-on, walking-parent v.walking, c.loop-i.invariant.1)

pub returns-in-Some : goal.returns-in-Some
returns-in-Some c =
    let v = inner (goal.at.returns-in-Some c).After-innermost-depth in
    walking-refused v.walking c.loop-i-test.true v.goes-on (fault-positive c.in-Some.fault) c.in-Some.ensures

pub bounds-walk-depth-then-span-gt1 : goal.bounds-walk-depth-then-span-gt1
bounds-walk-depth-then-span-gt1 c =
    let v = inner (goal.at.bounds-walk-depth-then-span-gt1 c).After-innermost-depth in
    omega (arith, walking-room v.walking c.loop-i-test.true v.goes-on (λ p. (c.type_inv.table p).fits) c.in_default.ensures)

pub loop-i-preserved : goal.loop-i-preserved
loop-i-preserved c =
    let v = inner (goal.at.loop-i-preserved c).After-innermost-depth in
    let bytes : Bytes c.args.table.now = λ p. (c.type_inv.table p).fits in (
      elim c.if-span-gt1.branch [
        | then-span-gt1 w ↦ rw (w.walk-is, w.first_of.ensures, c.span_at-span.ensures.0) (walking-enter v.walking c.loop-i-test.true v.goes-on bytes c.in_default.ensures)
        | else-span-gt1 w ↦ rw (w.walk-is) (walking_skip v.walking c.loop-i-test.true v.goes-on bytes c.in_default.ensures (omega (arith, w.if-span-gt1.false, c.span_at-span.ensures.0)))
      ],
      rw c.bucket_of.ensures.0 (latest-next c.loop-i.invariant.1),
    )

pub returns : goal.returns
returns c = walking-done c.loop-i.invariant.0 c.loop-i-test.false
