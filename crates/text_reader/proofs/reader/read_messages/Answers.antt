-- `read_messages` meets its contract.
use mathlib.Core.Path.{◌≡◌, refl, sym, ◌∙◌, ap}
use mathlib.Core.Bool.{true}
use Prim.Native.Nat.{◌/◌}
use native.Mathlib.Omega.{arith}
use lib.ListN.{length, length-set}
use borrow.Author.Rules.{rules}
use Rattle.std.proofs.lemmas.Result.{err_from_is_err_and}
use Rattle.value_table.specs.Value.{record_size}
use Rattle.json_theory.specs.Inside.Scanning.{byte_at}
use Rattle.text_reader.specs.Inside.Progress.{in_object, shuts, ItemAt, StaysOpen, LevelIs}
use Rattle.text_reader.specs.Inside.Items.{ScalarItem, OpenItem}
use Rattle.text_reader.proofs.ReadUpTo.{upto-start, upto-shut, upto-scalar, upto-open, all_read}
use Rattle.text_reader.proofs.LoopFacts.{level-shuts, level-fits, own-low, items-low, before-low, holds-room, own-inside, stays_open}
use Rattle.text_reader.proofs.reader.read_messages.Goals as goal
use Rattle.text_reader.proofs.reader.read_messages.Goals.{After-next_item, Then-closes, In-Some, In-Opened, In-Scalar}

pub loop-at-init : goal.loop-at-init
loop-at-init c = (upto-start _ _ _ _ _ _ c.requires.table_len_bound.1, search rules, refl, refl)

-- the innermost level is shut at this byte
shut : (c : goal.Then-closes) →
    shuts c.loop-at.level.depth (in_object c.loop-at.invariant.0.around) (byte_at c.args.text.now c.space_end-here.result) ≡ true
shut c =
    let i = c.loop-at.invariant.0.inner in
    level-shuts _ _ i i.depth_is (sym c.closes.ensures ∙ c.if-closes.true)

pub overflow_sub-count : goal.overflow_sub-count
overflow_sub-count c =
    let u = c.loop-at.invariant.0 in
    omega (arith, u.inner.record_is, own-low u.around, u.counted)

pub store_span-requires : goal.store_span-requires
store_span-requires c =
    let u = c.loop-at.invariant.0 in
    omega (arith, u.inner.record_is, own-inside u.around _ _ u.inner.depth_is (shut (goal.at.store_span-requires c).Then-closes), holds-room _ u.around u.holds)

pub overflow_add-level : goal.overflow_add-level
overflow_add-level c =
    let v = c.loop-at.invariant in
    let u = v.0 in
    omega (arith, before-low _ u.around _ _ u.inner.depth_is (shut (goal.at.overflow_add-level c).Then-closes) u.outer, holds-room _ u.around u.holds, v.2, c.requires.table_len_bound.0)

pub loop-at-preserved-then-closes : goal.loop-at-preserved-then-closes
loop-at-preserved-then-closes c =
    let v = c.loop-at.invariant in (
      upto-shut _ _ _ _ _ _ _ _ _ _ _ c.space_end-here.ensures v.0.shallow c.store_span.ensures v.0
          (shut (goal.at.loop-at-preserved-then-closes c).Then-closes),
      v.1,
      c.store_span.auto.table ∙ v.2,
      v.3,
    )

-- it stays open
stays : (c : goal.After-next_item) → StaysOpen c.loop-at.invariant.0.around (byte_at c.args.text.now c.space_end-here.result)
stays c =
    let u = c.loop-at.invariant.0 in
    stays_open u.around _ _ u.inner.depth_is (level-shuts _ _ u.inner u.inner.depth_is (sym c.closes.ensures ∙ c.if-closes.false))

pub returns-in_default : goal.returns-in_default
returns-in_default c =
    let u = c.loop-at.invariant.0 in
    let i = c.loop-at.invariant.0.inner in
    all_read u ((rw c.in_default.is at c.in_ok-start.ensures) u.state u.around u.between i.depth_is (stays (goal.at.returns-in_default c).After-next_item))

pub returns-in_err-start : goal.returns-in_err-start
returns-in_err-start c =
    let u = c.loop-at.invariant.0 in
    let i = c.loop-at.invariant.0.inner in
    let p = err_from_is_err_and c.from_residual.result c.from_residual.ensures.1 in
    rw (p.1, p.2)
    (sym u.reads ∙ c.in_err-start.ensures u.state u.around u.between i.depth_is (stays (goal.at.returns-in_err-start c).After-next_item) _ _)

-- the item that comes next
there : (c : goal.In-Some) → let u = c.loop-at.invariant.0 in ItemAt c.args.text.now u.state c.loop-at.at u.around c.in-Some.start
there c =
    let u = c.loop-at.invariant.0 in
    let i = u.inner in
    (rw c.in-Some.is at c.in_ok-start.ensures) u.state u.around u.between i.depth_is (stays_open u.around _ _ i.depth_is (level-shuts _ _ i i.depth_is (sym c.closes.ensures ∙ c.if-closes.false)))

pub item_at-requires-clause-place_in : goal.item_at-requires-clause-place_in
item_at-requires-clause-place_in c =
    let v = c.loop-at.invariant in
    let u = v.0 in
    let p = c.requires in
    let i = c.loop-at.invariant.0.inner in
    let t = there (goal.at.item_at-requires-clause-place_in c).In-Some in
    let fits = level-fits i u.marks (omega (arith, v.3, p.table_len_bound.2)) (omega (arith, i.depth_is, u.shallow)) u.holds (omega (arith, v.2, p.table_len_bound.0)) in
    ((t.upto, p.text_len_bound), fits)

pub item_at-requires-clause-table_len_bound : goal.item_at-requires-clause-table_len_bound
item_at-requires-clause-table_len_bound c =
    let v = c.loop-at.invariant in
    let u = v.0 in
    (omega (arith, v.2, c.requires.table_len_bound.0), omega (arith, holds-room _ u.around u.holds, u.counted))

pub returns-in_err-end : goal.returns-in_err-end
returns-in_err-end c =
    let v = c.loop-at.invariant in
    let u = v.0 in
    let i = c.loop-at.invariant.0.inner in
    let t = there (goal.at.returns-in_err-end c).In-Some in
    let p = err_from_is_err_and c.from_residual-in_err-end.result c.from_residual-in_err-end.ensures.1 in
    rw (p.1, p.2)
    (sym u.reads ∙ t.leads _ _
    ∙ rw (← v.2) (c.in_err-end.ensures.item_is t.state u.around t.awaits t.byte t.ready i u.counted u.holds u.marks))

pub overflow_add-level-in-Scalar : goal.overflow_add-level-in-Scalar
overflow_add-level-in-Scalar c =
    let v = c.loop-at.invariant in
    let u = v.0 in
    omega (arith, holds-room _ u.around u.holds, u.counted, v.2, c.requires.table_len_bound.0, items-low u.around, u.inner.items-are)

pub overflow_add-count : goal.overflow_add-count
overflow_add-count c =
    let v = c.loop-at.invariant in
    let u = v.0 in
    omega (arith, holds-room _ u.around u.holds, u.counted, v.2, c.requires.table_len_bound.0)

pub loop-at-smaller-in-Scalar : goal.loop-at-smaller-in-Scalar
loop-at-smaller-in-Scalar c =
    let t = there (goal.at.loop-at-smaller-in-Scalar c).In-Some in
    omega (arith, (rw c.in-Scalar.is at c.in_ok-end.ensures).value_place, t.from)

pub loop-at-preserved-in-Scalar : goal.loop-at-preserved-in-Scalar
loop-at-preserved-in-Scalar c =
    let v = c.loop-at.invariant in
    let u = v.0 in
    let i = c.loop-at.invariant.0.inner in
    let t = there (goal.at.loop-at-preserved-in-Scalar c).In-Some in
    let item : ScalarItem c.args.text.now c.args.book.now c.item_at.new.table c.item_at.new.seen (length c.args.table.now / record_size) t.state c.in-Some.start u.around c.in-Scalar.end =
    rw (← v.2) ((rw c.in-Scalar.is at c.in_ok-end.ensures).item_is t.state u.around t.awaits t.byte t.ready i u.counted u.holds u.marks) in
    (upto-scalar u t item (rw c.in-Scalar.is at c.in_ok-end.ensures).value_place.1, v.1, c.item_at.auto.table ∙ v.2, c.item_at.auto.seen ∙ v.3)

-- the value that opens
opens : (c : goal.In-Opened) (i : LevelIs c.loop-at.invariant.0.around c.loop-at.level)
    (t : ItemAt c.args.text.now c.loop-at.invariant.0.state c.loop-at.at c.loop-at.invariant.0.around c.in-Some.start) →
    OpenItem c.args.text.now c.args.book.now c.item_at.new.table c.item_at.new.seen (length c.args.table.now / record_size) t.state c.in-Some.start
    c.loop-at.invariant.0.around c.in-Opened.from c.in-Opened.object
opens c i t =
    let v = c.loop-at.invariant in
    let u = v.0 in
    rw (← v.2) ((rw c.in-Opened.is at c.in_ok-end.ensures).item_is t.state u.around t.awaits t.byte t.ready i u.counted u.holds u.marks)

pub bounds-outer-level-in-Opened : goal.bounds-outer-level-in-Opened
bounds-outer-level-in-Opened c =
    let i = c.loop-at.invariant.0.inner in
    let t = there (goal.at.bounds-outer-level-in-Opened c).In-Some in
    let o = opens (goal.at.bounds-outer-level-in-Opened c).In-Opened i t in
    omega (arith, o.read.shallow, i.depth_is)

pub overflow_add-count-in-Opened : goal.overflow_add-count-in-Opened
overflow_add-count-in-Opened c =
    let v = c.loop-at.invariant in
    let u = v.0 in
    omega (arith, holds-room _ u.around u.holds, u.counted, v.2, c.requires.table_len_bound.0)

pub loop-at-smaller : goal.loop-at-smaller
loop-at-smaller c =
    let t = there (goal.at.loop-at-smaller c).In-Some in
    omega (arith, (rw c.in-Opened.is at c.in_ok-end.ensures).value_place, t.from)

pub loop-at-preserved : goal.loop-at-preserved
loop-at-preserved c =
    let v = c.loop-at.invariant in
    let u = v.0 in
    let i = c.loop-at.invariant.0.inner in
    let t = there (goal.at.loop-at-preserved c).In-Some in
    let o = opens (goal.at.loop-at-preserved c).In-Opened i t in (
      upto-open u t o (rw c.in-Opened.is at c.in_ok-end.ensures).value_place.1 v.1,
      length-set c.loop-at.outer c.loop-at.level.depth _ ∙ v.1,
      c.item_at.auto.table ∙ v.2,
      c.item_at.auto.seen ∙ v.3,
    )
