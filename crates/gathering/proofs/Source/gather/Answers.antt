-- `gather` meets its contract.
use mathlib.Core.Path.{◌≡◌}
use Prim.Native.Nat.{◌*◌, ◌≤◌, ◌<◌}
use native.Mathlib.Omega.{arith}
use lib.ListN.{length}
use Rattle.value_table.specs.Value.{max_length, record_size, records}
use Rattle.gathering.specs.Inside.Gathering.{MessageAt}
use Rattle.inference.proofs.InPlace.TableRun.{table-run}
use Rattle.gathering.proofs.Waiting.GatherLoop.{here}
use Rattle.gathering.proofs.Waiting.Settled.{gathering-start}
use Rattle.std.proofs.lemmas.Result.{err_from_is_err_and}
use Rattle.gathering.proofs.Source.gather.Goals as goal
use Rattle.gathering.proofs.Source.gather.Goals.{In-loop-i}

-- the message at hand
module _ (c : goal.In-loop-i) where
  short : length c.args.self.now.table.now ≤ max_length
  short = (table-run c.requires.0.is-table).short

  more : record_size * c.loop-i.i < length c.args.self.now.table.now
  more = omega (arith, c.loop-i-test.true)

  message : MessageAt c.args.self.now.table.now c.loop-i.i
  message = here c.loop-i.invariant.0 short more

pub loop-i-init : goal.loop-i-init
loop-i-init c = (gathering-start _ _ c.requires.0 _ _ _ c.requires.1 c.requires.3, omega arith)

pub take_message-requires : goal.take_message-requires
take_message-requires c =
    let v = c.loop-i in
    let k = (goal.at.take_message-requires c).In-loop-i in
    let s = c.requires.2 in
    let n : length v.slots ≡ length c.args.slots.now = v.auto.slots in
    (v.invariant.0, more k, short k, record { some = omega (arith, s.some); few = rw n (omega (arith, s.few)); enough = omega (arith, s.enough) }, c.requires.4)

pub returns-in_err-m : goal.returns-in_err-m
returns-in_err-m c =
    let p = err_from_is_err_and c.from_residual.result c.from_residual.ensures.1 in
    rw p.1 (rw c.in_err-m.was at c.take_message.ensures)

pub span_at-i-requires : goal.span_at-i-requires
span_at-i-requires c = omega (arith, more (goal.at.span_at-i-requires c).In-loop-i)

pub overflow_add-i : goal.overflow_add-i
overflow_add-i c =
    let k = (goal.at.overflow_add-i c).In-loop-i in
    omega (arith, (message k).within, c.span_at-i.ensures.0, short k)

pub loop-i-smaller : goal.loop-i-smaller
loop-i-smaller c = omega (arith, (message (goal.at.loop-i-smaller c).In-loop-i).some, c.span_at-i.ensures.0, c.loop-i-test.true)

pub loop-i-preserved : goal.loop-i-preserved
loop-i-preserved c =
    let r = c.span_at-i.ensures.0 in
    (rw (c.in_ok-m.was, ← r) at c.take_message.ensures, omega (arith, (message (goal.at.loop-i-preserved c).In-loop-i).within, r))

pub returns : goal.returns
returns c =
    let v = c.loop-i in
    let z : v.i ≡ records c.args.self.now.table.now = omega (arith, v.invariant.1, c.loop-i-test.false) in
    rw z at v.invariant.0
