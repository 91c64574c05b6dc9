-- `put` meets its contract: the lines of the records from p on are left to store.
use native.Mathlib.Omega.{arith}
use Rattle.report.proofs.Runs.{run-first}
use Rattle.report.proofs.Walking.{walking_start, walking-next, walking-done}
use Rattle.report.proofs.walk.Run.+put.Goals as goal

pub loop-p-init : goal.loop-p-init
loop-p-init t c = walking_start _ _ _ c.requires.0

pub put_record-inside-requires : goal.put_record-inside-requires
put_record-inside-requires t c =
    let l = c.loop-p.invariant in
    ((run-first l.run c.loop-p-test.true).printable, omega (arith, l.run.deep, l.run.within, l.run.short), c.requires.1, omega (arith, l.room, c.requires.2))

pub span_at-requires : goal.span_at-requires
span_at-requires t c = (run-first c.loop-p.invariant.run c.loop-p-test.true).printable.here

pub overflow_add-next : goal.overflow_add-next
overflow_add-next t c = omega (arith, (run-first c.loop-p.invariant.run c.loop-p-test.true).span_fits, c.span_at.ensures.0, c.ranges.end)

pub inside-requires-clause-inside : goal.inside-requires-clause-inside
inside-requires-clause-inside t c = rw c.span_at.ensures.0 (run-first c.loop-p.invariant.run c.loop-p-test.true).within

pub inside-requires-clause-depth : goal.inside-requires-clause-depth
inside-requires-clause-depth t c = let l = c.loop-p.invariant in omega (arith, l.run.deep, l.run.within, l.run.short)

pub put-to-requires : goal.put-to-requires
put-to-requires t c =
    let l = c.loop-p.invariant in
    let f = run-first l.run c.loop-p-test.true in
    let e = c.span_at.ensures.0 in
    (omega (arith, c.decreases, l.upto, f.span_fits, e), (rw (c.inside.ensures, e) f.inside, rw c.inside.ensures c.requires.1, omega (arith, c.requires.2, l.room, f.span_fits, f.span-low, e, c.put_record-inside.ensures.1)))

pub loop-p-smaller : goal.loop-p-smaller
loop-p-smaller t c = omega (arith, (run-first c.loop-p.invariant.run c.loop-p-test.true).span-low, c.span_at.ensures.0, c.loop-p-test.true)

pub loop-p-preserved : goal.loop-p-preserved
loop-p-preserved t c =
    let e = c.span_at.ensures.0 in
    rw e (walking-next c.loop-p.invariant c.loop-p-test.true c.put_record-inside.ensures (rw (c.inside.ensures, e) at c.put-to.ensures))

pub returns : goal.returns
returns t c = walking-done c.loop-p.invariant c.loop-p-test.false
