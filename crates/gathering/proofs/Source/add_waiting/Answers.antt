-- `add_waiting` meets its contract.
use mathlib.Core.Path.{refl, ap}
use mathlib.Core.List.{[]}
use Prim.Native.Nat.{◌+◌, ◌*◌, ◌≤◌}
use native.Mathlib.Omega.{arith}
use Rattle.value_table.specs.Value.{record_size}
use Rattle.inference.proofs.InPlace.Words.{part-fits}
use Rattle.gathering.specs.Inside.Gathering.{message_at}
use Rattle.gathering.proofs.Waiting.Added.{waited-nothing, waits, part-is, weighed, slot-times}
use Rattle.gathering.proofs.Source.add_waiting.Goals as goal

pub returns-then-waiting-eq0 : goal.returns-then-waiting-eq0
returns-then-waiting-eq0 c f free h = waited-nothing _ _ _ c.if-waiting-eq0.true h

pub span_at-requires : goal.span_at-requires
span_at-requires c =
    let s = c.requires in
    let m = waits s.1 s.2 (omega arith) in
    omega (arith, m.some, m.within)

pub slice_bounds-add_run-end : goal.slice_bounds-add_run-end
slice_bounds-add_run-end c =
    let s = c.requires in
    omega (arith, (waits s.1 s.2 (omega arith)).within, c.span_at.ensures.0)

pub add_run-requires : goal.add_run-requires
add_run-requires c =
    let s = c.requires in
    let full : 1 ≤ c.args.waiting.count = omega arith in
    let i = c.args.waiting.first in
    let part = part-is s.1 s.2 full _ _ refl (ap (λ n. record_size * (i + n)) c.span_at.ensures.0) in
    (s.0, record { values = message_at c.args.self.now.table.now i; run = rw part (waits s.1 s.2 full).run }, s.3, rw part (weighed s.1 s.2 full), part-fits i _ refl (omega (arith, (waits s.1 s.2 full).within, c.span_at.ensures.0)) s.4)

pub returns : goal.returns
returns c f free h =
    let s = c.requires in
    let full : 1 ≤ c.args.waiting.count = omega arith in
    let part = part-is s.1 s.2 full _ _ refl (ap (λ n. record_size * (c.args.waiting.first + n)) c.span_at.ensures.0) in
    rw (← slot-times _ _ _ _ full) (c.add_run.ensures f [] free _ h (rw part (waits s.1 s.2 full).run))
