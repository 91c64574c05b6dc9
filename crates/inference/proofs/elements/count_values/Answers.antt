-- `count_values` meets its contract.
use mathlib.Core.List.{List}
use Prim.Native.Nat.{ℕ, ◌+◌, ◌*◌, ◌/◌, ◌≤◌, ◌<◌}
use native.Mathlib.Omega.{arith}
use lib.ListN.{length}
use Rattle.value_table.specs.Value.{record_size, max_length}
use Rattle.inference.specs.Inside.Inferring.{step_at}
use Rattle.inference.proofs.InPlace.Runs.{whole-records}
use Rattle.inference.proofs.InPlace.Elements.{passed-step, passed-next, all-passed}
use Rattle.inference.proofs.elements.count_values.Goals as goal
use Rattle.inference.proofs.elements.count_values.Goals.{In-loop-i}

-- the value at i
module _ (c : goal.In-loop-i) where
  abbrev t : List ℕ
  t = c.args.t.now

  short : length t ≤ max_length
  short = c.requires.run.short

  within : c.loop-i.i < length t / record_size
  within = omega (arith, c.loop-i.invariant.0)

  step : (1 ≤ step_at t c.loop-i.i) × (record_size * (c.loop-i.i + step_at t c.loop-i.i) ≤ length t)
  step = let s = c.requires in passed-step short (c.loop-i.invariant.2 s.values s.run) within

pub overflow_add-i : goal.overflow_add-i
overflow_add-i c = omega (arith, step (goal.at.overflow_add-i c).In-loop-i, short (goal.at.overflow_add-i c).In-loop-i, c.step_at-i.ensures)

pub loop-i-smaller : goal.loop-i-smaller
loop-i-smaller c = omega (arith, step (goal.at.loop-i-smaller c).In-loop-i, c.loop-i.invariant.0, within (goal.at.loop-i-smaller c).In-loop-i, c.step_at-i.ensures)

pub loop-i-preserved : goal.loop-i-preserved
loop-i-preserved c =
    let v = c.loop-i.invariant in
    (v.0, omega (arith, v.1, step (goal.at.loop-i-preserved c).In-loop-i, c.step_at-i.ensures), λ vs r. rw c.step_at-i.ensures (passed-next r.short (v.2 vs r) (within (goal.at.loop-i-preserved c).In-loop-i)))

pub returns : goal.returns
returns c vs r =
    let v = c.loop-i.invariant in
    all-passed r.short (v.2 vs r) (omega (arith, v.0, c.loop-i-test.false, whole-records _ vs r.bytes))
