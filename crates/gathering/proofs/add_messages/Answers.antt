-- `add_messages` meets its contract.
use mathlib.Core.Path.{◌≡◌, refl, ◌∙◌}
use mathlib.Core.List.{List, []}
use Prim.Native.Nat.{ℕ, ◌*◌}
use native.Mathlib.Omega.{arith}
use lib.ListN.{length}
use lib.Seq.{length-take-le}
use Rattle.std.proofs.lemmas.Result.{err_from_is_err_and}
use Rattle.value_table.specs.Judged.{messages}
use Rattle.counting_theory.specs.Trie.{nil}
use Rattle.gathering.specs.Inside.Gathering.{Roomy}
use Rattle.gathering.proofs.Waiting.SlotBytes.{slots-cleared}
use Rattle.inference.proofs.InPlace.TableRun.{table-run, holds-nothing, added-once, weighed-once}
use Rattle.gathering.proofs.add_messages.Goals as goal
use Rattle.gathering.proofs.add_messages.Goals.{After-fill}

pub add_run-requires : goal.add_run-requires
add_run-requires c =
    let r = table-run c.requires.0.is-table in
    (record { f = nil; q = []; free = c.args.a.now; holds = holds-nothing _ _ c.requires.1 }, record { values = messages c.args.t.now; run = r }, omega (arith, c.requires.2), weighed-once r.short, c.requires.3)

pub returns-then-number-eq0 : goal.returns-then-number-eq0
returns-then-number-eq0 c =
    let s = c.requires in
    rw (← added-once) (c.add_run.ensures nil [] _ _ (holds-nothing _ _ s.1) (table-run s.0.is-table))

-- the slots, cleared
module _ (c : goal.After-fill) where
  roomy : (a slots keys : List ℕ) → length a ≡ length c.args.a.now → length slots ≡ length c.fill.new.self → length keys ≡ length c.split_at_mut-keys.result.0.now → Roomy a slots keys
  roomy a s k x y z =
      let p = c.split_at_mut-keys.ensures in
      let n = c.fill.ensures.len in
      let t : length c.fill.new.self ≡ 8 * c.slots_for-number.result = n ∙ length-take-le (8 * c.slots_for-number.result) c.split_at_mut-keys.result.1.now (omega (arith, p.back_len, c.div_ceil.ensures, c.slots_for-number.ensures, c.requires.2)) in
      record { some = omega (arith, c.if-number-eq0.false); few = omega (arith, c.slots_for-number.ensures); enough = omega (arith, p.front_len, c.requires.2) }

pub gather-requires : goal.gather-requires
gather-requires c =
    let k = (goal.at.gather-requires c).After-fill in
    let s = c.requires in
    (s.0, s.1, roomy k _ _ _ refl refl refl, slots-cleared _ _ (c.fill.ensures.after (λ y e. e)), s.3)

pub returns-in_err-m : goal.returns-in_err-m
returns-in_err-m c =
    let p = err_from_is_err_and c.from_residual.result c.from_residual.ensures.1 in
    rw p.1 (omega (arith, rw c.in_err-m.was at c.gather.ensures))

pub settle-requires : goal.settle-requires
settle-requires c =
    let k = (goal.at.settle-requires c).After-fill in
    (c.requires.0, rw c.in_ok-m.was at c.gather.ensures, roomy k _ _ _ c.gather.auto.a c.gather.auto.slots c.gather.auto.keys, c.requires.3)
