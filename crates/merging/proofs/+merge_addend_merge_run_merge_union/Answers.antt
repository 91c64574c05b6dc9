-- `merge_addend`, `merge_run` and `merge_union` meet their contracts.
use Prim.Native.Nat.{ℕ}
use mathlib.Core.Logic.{◌⊎◌, inl, inr}
use lib.ListN.{length}
use mathlib.Core.Path.{◌≡◌, sym, ap, ◌∙◌}
use native.Mathlib.Omega.{arith}
use Rattle.counting_theory.specs.Order.{ordering_of}
use Rattle.type_arena.specs.Inside.Runs.{inside_of}
use Rattle.type_arena.proofs.FirstAddend.{headed, body-rest, not-empty, is-empty}
use Rattle.type_arena.proofs.Runs.{At, Head, head, rank-inside, same-kinds}
use Rattle.merging.proofs.TypeMerge.MergeLoop.{turn-less, turn_more, turn-same, joined-room, inside-fits, stored-inside, addend-done, first-only, run-done, union-done}
use Rattle.merging.proofs.TypeMerge.OneAddend.{merged-le}
use Rattle.merging.proofs.+merge_addend_merge_run_merge_union.Goals as goal
use Rattle.merging.proofs.+merge_addend_merge_run_merge_union.Goals.{merge_addend-Start, merge_run-Then-not-is_empty, merge_run-After-append, merge_run-then-loop-level-test+else-not-is_empty, merge_run-else-loop-level-test}

-- what is known of the two first addends
module _ {t : ℕ} (s : goal.merge_addend-Start t) where
  x-head : Head s.args.level s.args.x.now
  x-head = head s.requires.type_run.0 s.requires.type_run.1

  y-head : Head s.args.level s.args.y.now
  y-head = head s.requires.type_run_2.0 s.requires.type_run_2.1

-- and of those that a turn compares
module _ {t : ℕ} (s : goal.merge_run-Then-not-is_empty t) where
  first : Head s.args.level s.loop-level.x.now
  first = head s.loop-level.invariant.first (not-empty s.is_empty.ensures s.loop-level-test.true)

  second : Head s.args.level s.loop-level.y.now
  second = head s.loop-level.invariant.second (not-empty s.is_empty-in-loop-level.ensures s.if-not-is_empty.true)

pub merge_addend-kind_at-kind-requires : goal.merge_addend-kind_at-kind-requires
merge_addend-kind_at-kind-requires t c = let h = (x-head (goal.at.merge_addend-kind_at-kind-requires t c).Start).first in omega arith

pub merge_addend-body_of-requires : goal.merge_addend-body_of-requires
merge_addend-body_of-requires t c = headed (x-head (goal.at.merge_addend-body_of-requires t c).Start).first

pub merge_addend-body_of-requires-2 : goal.merge_addend-body_of-requires-2
merge_addend-body_of-requires-2 t c = headed (y-head (goal.at.merge_addend-body_of-requires-2 t c).Start).first

pub merge_addend-overflow_add-at : goal.merge_addend-overflow_add-at
merge_addend-overflow_add-at t c = let h = (x-head (goal.at.merge_addend-overflow_add-at t c).Start).first in omega arith

pub merge_addend-inside-requires : goal.merge_addend-inside-requires
merge_addend-inside-requires t c = (x-head (goal.at.merge_addend-inside-requires t c).Start).level-left

pub merge_addend-merge_union-inside-requires : goal.merge_addend-merge_union-inside-requires
merge_addend-merge_union-inside-requires t c =
    let h = x-head (goal.at.merge_addend-merge_union-inside-requires t c).Start in
    let g = y-head (goal.at.merge_addend-merge_union-inside-requires t c).Start in
    let l = c.inside.ensures ∙ ap (inside_of c.args.level) c.kind_at-kind.ensures in
    let u = c.body_of.ensures in
    let v = c.body_of-2.ensures in (
      rw l (omega (arith, rank-inside h, c.decreases)),
      (
        (rw (l, u) h.in_body, rw (l, v, c.requires.type_run_2.2) g.in_body),
        omega (arith, ap length u, ap length v, body-rest h.first, body-rest g.first, c.requires.y_bound),
      ),
    )

pub merge_addend-overflow_add-bytes : goal.merge_addend-overflow_add-bytes
merge_addend-overflow_add-bytes t c =
    let s = (goal.at.merge_addend-overflow_add-bytes t c).Start in
    let w = stored-inside c.args.level c.kind_at-kind.result c.inside.ensures c.merge_union-inside.ensures in
    omega (arith, inside-fits (x-head s) (y-head s) c.body_of.ensures c.body_of-2.ensures w, c.requires.y_bound)

pub merge_addend-key_at-requires : goal.merge_addend-key_at-requires
merge_addend-key_at-requires t c = let h = (x-head (goal.at.merge_addend-key_at-requires t c).Start).first in omega arith

pub merge_addend-payload_at-requires : goal.merge_addend-payload_at-requires
merge_addend-payload_at-requires t c = let h = (x-head (goal.at.merge_addend-payload_at-requires t c).Start).first in omega arith

pub merge_addend-payload_at-requires-2 : goal.merge_addend-payload_at-requires-2
merge_addend-payload_at-requires-2 t c = let h = (y-head (goal.at.merge_addend-payload_at-requires-2 t c).Start).first in omega arith

pub merge_addend-put-requires : goal.merge_addend-put-requires
merge_addend-put-requires t c =
    let h = (x-head (goal.at.merge_addend-put-requires t c).Start).first in
    omega (arith, c.requires.y_bound)

pub merge_addend-returns : goal.merge_addend-returns
merge_addend-returns t c =
    let w = stored-inside c.args.level c.kind_at-kind.result c.inside.ensures c.merge_union-inside.ensures in
    addend-done _ _ _ c.body_of.ensures c.body_of-2.ensures w c.kind_at-kind.ensures c.key_at.ensures c.payload_at.ensures c.payload_at-2.ensures c.join.ensures c.put.ensures

pub merge_run-compare_labels-requires : goal.merge_run-compare_labels-requires
merge_run-compare_labels-requires t c = ((first c).first.here, (second c).first.here)

pub merge_run-keep-x-requires : goal.merge_run-keep-x-requires
merge_run-keep-x-requires t c =
    (headed (first (goal.at.merge_run-keep-x-requires t c).Then-not-is_empty).first, omega (arith, c.loop-level.invariant.room, c.requires.second_bound))

pub merge_run-loop-level-smaller-in-Less : goal.merge_run-loop-level-smaller-in-Less
merge_run-loop-level-smaller-in-Less t c =
    let h = (first (goal.at.merge_run-loop-level-smaller-in-Less t c).Then-not-is_empty).first in
    omega (arith, ap length c.keep-x.ensures.left)

pub merge_run-loop-level-preserved-in-Less : goal.merge_run-loop-level-preserved-in-Less
merge_run-loop-level-preserved-in-Less t c =
    let s = (goal.at.merge_run-loop-level-preserved-in-Less t c).Then-not-is_empty in
    turn-less c.loop-level.invariant (first s) (second s) (ap ordering_of (sym c.in-Less.is) ∙ c.compare_labels.ensures) c.keep-x.ensures

pub merge_run-keep-y-requires : goal.merge_run-keep-y-requires
merge_run-keep-y-requires t c =
    (headed (second (goal.at.merge_run-keep-y-requires t c).Then-not-is_empty).first, omega (arith, c.loop-level.invariant.room, c.requires.second_bound))

pub merge_run-loop-level-smaller-in-Greater : goal.merge_run-loop-level-smaller-in-Greater
merge_run-loop-level-smaller-in-Greater t c =
    let h = (second (goal.at.merge_run-loop-level-smaller-in-Greater t c).Then-not-is_empty).first in
    omega (arith, ap length c.keep-y.ensures.left)

pub merge_run-loop-level-preserved-in-Greater : goal.merge_run-loop-level-preserved-in-Greater
merge_run-loop-level-preserved-in-Greater t c =
    let s = (goal.at.merge_run-loop-level-preserved-in-Greater t c).Then-not-is_empty in
    turn_more c.loop-level.invariant (first s) (second s) (ap ordering_of (sym c.in-Greater.is) ∙ c.compare_labels.ensures) c.keep-y.ensures

pub merge_run-merge_addend-joined-requires : goal.merge_run-merge_addend-joined-requires
merge_run-merge_addend-joined-requires t c =
    let i = ap ordering_of (sym c.in-Equal.is) ∙ c.compare_labels.ensures in
    let w = c.loop-level.invariant in
    let p = not-empty c.is_empty.ensures c.loop-level-test.true in
    let q = not-empty c.is_empty-in-loop-level.ensures c.if-not-is_empty.true in (
      omega (arith, c.decreases),
      ((w.first, p), ((w.second, q, same-kinds _ _ _ i), omega (arith, w.room, c.requires.second_bound))),
    )

pub merge_run-overflow_add-at : goal.merge_run-overflow_add-at
merge_run-overflow_add-at t c =
    let s = (goal.at.merge_run-overflow_add-at t c).Then-not-is_empty in
    omega (arith, joined-room c.loop-level.invariant (first s) (second s) c.merge_addend-joined.ensures, c.requires.second_bound)

pub merge_run-rest_of-x-requires : goal.merge_run-rest_of-x-requires
merge_run-rest_of-x-requires t c = headed (first (goal.at.merge_run-rest_of-x-requires t c).Then-not-is_empty).first

pub merge_run-rest_of-y-requires : goal.merge_run-rest_of-y-requires
merge_run-rest_of-y-requires t c = headed (second (goal.at.merge_run-rest_of-y-requires t c).Then-not-is_empty).first

pub merge_run-loop-level-smaller : goal.merge_run-loop-level-smaller
merge_run-loop-level-smaller t c =
    let s = (goal.at.merge_run-loop-level-smaller t c).Then-not-is_empty in
    let h = (first s).first in
    let g = (second s).first in
    omega (arith, ap length c.rest_of-x.ensures, ap length c.rest_of-y.ensures)

pub merge_run-loop-level-preserved : goal.merge_run-loop-level-preserved
merge_run-loop-level-preserved t c =
    let s = (goal.at.merge_run-loop-level-preserved t c).Then-not-is_empty in
    let i = ap ordering_of (sym c.in-Equal.is) ∙ c.compare_labels.ensures in
    turn-same c.loop-level.invariant (first s) (second s) i c.merge_addend-joined.ensures c.rest_of-x.ensures c.rest_of-y.ensures

-- one of both runs has run out
out-of : {t : ℕ} (c : goal.merge_run-After-append t) → (length c.loop-level.x.now ≡ 0) ⊎ (length c.loop-level.y.now ≡ 0)
out-of c =
    elim c.loop-level-test.branch [
      | merge_run-then-loop-level-test+else-not-is_empty w ↦ inr (is-empty w.is_empty-in-loop-level.ensures w.if-not-is_empty.false)
      | merge_run-else-loop-level-test w ↦ inl (is-empty c.is_empty.ensures w.loop-level-test.false)
    ]

pub merge_run-returns : goal.merge_run-returns
merge_run-returns t c =
    let s = (goal.at.merge_run-returns t c).After-append in
    run-done s.loop-level.invariant (out-of s) s.append.ensures

pub merge_union-returns-then-is_empty : goal.merge_union-returns-then-is_empty
merge_union-returns-then-is_empty t c = first-only c.requires.type_run.0 (is-empty c.is_empty.ensures c.if-is_empty.true) c.put_bytes.ensures

pub merge_union-append-requires : goal.merge_union-append-requires
merge_union-append-requires t c =
    let p = c.requires.type_run in
    omega (arith, c.merge_run-tail.ensures.upto, merged-le (At c.args.level) c.args.a.now c.args.b.now p.0.coded p.1.coded, c.requires.b_bound)

pub merge_union-returns : goal.merge_union-returns
merge_union-returns t c = union-done c.total_over-over.ensures c.merge_run-tail.ensures c.append.ensures
