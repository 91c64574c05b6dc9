-- `remove_addend` and `remove_union` meet their contracts.
use Rattle.std.proofs.Common.{◌-◌, ◌≤◌, length, sym, ap, ◌∙◌, arith}
use Rattle.counting_theory.specs.Order.{ordering_of}
use Rattle.type_arena.specs.Inside.Runs.{inside_of}
use Rattle.type_arena.proofs.FirstAddend.{not-empty, is-empty}
use Rattle.removal_arena.proofs.FirstAddend.{headed, body-rest, front-le}
use Rattle.removal_arena.proofs.Runs.{Head, head, rank-inside, same-kinds}
use borrow.Author.Tests.{not-false}
use Rattle.removal_arena.specs.Inside.Addend.{front}
use Rattle.removal.specs.Inside.Removing.{remainder_at}
use Rattle.removal.proofs.OnBytes.OneAddend.{short-left, over-left}
use Rattle.removal.proofs.OnBytes.RemovalLoop.{whole-inside, turn-less, less-lost, more-lost, turn-same, same-lost, part-done, whole-done}
use Rattle.removal.proofs.OnBytes.Stored.{addend-lost, addend-gone, LeftInside, inside-fits, addend-kept, addend-not-part, run-passes, run-stored, tail-limit}
use Rattle.removal.proofs.pass.+remove_addend_remove_union.Goals as goal
use Rattle.removal.proofs.pass.+remove_addend_remove_union.Goals.{remove_addend-Start, remove_addend-After-remove_union, remove_union-Else-is_empty, remove_union-else-level-via-then-level+else-passes, remove_union-else-level-via-else-level}

-- what is known of the two first addends
module _ {t : _} (s : goal.remove_addend-Start t) where
  x-head : Head s.args.level s.args.x.now
  x-head = head s.requires.whole_run.0.run s.requires.whole_run.1

  y-head : Head s.args.level s.args.y.now
  y-head = head s.requires.type_run.0 s.requires.type_run.1

-- what is known once the run inside is done
module _ {t : _} (u : goal.remove_addend-After-remove_union t) where
  abbrev begun : goal.remove_addend-Start t
  begun = u.before.before.before.before.before.before.before.before.before.before.before.before.before.before.before.before

  inside : LeftInside u.args.limit u.args.y.now (x-head begun) (u.count_at-count.result - u.count_at-taken.result) u.limit_inside-most.result u.inside-inner.result u.body_of-2.result.now u.body_of-3.result.now
  inside =
      record {
        more = omega (arith, u.if-count-taken.false, u.if-count-taken-2.false, u.count_at-count.ensures, u.count_at-taken.ensures);
        is-left = omega (arith, u.count_at-count.ensures, u.count_at-taken.ensures);
        low = u.if-limit-left.false;
        is-inner = u.inside-inner.ensures ∙ ap (inside_of u.args.level) u.kind_at-kind.ensures;
        is-limit = u.limit_inside-most.ensures;
        whole-body = u.body_of-2.ensures;
        part_body = u.body_of-3.ensures;
      }

pub remove_addend-count_at-count-requires : goal.remove_addend-count_at-count-requires
remove_addend-count_at-count-requires t c = let h = (x-head (goal.at.remove_addend-count_at-count-requires t c).Start).first in omega arith

pub remove_addend-count_at-taken-requires : goal.remove_addend-count_at-taken-requires
remove_addend-count_at-taken-requires t c = let h = (y-head (goal.at.remove_addend-count_at-taken-requires t c).Start).first in omega arith

pub remove_addend-body_of-requires : goal.remove_addend-body_of-requires
remove_addend-body_of-requires t c = headed (x-head (goal.at.remove_addend-body_of-requires t c).Start).first

pub remove_addend-body_of-requires-then-count-taken : goal.remove_addend-body_of-requires-then-count-taken
remove_addend-body_of-requires-then-count-taken t c = headed (y-head (goal.at.remove_addend-body_of-requires-then-count-taken t c).Start).first

pub remove_addend-returns-then-count-taken : goal.remove_addend-returns-then-count-taken
remove_addend-returns-then-count-taken t c =
    let s = (goal.at.remove_addend-returns-then-count-taken t c).Start in
    let equal = sym c.count_at-count.ensures ∙ c.if-count-taken.true ∙ c.count_at-taken.ensures in
    rw c.then_some.ensures (addend-gone _ _ (x-head s) _ _ (y-head s) equal c.body_of.ensures c.body_of-then-count-taken.ensures c.eq.ensures)

pub remove_addend-returns-then-count-taken-2 : goal.remove_addend-returns-then-count-taken-2
remove_addend-returns-then-count-taken-2 t c =
    let h = x-head (goal.at.remove_addend-returns-then-count-taken-2 t c).Start in
    addend-lost _ _ h _ _ _ (short-left _ _ h (omega (arith, c.if-count-taken-2.true, c.count_at-count.ensures, c.count_at-taken.ensures)))

pub remove_addend-returns-then-limit-left : goal.remove_addend-returns-then-limit-left
remove_addend-returns-then-limit-left t c =
    let h = x-head (goal.at.remove_addend-returns-then-limit-left t c).Start in
    addend-lost _ _ h _ _ _ (over-left _ _ h (omega (arith, c.if-count-taken.false, c.if-count-taken-2.false, c.count_at-count.ensures, c.count_at-taken.ensures)) (omega (arith, c.if-limit-left.true, c.count_at-count.ensures, c.count_at-taken.ensures)))

pub remove_addend-kind_at-kind-requires : goal.remove_addend-kind_at-kind-requires
remove_addend-kind_at-kind-requires t c = let h = (x-head (goal.at.remove_addend-kind_at-kind-requires t c).Start).first in omega arith

pub remove_addend-inside-inner-requires : goal.remove_addend-inside-inner-requires
remove_addend-inside-inner-requires t c = (x-head (goal.at.remove_addend-inside-inner-requires t c).Start).level-left

pub remove_addend-overflow_add-from : goal.remove_addend-overflow_add-from
remove_addend-overflow_add-from t c =
    let h = (x-head (goal.at.remove_addend-overflow_add-from t c).Start).first in
    omega (arith, c.requires.x_bound)

pub remove_addend-body_of-requires-2 : goal.remove_addend-body_of-requires-2
remove_addend-body_of-requires-2 t c = headed (x-head (goal.at.remove_addend-body_of-requires-2 t c).Start).first

pub remove_addend-body_of-requires-3 : goal.remove_addend-body_of-requires-3
remove_addend-body_of-requires-3 t c = headed (y-head (goal.at.remove_addend-body_of-requires-3 t c).Start).first

pub remove_addend-remove_union-requires : goal.remove_addend-remove_union-requires
remove_addend-remove_union-requires t c =
    let h = x-head (goal.at.remove_addend-remove_union-requires t c).Start in
    let g = y-head (goal.at.remove_addend-remove_union-requires t c).Start in
    let l = c.inside-inner.ensures ∙ ap (inside_of c.args.level) c.kind_at-kind.ensures in
    let u = c.body_of-2.ensures in
    let v = c.body_of-3.ensures in (
      rw l (omega (arith, rank-inside h, c.decreases)),
      (
        rw (c.limit_inside-most.ensures, l, u) (whole-inside h c.requires.whole_run.0 _),
        rw (l, v, c.requires.type_run.2) g.in_body,
        omega (arith, ap length u, body-rest h.first, c.requires.x_bound),
      ),
    )

pub remove_addend-returns-in_err-n : goal.remove_addend-returns-in_err-n
remove_addend-returns-in_err-n t c =
    let u = (goal.at.remove_addend-returns-in_err-n t c).After-remove_union in
    rw c.from_residual.ensures (addend-not-part _ _ (x-head (begun u)) (inside u) _ _ _ (rw c.in_err-n.was at c.remove_union.ensures))

pub remove_addend-overflow_add-bytes : goal.remove_addend-overflow_add-bytes
remove_addend-overflow_add-bytes t c =
    let u = (goal.at.remove_addend-overflow_add-bytes t c).After-remove_union in
    omega (arith, c.requires.x_bound, body-rest (x-head (begun u)).first, inside-fits _ _ (x-head (begun u)) (inside u) _ _ _ _ (rw c.in_ok-n.was at c.remove_union.ensures))

pub remove_addend-key_at-requires : goal.remove_addend-key_at-requires
remove_addend-key_at-requires t c = let h = (x-head (goal.at.remove_addend-key_at-requires t c).Start).first in omega arith

pub remove_addend-put-requires : goal.remove_addend-put-requires
remove_addend-put-requires t c =
    let h = (x-head (goal.at.remove_addend-put-requires t c).Start).first in
    omega (arith, c.requires.x_bound)

pub remove_addend-returns : goal.remove_addend-returns
remove_addend-returns t c =
    let u = (goal.at.remove_addend-returns t c).After-remove_union in
    addend-kept _ _ (x-head (begun u)) (inside u) _ _ _ _ _ _ _ (rw c.in_ok-n.was at c.remove_union.ensures) c.kind_at-kind.ensures c.key_at.ensures c.put.ensures

-- what is known of the two first addends that a turn compares
module _ {t : _} (o : goal.remove_union-Else-is_empty t) where
  whole-head : Head o.args.level o.loop-y.x.now
  whole-head = head o.loop-y.invariant.whole.run (not-empty o.is_empty-in-loop-y.ensures o.if-is_empty.false)

  part-head : Head o.args.level o.loop-y.y.now
  part-head = head o.loop-y.invariant.part (not-empty o.is_empty.ensures o.loop-y-test.true)

pub remove_union-returns-then-is_empty : goal.remove_union-returns-then-is_empty
unfolding remainder_at
remove_union-returns-then-is_empty t c =
    whole-done c.loop-y.invariant (head c.loop-y.invariant.part (not-empty c.is_empty.ensures c.loop-y-test.true)) (is-empty c.is_empty-in-loop-y.ensures c.if-is_empty.true)

pub remove_union-order_labels-requires : goal.remove_union-order_labels-requires
remove_union-order_labels-requires t c = ((whole-head c).first.here, (part-head c).first.here)

pub remove_union-count_at-requires : goal.remove_union-count_at-requires
remove_union-count_at-requires t c = let h = (whole-head (goal.at.remove_union-count_at-requires t c).Else-is_empty).first in omega arith

pub remove_union-returns-then-limit-count_at : goal.remove_union-returns-then-limit-count_at
unfolding remainder_at
remove_union-returns-then-limit-count_at t c =
    let o = (goal.at.remove_union-returns-then-limit-count_at t c).Else-is_empty in
    less-lost c.loop-y.invariant (whole-head o) (part-head o) (ap ordering_of (sym c.in-Less.is) ∙ c.order_labels.ensures) c.count_at.ensures c.if-limit-count_at.true

pub remove_union-keep-x-requires : goal.remove_union-keep-x-requires
remove_union-keep-x-requires t c =
    (headed (whole-head (goal.at.remove_union-keep-x-requires t c).Else-is_empty).first, omega (arith, c.loop-y.invariant.room, c.requires))

pub remove_union-loop-y-smaller-in-Less : goal.remove_union-loop-y-smaller-in-Less
remove_union-loop-y-smaller-in-Less t c =
    let h = (whole-head (goal.at.remove_union-loop-y-smaller-in-Less t c).Else-is_empty).first in
    omega (arith, ap length c.keep-x.ensures.left)

pub remove_union-loop-y-preserved-in-Less : goal.remove_union-loop-y-preserved-in-Less
remove_union-loop-y-preserved-in-Less t c =
    let o = (goal.at.remove_union-loop-y-preserved-in-Less t c).Else-is_empty in
    turn-less c.loop-y.invariant (whole-head o) (part-head o) (ap ordering_of (sym c.in-Less.is) ∙ c.order_labels.ensures) c.count_at.ensures c.if-limit-count_at.false c.keep-x.ensures

pub remove_union-returns-in-Greater : goal.remove_union-returns-in-Greater
unfolding remainder_at
remove_union-returns-in-Greater t c =
    let o = (goal.at.remove_union-returns-in-Greater t c).Else-is_empty in
    more-lost c.loop-y.invariant (whole-head o) (part-head o) (ap ordering_of (sym c.in-Greater.is) ∙ c.order_labels.ensures)

pub remove_union-remove_addend-requires : goal.remove_union-remove_addend-requires
remove_union-remove_addend-requires t c =
    let i = ap ordering_of (sym c.in-Equal.is) ∙ c.order_labels.ensures in
    let l = c.loop-y in
    let o = (goal.at.remove_union-remove_addend-requires t c).Else-is_empty in (
      omega (arith, c.decreases),
      (
        (l.invariant.whole, not-empty o.is_empty-in-loop-y.ensures o.if-is_empty.false),
        (
          (l.invariant.part, not-empty o.is_empty.ensures o.loop-y-test.true, same-kinds _ _ _ i),
          omega (arith, l.invariant.room, c.requires),
        ),
      ),
    )

pub remove_union-returns-in_err-end-in-Equal : goal.remove_union-returns-in_err-end-in-Equal
unfolding remainder_at
remove_union-returns-in_err-end-in-Equal t c =
    let o = (goal.at.remove_union-returns-in_err-end-in-Equal t c).Else-is_empty in
    rw c.from_residual.ensures
    (same-lost c.loop-y.invariant (whole-head o) (part-head o) (ap ordering_of (sym c.in-Equal.is) ∙ c.order_labels.ensures) c.remove_addend.ensures c.in_err-end-in-Equal.was)

pub remove_union-overflow_add-end : goal.remove_union-overflow_add-end
remove_union-overflow_add-end t c =
    let n : c.in_ok-end-in-Equal.field-0 ≤ length (front c.loop-y.x.now) = c.in_ok-end-in-Equal.ensures.room in
    omega (arith, n, front-le c.loop-y.x.now, c.loop-y.invariant.room, c.requires)

pub remove_union-rest_of-x-requires : goal.remove_union-rest_of-x-requires
remove_union-rest_of-x-requires t c = headed (whole-head (goal.at.remove_union-rest_of-x-requires t c).Else-is_empty).first

pub remove_union-rest_of-y-requires : goal.remove_union-rest_of-y-requires
remove_union-rest_of-y-requires t c = headed (part-head (goal.at.remove_union-rest_of-y-requires t c).Else-is_empty).first

pub remove_union-loop-y-smaller : goal.remove_union-loop-y-smaller
remove_union-loop-y-smaller t c =
    let h = (whole-head (goal.at.remove_union-loop-y-smaller t c).Else-is_empty).first in
    let g = (part-head (goal.at.remove_union-loop-y-smaller t c).Else-is_empty).first in
    omega (arith, ap length c.rest_of-x.ensures, ap length c.rest_of-y.ensures)

pub remove_union-loop-y-preserved : goal.remove_union-loop-y-preserved
remove_union-loop-y-preserved t c =
    let o = (goal.at.remove_union-loop-y-preserved t c).Else-is_empty in
    turn-same c.loop-y.invariant (whole-head o) (part-head o) (ap ordering_of (sym c.in-Equal.is) ∙ c.order_labels.ensures) c.remove_addend.ensures c.in_ok-end-in-Equal.was c.remove_addend.auto.out c.rest_of-x.ensures c.rest_of-y.ensures

pub remove_union-returns-then-passes : goal.remove_union-returns-then-passes
remove_union-returns-then-passes t c =
    let s = part-done c.loop-y.invariant (is-empty c.is_empty.ensures c.loop-y-test.false) in
    run-passes s (sym (c.passes.ensures _ _ s.whole.run.coded) ∙ c.if-passes.true)

pub remove_union-returns : goal.remove_union-returns
remove_union-returns t c =
    let s = part-done c.loop-y.invariant (is-empty c.is_empty.ensures c.loop-y-test.false) in
    run-stored s _
    (elim c.else-level.branch [
      | remove_union-else-level-via-then-level+else-passes w ↦ not-false _ (sym (w.passes.ensures _ _ s.whole.run.coded) ∙ w.if-passes.false)
      | remove_union-else-level-via-else-level w ↦ tail-limit s w.if-level.false
    ])
    c.put_bytes.ensures
