-- `word_at` meets its contract. The loop's invariant: the word lacks the keys of the fields that are left.
use native.Mathlib.Omega.{arith}
use Rattle.counting_theory.specs.Encoding.{type_key, type_span}
use Rattle.key_word.proofs.Building.{left-first, next_field, no_field}
use Rattle.tag_bus.proofs.entries.word_at.Goals as goal

pub loop-j-init : goal.loop-j-init
loop-j-init c =
    let w = c.requires in
    rw c.span_at.ensures.0 (w.within, left-first (type_span c.args.arena.now) (type_key c.args.arena.now) _ _ _ w.fields)

pub with_key-w-requires : goal.with_key-w-requires
with_key-w-requires c =
    let l = c.loop-j in
    let n = next_field _ _ _ l.j l.w _ (omega arith) l.invariant.1 in
    omega (arith, n, c.key_at.ensures)

pub overflow_add-j-in-loop-j : goal.overflow_add-j-in-loop-j
overflow_add-j-in-loop-j c =
    let l = c.loop-j in
    let n = next_field _ _ _ l.j l.w _ (omega arith) l.invariant.1 in
    omega (arith, n, c.span_at-j.ensures)

pub loop-j-smaller : goal.loop-j-smaller
loop-j-smaller c =
    let l = c.loop-j in
    let n = next_field _ _ _ l.j l.w _ (omega arith) l.invariant.1 in
    omega (arith, n, c.span_at-j.ensures)

pub loop-j-preserved : goal.loop-j-preserved
loop-j-preserved c =
    let l = c.loop-j in
    let n = next_field _ _ _ l.j l.w _ (omega arith) l.invariant.1 in
    let key = c.key_at in
    (l.invariant.0, rw (c.with_key-w.ensures (rw key.ensures n.new), key.ensures, c.span_at-j.ensures.0) n.later)

pub returns : goal.returns
returns c =
    let l = c.loop-j in
    no_field _ _ _ l.j l.w _ (omega arith) l.invariant.1
