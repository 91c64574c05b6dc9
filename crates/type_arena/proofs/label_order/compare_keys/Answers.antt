-- `compare_keys` meets its contract.
use Rattle.std.proofs.Common.{inl, inr, ⊎_elim, ap, sym, ◌∙◌, arith}
use Prim.Native.Nat.{compare}
use Rattle.byte_records.proofs.Chain.{chain-le}
use Rattle.counting_theory.specs.Order.{ordering_of}
use Rattle.counting_theory.proofs.Order.{ordering-compare, ordering-then}
use Rattle.counting_theory.proofs.KeyOrder.{comparing-start, one-ends, left-sibling, right-sibling, next_keys}
use Rattle.type_arena.proofs.Comparing.{then-told, then-kept}
use Rattle.type_arena.proofs.Fields.{record-in, records-in, inside-chain}
use Rattle.type_arena.proofs.label_order.compare_keys.Goals as goal
use Rattle.type_arena.proofs.label_order.compare_keys.Goals.{then-is_eq, else-is_eq}

pub span_at-requires : goal.span_at-requires
span_at-requires g c = record-in _ _ c.args.x c.requires.0.within (omega (arith, chain-le c.requires.0.chain))

pub span_at-requires-2 : goal.span_at-requires-2
span_at-requires-2 g c = record-in _ _ c.args.y c.requires.1.within (omega (arith, chain-le c.requires.1.chain))

pub overflow_add-i : goal.overflow_add-i
overflow_add-i g c = omega (arith, chain-le c.requires.0.chain, records-in _ _ (omega (arith, g.L.Layout.long)) c.requires.0.within)

pub overflow_add-j : goal.overflow_add-j
overflow_add-j g c = omega (arith, chain-le c.requires.1.chain, records-in _ _ (omega (arith, g.L.Layout.long)) c.requires.1.within)

pub loop-i-init : goal.loop-i-init
loop-i-init g c =
    let p = c.requires in
    rw (c.span_at.ensures.0, c.span_at-2.ensures.0) (comparing-start (inside-chain p.0) (inside-chain p.1))

pub key_at-requires : goal.key_at-requires
key_at-requires g c = let f = left-sibling c.loop-i.invariant c.if-i-x_end.false c.if-j-y_end.false in record-in _ _ _ c.requires.0.within (omega arith)

pub key_at-requires-then-is_eq : goal.key_at-requires-then-is_eq
key_at-requires-then-is_eq g c = let f = right-sibling c.loop-i.invariant c.if-i-x_end.false c.if-j-y_end.false in record-in _ _ _ c.requires.1.within (omega arith)

pub span_at-i-requires : goal.span_at-i-requires
span_at-i-requires g c = let f = left-sibling c.loop-i.invariant c.if-i-x_end.false c.if-j-y_end.false in record-in _ _ _ c.requires.0.within (omega arith)

pub overflow_add-i-in-loop-i : goal.overflow_add-i-in-loop-i
overflow_add-i-in-loop-i g c = let f = left-sibling c.loop-i.invariant c.if-i-x_end.false c.if-j-y_end.false in omega (arith, records-in _ _ (omega (arith, g.L.Layout.long)) c.requires.0.within)

pub span_at-j-requires : goal.span_at-j-requires
span_at-j-requires g c = let f = right-sibling c.loop-i.invariant c.if-i-x_end.false c.if-j-y_end.false in record-in _ _ _ c.requires.1.within (omega arith)

pub overflow_add-j-in-loop-i : goal.overflow_add-j-in-loop-i
overflow_add-j-in-loop-i g c = let f = right-sibling c.loop-i.invariant c.if-i-x_end.false c.if-j-y_end.false in omega (arith, records-in _ _ (omega (arith, g.L.Layout.long)) c.requires.1.within)

pub loop-i-smaller : goal.loop-i-smaller
loop-i-smaller g c = let f = left-sibling c.loop-i.invariant c.if-i-x_end.false c.if-j-y_end.false in omega arith

pub loop-i-preserved : goal.loop-i-preserved
loop-i-preserved g c =
    let v = next_keys c.loop-i.invariant c.if-i-x_end.false c.if-j-y_end.false in
    let told = compare (g.L.Layout.key c.args.b.now c.loop-i.i) (g.L.Layout.key c.args.c.now c.loop-i.j) in
    rw (c.span_at-i.ensures.0, c.span_at-j.ensures.0)
    (elim c.if-is_eq.branch [
      | then-is_eq w ↦
          rw (w.so_far-is, w.cmp-so_far.ensures, ordering-compare, w.key_at.ensures, w.key_at-then-is_eq.ensures, then-told c.loop-i.so_far told (sym c.is_eq.ensures ∙ w.if-is_eq.true)) v
      | else-is_eq w ↦ rw w.so_far-is (rw (← then-kept c.loop-i.so_far told (sym c.is_eq.ensures ∙ w.if-is_eq.false)) at v)
    ])

pub overflow_sub-x_end : goal.overflow_sub-x_end
overflow_sub-x_end g c = omega (arith, chain-le c.loop-i.invariant.left-chain)

pub overflow_sub-y_end : goal.overflow_sub-y_end
overflow_sub-y_end g c = omega (arith, chain-le c.loop-i.invariant.right-chain)

pub returns : goal.returns
returns g c =
    one-ends c.loop-i.invariant (⊎_elim inl (λ w. inr w.1) c.then-i-x_end.either) (ap ordering_of c.cmp.ensures ∙ ordering-compare _ _)
    (ap ordering_of c.then.ensures ∙ ordering-then c.cmp.result c.loop-i.so_far)
