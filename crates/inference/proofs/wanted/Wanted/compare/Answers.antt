-- `compare` meets its contract.
use Rattle.std.proofs.Common.{◌≡◌, ◌-◌, ◌/◌, ◌⊎◌, length, inl, inr, refl, sym, ◌∙◌, arith}
use Prim.Native.Nat.{compare, Ordering}
use Rattle.counting_theory.specs.Label.{compare_label}
use Rattle.counting_theory.specs.Order.{then, ordering_of}
use Rattle.type_arena.specs.Inside.Arena.{label_at}
use Rattle.inference.specs.Inside.Inferring.{label_of_wanted}
use Rattle.counting_theory.proofs.KeyOrder.{one-ends}
use Rattle.type_arena.proofs.Comparing.{rests-differ, rests-same}
use Rattle.inference.proofs.InPlace.Compare.{left-start, left-told, left-kept}
use Rattle.inference.proofs.wanted.Wanted.compare.Goals as goal
use Rattle.inference.proofs.wanted.Wanted.compare.Goals.{Left-loop-i, then-is_eq, else-is_eq, then-loop-i-test+else-j-end, else-loop-i-test}

pub loop-i-init : goal.loop-i-init
loop-i-init c =
    let head = rw c.in-Continue.is at c.compare_head.ensures in
    rw head.0 (left-start (c.requires.fields head.1))

pub loop-i-preserved : goal.loop-i-preserved
loop-i-preserved c =
    let v = c.loop-i.invariant in
    let i : c.loop-i.i ≡ length c.args.self.now.keys.now / 2 → ⊥ = λ e. omega arith in
    let j : c.loop-i.j ≡ c.in-Continue.end → ⊥ = λ e. omega arith in
    rw c.span_at-j.ensures.0
    (elim c.if-is_eq.branch [
      | then-is_eq w ↦
          rw w.so_far-is
          (left-told _ _ v i j (sym c.is_eq.ensures ∙ w.if-is_eq.true) (rw (w.number.ensures.0, w.key_at.ensures) at w.cmp-so_far.ensures))
      | else-is_eq w ↦ rw w.so_far-is (left-kept _ v i j (sym c.is_eq.ensures ∙ w.if-is_eq.false))
    ])

-- one list has ended
told : (c : goal.Left-loop-i) {v : Ordering} → v ≡ then (compare (length c.args.self.now.keys.now / 2 - c.loop-i.i) (c.in-Continue.end - c.loop-i.j)) (ordering_of c.loop-i.so_far) →
    v ≡ compare_label (label_of_wanted c.args.self.now) (label_at c.args.self.now.equivalence c.args.b.now c.args.p)
told c h =
    let w = c.loop-i.invariant in
    let ended : (c.loop-i.i ≡ length c.args.self.now.keys.now / 2) ⊎ (c.loop-i.j ≡ c.in-Continue.end) =
    elim c.loop-i-test.branch [
      | then-loop-i-test+else-j-end v ↦ inr (omega (arith, w.upto, v.if-j-end.false))
      | else-loop-i-test v ↦ inl (omega (arith, w.most, v.loop-i-test.false))
    ] in
    one-ends w.comparing ended refl h ∙ (rw c.in-Continue.is at c.compare_head.ensures).2 _

pub returns-then-left-other : goal.returns-then-left-other
returns-then-left-other c = told (goal.at.returns-then-left-other c).Left-loop-i (rests-same _ _ c.if-left-other.true _)

pub returns-else-left-other : goal.returns-else-left-other
returns-else-left-other c = told (goal.at.returns-else-left-other c).Left-loop-i (rests-differ _ _ c.if-left-other.false c.cmp.ensures _)
