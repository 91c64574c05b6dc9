-- `order_labels` meets its contract.
use Rattle.std.proofs.Common.{ap, sym, ◌∙◌, arith}
use Rattle.counting_theory.specs.Label.{Label}
use Rattle.counting_theory.specs.Order.{ordering_of}
use Rattle.counting_theory.proofs.LabelOrder.{tested-kind, tested-label, under-kind, no_record, by-lists}
use Rattle.type_arena.specs.Inside.Layout.{label_by}
use Rattle.type_arena.proofs.Comparing.{kinds-differ, keys_differ}
use Rattle.type_arena.proofs.label_order.order_labels.Goals as goal
use Rattle.type_arena.proofs.label_order.order_labels.Goals.{Start, then-eq-via-then-eq, then-eq-via-else-eq+then-kind-ne-RECORD}

-- the two labels
abbrev first : (g : _) → goal.Start g → Label
first g s = label_by g.L.Layout.kind g.L.Layout.key g.L.Layout.span s.args.equivalence s.args.b.now s.args.x

abbrev second : (g : _) → goal.Start g → Label
second g s = label_by g.L.Layout.kind g.L.Layout.key g.L.Layout.span s.args.equivalence s.args.c.now s.args.y

pub returns-then-kind-other_kind : goal.returns-then-kind-other_kind
unfolding label_by
returns-then-kind-other_kind g c =
    let s = (goal.at.returns-then-kind-other_kind g c).Start in
    ap ordering_of c.cmp.ensures ∙ rw (c.kind_at-kind.ensures, c.kind_at-other_kind.ensures) (kinds-differ (first g s) (second g s) (λ e. omega arith))

pub returns-then-key-other_key : goal.returns-then-key-other_key
unfolding label_by
returns-then-key-other_key g c =
    let s = (goal.at.returns-then-key-other_key g c).Start in
    ap ordering_of c.cmp-then-key-other_key.ensures
    ∙ rw (c.key_at-key.ensures, c.key_at-other_key.ensures) (keys_differ (first g s) (second g s) (omega arith) (λ e. omega arith))

pub returns-then-eq : goal.returns-then-eq
unfolding label_by
returns-then-eq g c =
    elim c.then-eq.branch [
      | then-eq-via-then-eq w ↦ under-kind _ (omega arith) (omega arith) _ _ (tested-kind _ (sym c.eq.ensures ∙ w.if-eq.true))
      | then-eq-via-else-eq+then-kind-ne-RECORD w ↦ no_record _ (omega arith) (omega arith) _ _ (λ e. omega arith)
    ]

pub returns : goal.returns
unfolding label_by
returns g c =
    c.compare_keys.ensures ∙ by-lists _ (omega arith) (omega arith) _ _ (tested-label _ (sym c.eq.ensures ∙ c.if-eq.false)) (omega arith)
