-- `compare_head` meets its contract.
use Rattle.std.proofs.Common.{List, ℕ, ap, sym, ◌∙◌, arith}
use Rattle.counting_theory.specs.Label.{Label, label_of}
use Rattle.counting_theory.specs.Order.{ordering_of}
use Rattle.counting_theory.proofs.LabelOrder.{tested-kind, tested-label, under-kind, no_record, by-lists}
use Rattle.type_arena.specs.Inside.Arena.{label_at}
use Rattle.type_arena.proofs.Comparing.{kinds-differ, keys_differ}
use Rattle.inference.proofs.wanted.Wanted.compare_head.Goals as goal
use Rattle.inference.proofs.wanted.Wanted.compare_head.Goals.{Start, then-eq-via-then-eq, then-eq-via-else-eq+then-kind-ne-RECORD}

-- the label that is looked for, and that of the record
abbrev sought : goal.Start → List ℕ → Label
sought s = label_of s.args.self.now.equivalence s.args.self.now.kind s.args.self.now.key

abbrev there : goal.Start → Label
there s = label_at s.args.self.now.equivalence s.args.b.now s.args.p

pub returns-then-self-kind : goal.returns-then-self-kind
unfolding label_at
returns-then-self-kind c keys =
    let s = (goal.at.returns-then-self-kind c).Start in
    ap ordering_of c.cmp.ensures ∙ rw c.kind_at-kind.ensures (kinds-differ (sought s keys) (there s) (λ e. omega arith))

pub returns-then-self-key : goal.returns-then-self-key
unfolding label_at
returns-then-self-key c keys =
    let s = (goal.at.returns-then-self-key c).Start in
    ap ordering_of c.cmp-then-self-key.ensures ∙ rw c.key_at-key.ensures (keys_differ (sought s keys) (there s) (omega arith) (λ e. omega arith))

pub returns-then-eq : goal.returns-then-eq
unfolding label_at
returns-then-eq c keys =
    elim c.then-eq.branch [
      | then-eq-via-then-eq w ↦ under-kind _ (omega arith) (omega arith) _ _ (tested-kind _ (sym c.eq.ensures ∙ w.if-eq.true))
      | then-eq-via-else-eq+then-kind-ne-RECORD w ↦ no_record _ (omega arith) (omega arith) _ _ (λ e. omega arith)
    ]

pub returns : goal.returns
unfolding label_at
returns c =
    (omega arith, omega arith, λ keys. by-lists _ (omega arith) (omega arith) _ _ (tested-label _ (sym c.eq.ensures ∙ c.if-eq.false)) (omega arith))
