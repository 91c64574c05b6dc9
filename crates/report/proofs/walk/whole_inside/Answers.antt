-- `whole_inside` meets its contract.
use mathlib.Core.Path.{◌≡◌, sym, ◌∙◌}
use borrow.Author.Tests.{eq-eqb, ne_eqb}
use Rattle.value_table.specs.Value.{record_kind}
use Rattle.counting_theory.specs.Encoding.{type_kind}
use Rattle.report.specs.Report.{program_equivalence}
use Rattle.report.proofs.walk.whole_inside.Goals as goal

pub returns-then-kind_at-eq-RECORD : goal.returns-then-kind_at-eq-RECORD
returns-then-kind_at-eq-RECORD c = rw (eq-eqb _ _ (sym c.kind_at.ensures ∙ c.if-kind_at-eq-RECORD.true)) c.count_at.ensures

pub union_total-requires : goal.union_total-requires
union_total-requires c =
    let k : type_kind c.args.b.now c.args.p ≡ record_kind → ⊥ = λ e. c.if-kind_at-eq-RECORD.false (c.kind_at.ensures ∙ e) in
    record { equivalence = program_equivalence; coded = c.requires.coded k; limit = c.requires.limit k }

pub returns : goal.returns
returns c =
    let k : type_kind c.args.b.now c.args.p ≡ record_kind → ⊥ = λ e. c.if-kind_at-eq-RECORD.false (c.kind_at.ensures ∙ e) in
    rw (ne_eqb _ _ k, ← c.requires.ends) (c.union_total.ensures program_equivalence (c.requires.coded k))
