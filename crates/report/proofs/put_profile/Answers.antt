-- `put_profile` meets its contract.
use mathlib.Core.Path.{◌≡◌, refl, ap, ◌∙◌}
use native.Mathlib.Omega.{arith}
use Rattle.value_table.specs.Outcome.{accepted}
use Rattle.answers.specs.Outcomes.{refusal_of}
use Rattle.report.specs.Line.{refusal_line}
use Rattle.report.specs.Report.{printed}
use Rattle.report.proofs.Program.{Told, told, told-type, told-place, told-length, told-report, told-refusal, refusal-number}
use Rattle.report.proofs.put_profile.Goals as goal
use Rattle.report.proofs.put_profile.Goals.{In-Ok, In-Err}

-- the call has been answered
inferred : (c : goal.In-Ok) → Told c.args.input.now c.infer_input.new.arena (accepted c.in-Ok.records)
inferred c = told _ _ _ _ _ refl refl c.infer_input.auto.arena (ap (λ x. x.outcome) c.in-Ok.ensures) (ap (λ x. x.arena) c.in-Ok.ensures)

refused : (c : goal.In-Err) → Told c.args.input.now c.infer_input.new.arena (refusal_of c.in-Err.why)
refused c = told _ _ _ _ _ refl refl c.infer_input.auto.arena (ap (λ x. x.outcome) c.in-Err.ensures) (ap (λ x. x.arena) c.in-Err.ensures)

pub overflow_mul-arena : goal.overflow_mul-arena
overflow_mul-arena c = let t = inferred c in omega (arith, t.room, t.whole)

pub slice_bounds-arena-end : goal.slice_bounds-arena-end
slice_bounds-arena-end c = (inferred c).room

pub slice_bounds-put_report-end : goal.slice_bounds-put_report-end
slice_bounds-put_report-end c = told-length (inferred (goal.at.slice_bounds-put_report-end c).In-Ok)

pub put_report-requires : goal.put_report-requires
put_report-requires c =
    let t = inferred (goal.at.put_report-requires c).In-Ok in
    (told-type t (λ p. (c.type_inv.input p).fits) refl, omega (arith, t.room, t.whole, told-length t))

pub returns-in-Ok : goal.returns-in-Ok
returns-in-Ok c = rw (← told-report (inferred (goal.at.returns-in-Ok c).In-Ok) refl) c.put_report.ensures

pub put_refusal-requires : goal.put_refusal-requires
put_refusal-requires c =
    let t = refused (goal.at.put_refusal-requires c).In-Err in
    let e = c.from-answer.ensures in
    (omega (arith, refusal-number c.in-Err.why, ap (λ o. o.number) e), omega (arith, told-place t (λ p. (c.type_inv.input p).fits), ap (λ o. o.place) e), omega arith)

pub returns-in-Err : goal.returns-in-Err
returns-in-Err c =
    let t = refused (goal.at.returns-in-Err c).In-Err in
    let e = c.from-answer.ensures in
    let line : refusal_line c.from-answer.result.number c.from-answer.result.place ≡ printed c.args.input.now =
    (λ i. refusal_line (e i).number (e i).place) ∙ told-refusal t (λ z. omega (arith, refusal-number c.in-Err.why)) in
    rw (← line) c.put_refusal.ensures
