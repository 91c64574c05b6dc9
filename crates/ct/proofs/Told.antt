-- The three numbers of what a call answers are those of its outcome.
use mathlib.Core.Path.{◌≡◌}
use Prim.Native.Nat.{ℕ}
use Rattle.std.specs.Prelude.{Result, Ok, Err}
use Rattle.value_table.specs.declared.Answer.{Answer}
use Rattle.value_table.specs.Outcome.{Outcome, outcome_by, outcome_of_answer, Answers}

pub told : {E : Type 0} (refusal : E → Outcome) {R : E → Answer → Type 0} → ((error : E) (answer : Answer) → R error answer → outcome_of_answer answer ≡ refusal error) →
    (answered : Result ℕ E) (answer : Answer) → Answers R answered answer → outcome_of_answer answer ≡ outcome_by refusal answered
told refusal by (Ok count) answer h = h
told refusal by (Err error) answer h = by error answer h
