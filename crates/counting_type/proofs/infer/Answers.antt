-- `infer` meets its contract.
use mathlib.Core.Path.{ap, ◌∙◌}
use native.Mathlib.Omega.{arith}
use Rattle.byte_records.specs.Number.{zeros}
use Rattle.answers.proofs.Fronts.{front_length, front-cleared}
use Rattle.answers.proofs.Exact.{exact-inferred}
use Rattle.counting_type.proofs.infer.Goals as goal

pub overflow_mul-unwrap_or : goal.overflow_mul-unwrap_or
overflow_mul-unwrap_or c = omega (arith, front_length (exact-inferred _ _ _ _) c.infer_front-answered.ensures, c.unwrap_or.ensures)

pub clear_from-requires : goal.clear_from-requires
clear_from-requires c = omega (arith, front_length (exact-inferred _ _ _ _) c.infer_front-answered.ensures, c.unwrap_or.ensures)

pub returns : goal.returns
returns c =
    let answered = c.infer_front-answered in
    front-cleared (exact-inferred _ _ _ _) answered.ensures c.args.arena.now _ c.args.work.now _ answered.auto.arena (rw c.unwrap_or.ensures at c.clear_from.ensures)
    (c.fill.ensures.after (λ y e. e) ∙ ap zeros answered.auto.work)
