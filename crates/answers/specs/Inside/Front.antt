-- The front of an arena before the rest of it is cleared.
use Rattle.std.specs.Prelude.{◌≡◌, Result, List, ℕ, length, take}
use Rattle.counting_theory.specs.Answers.{Written}
use Rattle.answers.specs.declared.Refusal.{Refusal}
use Rattle.answers.specs.Outcomes.{outcome_of}

-- the answer is that of w, and the arena begins with the bytes of w
pub record WrittenInFront (w : Written) (answered : Result ℕ Refusal) (arena : List ℕ) : Type 0 where
  pub outcome : outcome_of answered ≡ w.outcome
  pub bytes : take (length w.bytes) arena ≡ w.bytes
