-- Siblings by their spans, in records of any format.
use Rattle.std.specs.Prelude.{List, [], ◌∷◌, ℕ, ◌+◌, ◌≤◌, ◌<◌}

-- from record p on, spans lead to `end` by way of siblings with these keys
pub data Chain (span key : ℕ → ℕ) (end : ℕ) : ℕ → List ℕ → Type 0 where
  done : Chain span key end end []
  next : {p : ℕ} {ks : List ℕ} → p < end → 1 ≤ span p → Chain span key end (p + span p) ks → Chain span key end p (key p ∷ ks)
