-- The value records of what has been read, as they stand in the table: an array or object that is still open has span 1.
use Rattle.std.specs.Prelude.{◌≡◌, List, ◌++◌, ℕ}
use Rattle.value_table.specs.Value.{encode, header}
use Rattle.json_theory.specs.Grammar.{head_of, kind_of}
use Rattle.json_theory.specs.Steps.{Stack, base, level}

unfoldable pub laid : Stack → List ℕ
laid (base ms) = encode ms
laid (level o key done outer) = laid outer ++ (header (head_of (kind_of o)) key 1 ++ encode done)

-- the table begins with them
pub record TableHolds (table : List ℕ) (around : Stack) : Type 0 where
  pub rest : List ℕ
  pub bytes : table ≡ laid around ++ rest
