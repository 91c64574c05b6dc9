-- Runs of 16-byte records of a well-formed type: which bytes are one at a level.
use Rattle.std.specs.Prelude.{◌≡◌, ℕ, ◌≤◌, true, List}
use Rattle.value_table.specs.Value.{max_depth}
use Rattle.type_arena.specs.declared.level.Level.{Level}
use Rattle.type_arena.specs.Inside.Runs.{depth_of}
use Rattle.removal_theory.specs.Encoding.{type_of}
use Rattle.removal_theory.specs.WellFormed.{within_limit, Shallow}
use Rattle.removal_arena.specs.Inside.Addend.{Coded}

-- x is the bytes of a run of a well-formed type
pub record TypeRun (level : Level) (x : List ℕ) : Type 0 where
  pub coded : Coded level.equivalence level.field x
  pub shallow : Shallow level.field (depth_of level) (type_of level.equivalence x)
  pub left-low : level.left ≤ max_depth
  pub limit : within_limit (type_of level.equivalence x) ≡ true
