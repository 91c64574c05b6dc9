-- Runs of records of a well-formed type: which bytes are one at a level, and the level of what stands inside.
use Rattle.std.specs.Prelude.{◌≡◌, ℕ, ◌+◌, ◌-◌, ◌≤◌, true, false, cond, not, ◌&&◌, List, ◌==◌}
use Rattle.value_table.specs.Value.{max_depth, record_kind}
use Rattle.type_arena.specs.declared.level.Level.{Level}
use Rattle.counting_theory.specs.Encoding.{type_of}
use Rattle.counting_theory.specs.WellFormed.{within_limit, Shallow}
use Rattle.counting_theory.specs.declared.equivalence.Equivalence.{Equivalence}
use Rattle.type_arena.specs.Inside.Addend.{Coded}

-- the depth of a run's addends, or of the record that has the fields
abbrev pub depth_of : Level → ℕ
depth_of level = max_depth + 1 - (level.left + cond level.field 1 0)

-- x is the bytes of a run of a well-formed type
pub record TypeRun (level : Level) (x : List ℕ) : Type 0 where
  pub coded : Coded level.equivalence level.field x
  pub shallow : Shallow level.field (depth_of level) (type_of level.equivalence x)
  pub left-low : level.left ≤ max_depth
  pub limit : within_limit (type_of level.equivalence x) ≡ true

-- the level of a whole type
abbrev pub whole_level : Equivalence → Level
whole_level equivalence = record { left = max_depth; field = false; equivalence = equivalence }

-- what stands inside a record of this kind: the depth falls at an addend
abbrev pub inside_of : Level → ℕ → Level
inside_of level kind =
    record { left = level.left - cond level.field 0 1; field = not level.field && (kind == record_kind); equivalence = level.equivalence }
