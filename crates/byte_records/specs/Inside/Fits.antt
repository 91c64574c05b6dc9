-- Numbers that fit the fields of a record.
use Rattle.std.specs.Prelude.{List, [], ◌∷◌, ℕ, ◌^◌, ◌<◌, drop, get_or}
use Rattle.byte_records.specs.Format.{Format}

-- each number fits its field
abbrev pub Fits : Format → List ℕ → Type 0
Fits [] ns = Unit {0}
Fits (w ∷ ws) ns = (get_or ns 0 0 < 256 ^ w) × Fits ws (drop 1 ns)
