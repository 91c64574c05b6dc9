-- The fronts of the arena and of the entries before the rest of them is cleared.
use Rattle.std.specs.Prelude.{◌≡◌, Result, Ok, Err, List, ℕ, length, take}
use Rattle.answers.specs.declared.Refusal.{Refusal}
use Rattle.answers.specs.Inside.Front.{WrittenInFront}
use Rattle.tag_bus.specs.declared.Filled.{Filled}
use Rattle.tag_bus.specs.TagBus.{TagBus}

-- the records of the type, or why there is none; and the bytes of the entries
abbrev pub records_of : Result Filled Refusal → Result ℕ Refusal
records_of (Ok filled) = Ok filled.records
records_of (Err why) = Err why

abbrev pub entries_of : Result Filled Refusal → ℕ
entries_of (Ok filled) = filled.entries
entries_of (Err _) = 0

-- the answer and the type are those of t, and the entries begin with as many bytes of t as are told
pub record FilledInFront (t : TagBus) (filled : Result Filled Refusal) (arena entries : List ℕ) : Type 0 where
  pub written : WrittenInFront t.written (records_of filled) arena
  pub told : entries_of filled ≡ length t.entries
  pub bytes : take (length t.entries) entries ≡ t.entries
