-- The count in a type record of 16 bytes, and types whose numbers fit their bytes.
use Rattle.std.specs.Prelude.{ℕ, ◌+◌, List}
use Rattle.byte_records.specs.Format.{field_at}
use Rattle.byte_records.specs.Inside.Fits.{Fits}
use Rattle.counting_theory.specs.Trie.{nil, node, size}
use Rattle.removal_theory.specs.Label.{CountingType}
use Rattle.removal_theory.specs.Encoding.{type_format, record_numbers}

unfoldable pub type_count : List ℕ → ℕ → ℕ
type_count = field_at type_format 4

-- each number fits its bytes
unfoldable pub Fitting : CountingType → Type 0
Fitting nil = Unit {0}
Fitting (node l a children next) = Fits type_format (record_numbers l (1 + size children) a) × Fitting children × Fitting next
