-- What a type keeps of the values at one place: their number, and of arrays the shortest and the longest length, which document 02 adds by
-- change 10. Every other file goes by these names and by the laws of proofs/Payload.
use Rattle.std.specs.Prelude.{Bool, cond, ◌&&◌, List, [], ◌∷◌, ℕ, ◌+◌, ◌*◌, ◌-◌, min, max, eqb, leb, get_or}
use Rattle.byte_records.specs.Format.{Format}
use Rattle.value_table.specs.Value.{Head, Values, array_kind}
use Rattle.value_table.specs.Value as table

pub record Payload : Type 0 where
  pub count : ℕ
  pub shortest : ℕ
  pub longest : ℕ

-- its fields in a type record, behind the span; and its numbers there
abbrev pub payload_format : Format
payload_format = 8 ∷ 4 ∷ 4 ∷ []

unfoldable pub numbers : Payload → List ℕ
numbers a = a.count ∷ a.shortest ∷ a.longest ∷ []

unfoldable pub of_numbers : List ℕ → Payload
of_numbers ns = record { count = get_or ns 0 0; shortest = get_or ns 1 0; longest = get_or ns 2 0 }

-- the elements of an array; a value of any other kind has the length 0
abbrev pub length_of : Head → Values → ℕ
length_of head content = cond (eqb head.kind array_kind) (table.count content) 0

-- of one value, by its head and its content; of one field
unfoldable pub one : Head → Values → Payload
one head content = record { count = 1; shortest = length_of head content; longest = length_of head content }

unfoldable pub one_field : Payload
one_field = record { count = 1; shortest = 0; longest = 0 }

-- of two collections of values together
unfoldable pub join : Payload → Payload → Payload
join a b = record { count = a.count + b.count; shortest = min a.shortest b.shortest; longest = max a.longest b.longest }

-- of a collection of values, n times
unfoldable pub copies : ℕ → Payload → Payload
copies n a = record { count = n * a.count; shortest = a.shortest; longest = a.longest }

-- the longest length that is allowed: 8,192, as many as a table has records
abbrev pub max_elements : ℕ
max_elements = 8192

-- lengths that count arrays with so many elements in all can have
abbrev pub lengths_fit : Payload → (elements : ℕ) → Bool
lengths_fit a elements =
    leb a.shortest a.longest && leb a.longest max_elements
    && leb (a.longest + (a.count - 1) * a.shortest) elements && leb elements (a.shortest + (a.count - 1) * a.longest)

abbrev pub no_lengths : Payload → Bool
no_lengths a = eqb a.shortest 0 && eqb a.longest 0

-- what is asked of it beside its count, by the kind of its record and the total of what stands inside
unfoldable pub proper : ℕ → Payload → ℕ → Bool
proper kind a within = cond (eqb kind array_kind) (lengths_fit a within) (no_lengths a)
