-- The payload of the 16-byte records that removal alone works on: the number of values at one place. Every other file of removal goes by
-- these names and by the laws of proofs/Payload.
use Rattle.std.specs.Prelude.{Bool, true, List, [], ◌∷◌, ℕ, ◌+◌, get_or}
use Rattle.byte_records.specs.Format.{Format}

pub record Payload : Type 0 where
  pub count : ℕ

-- its fields in a type record, behind the span; and its numbers there
abbrev pub payload_format : Format
payload_format = 8 ∷ []

unfoldable pub numbers : Payload → List ℕ
numbers a = a.count ∷ []

unfoldable pub of_numbers : List ℕ → Payload
of_numbers ns = record { count = get_or ns 0 0 }

-- of two collections of values together
unfoldable pub join : Payload → Payload → Payload
join a b = record { count = a.count + b.count }

-- what is asked of it beside its count, by the kind of its record and the total of what stands inside
unfoldable pub proper : ℕ → Payload → ℕ → Bool
proper kind a within = true
