-- The payload of a type record, as the code holds and stores it, and what an item gives.
use Rattle.std.specs.Prelude.{ℕ, ◌^◌, ◌<◌, cond, List, take, ◌==◌}
use Rattle.value_table.specs.Value.{Values}
use Rattle.byte_records.specs.Format.{width_of, record_bytes}
use Rattle.type_arena.specs.declared.payload.Payload as code
use Rattle.counting_theory.specs.Payload.{Payload, payload_format, numbers, one, one_field, copies}
use Rattle.counting_theory.specs.Label.{field_kind}
use Rattle.counting_theory.specs.Encoding.{type_format}

-- the code's payload
unfoldable pub payload_of : code.Payload → Payload
payload_of a = record { count = a.count; shortest = a.shortest; longest = a.longest }

-- where it stands in a type record, and its bytes
abbrev pub payload_offset : ℕ
payload_offset = width_of (take 4 type_format)

unfoldable pub payload_bytes : Payload → List ℕ
payload_bytes a = record_bytes payload_format (numbers a)

-- its lengths are read as they were stored; its count need not be, since sums wrap
abbrev pub LengthsKept : Payload → Type 0
LengthsKept a = (a.shortest < 2 ^ 32) × (a.longest < 2 ^ 32)

-- what an item of this kind, a value with its content or a field, gives w times
abbrev pub item_payload : ℕ → ℕ → Values → Payload
item_payload w kind content = copies w (cond (kind == field_kind) one_field (one (record { kind = kind }) content))
