-- `payload_at` meets its contract.
use Rattle.byte_records.specs.Format.{field_at, fields_from}
use Rattle.counting_theory.specs.Payload.{of_numbers}
use Rattle.counting_theory.specs.Encoding.{type_payload}
use Rattle.type_arena.specs.Inside.Payload.{payload_of}
use Rattle.type_arena.proofs.payload.payload_at.Goals as goal

pub returns : goal.returns
unfolding payload_of type_payload of_numbers fields_from field_at
returns c = λ i. record { count = c.number.ensures.0 i; shortest = c.number-2.ensures.0 i; longest = c.number-3.ensures.0 i }
