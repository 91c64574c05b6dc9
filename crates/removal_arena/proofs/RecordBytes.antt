-- The bytes of a type record of 16 bytes, stored number by number.
use mathlib.Core.Path.{◌≡◌}
use mathlib.Core.List.{List}
use Prim.Native.Nat.{ℕ, ◌+◌, ◌/◌, ◌%◌, ◌<◌}
use native.Mathlib.Numerals.{towards_suc}
use native.Mathlib.Omega.{arith}
use lib.ListN.{length}
use lib.Seq.{sets}
use Rattle.byte_records.specs.Number.{bytes_of}
use Rattle.byte_records.specs.Format.{record_bytes}
use Rattle.byte_records.proofs.Format.{length-record}
use Rattle.removal_theory.specs.Payload.{Payload, numbers}
use Rattle.counting_theory.specs.Label.{Label}
use Rattle.removal_theory.specs.Encoding.{type_format, type_size, header}
use Rattle.removal_arena.specs.Inside.Arena.{span_offset, header_of}

pub length-header : (l : Label) (span : ℕ) (a : Payload) → length (header l span a) ≡ type_size
unfolding header
length-header l span a = length-record type_format _

-- a type record in its parts, the first with the zero byte behind the kind
pub sets-record : (kind key span : ℕ) (a : Payload) (l : List ℕ) (at : ℕ) → kind < 256 →
    sets (sets (sets (sets l at (bytes_of 2 kind)) (at + 2) (bytes_of 2 key)) (at + span_offset) (bytes_of 4 span)) (at + 8) (bytes_of 8 a.count)
    ≡ sets l at (header_of kind key span a)
unfolding header bytes_of record_bytes numbers
sets-record kind key span a l at h =
    let high : kind / 256 % 256 ≡ 0 = omega arith in
    rw high (simp towards_suc)
