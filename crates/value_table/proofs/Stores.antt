-- The bytes of a value record, stored number by number.
use mathlib.Core.Path.{◌≡◌}
use mathlib.Core.List.{List}
use Prim.Native.Nat.{ℕ, ◌+◌, ◌/◌, ◌%◌, ◌<◌}
use native.Mathlib.Numerals.{towards_suc}
use native.Mathlib.Omega.{arith}
use lib.Seq.{sets}
use Rattle.byte_records.specs.Number.{bytes_of}
use Rattle.byte_records.specs.Format.{record_bytes}
use Rattle.value_table.specs.Value.{header}
use Rattle.value_table.specs.Inside.RecordBytes.{span_offset, header_of}

-- the first number has the zero byte behind the kind
pub sets-value : (kind key : ℕ) (l : List ℕ) (at : ℕ) → kind < 256 →
    sets (sets (sets l at (bytes_of 2 kind)) (at + 2) (bytes_of 2 key)) (at + span_offset) (bytes_of 4 1) ≡ sets l at (header_of kind key 1)
unfolding header bytes_of record_bytes
sets-value kind key l at h =
    let high : kind / 256 % 256 ≡ 0 = omega arith in
    rw high (simp towards_suc)
