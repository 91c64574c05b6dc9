-- The bytes of a value record, and when one is a plain scalar.
use Rattle.std.specs.Prelude.{◌≡◌, List, ℕ, ◌*◌, ◌≤◌, take, drop}
use Rattle.byte_records.specs.Format.{width_of}
use Rattle.value_table.specs.Value.{value_format, record_size, header, last_scalar, kind_at, zero_at, span_at}

abbrev pub record_at : List ℕ → ℕ → List ℕ
record_at b i = take record_size (drop (record_size * i) b)

-- where the span stands in a record, and the bytes of one
abbrev pub span_offset : ℕ
span_offset = width_of (take 3 value_format)

abbrev pub header_of : ℕ → ℕ → ℕ → List ℕ
header_of kind key span = header (record { kind = kind }) key span

-- record i is a scalar with a zero byte 1 and span 1
pub record PlainScalar (b : List ℕ) (i : ℕ) : Type 0 where
  pub kind-low : 1 ≤ kind_at b i
  pub kind-high : kind_at b i ≤ last_scalar
  pub zeroed : zero_at b i ≡ 0
  pub single : span_at b i ≡ 1
