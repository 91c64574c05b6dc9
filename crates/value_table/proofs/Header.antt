-- The bytes of a record are the header that its fields tell.
use mathlib.Core.Path.{◌≡◌}
use mathlib.Core.List.{List, ◌++◌}
use Prim.Native.Nat.{ℕ, ◌+◌, ◌*◌, ◌<◌, ◌≤◌}
use lib.ListN.{length, drop}
use Rattle.byte_records.specs.Number.{Bytes}
use Rattle.byte_records.specs.Format.{fields_from}
use Rattle.value_table.specs.Value.{value_format, record_size, head_at, kind_at, zero_at, key_at, span_at, header}
use Rattle.byte_records.proofs.Format.{field_below, record-written}

module _ (b : List ℕ) (i : ℕ) (bytes : Bytes b) (fits : record_size * (i + 1) ≤ length b) where
  pub key_at-below : key_at b i < 65536
  unfolding key_at
  key_at-below = field_below value_format b i bytes fits 2

  pub header-written : zero_at b i ≡ 0 → drop (record_size * i) b ≡ header (head_at b i) (key_at b i) (span_at b i) ++ drop (record_size * (i + 1)) b
  unfolding header kind_at zero_at key_at span_at fields_from
  header-written z = rw z at (record-written value_format b i bytes fits)
