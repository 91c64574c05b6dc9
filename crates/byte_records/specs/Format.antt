-- Records in bytes: numbers of fixed widths one behind the other, each unsigned and little-endian. A format is the list of the widths.
use Rattle.std.specs.Prelude.{List, [], ◌∷◌, ◌++◌, ℕ, zero, suc, ◌+◌, ◌*◌, length, take, drop, get_or}
use Rattle.byte_records.specs.Number.{bytes_of, number_at}

abbrev pub Format : Type 0
Format = List ℕ

-- the bytes of a record
abbrev pub width_of : Format → ℕ
width_of [] = 0
width_of (w ∷ ws) = w + width_of ws

-- the number in field k of record i, and all the numbers of record i
unfoldable pub field_at : Format → ℕ → List ℕ → ℕ → ℕ
field_at format k b i = number_at (get_or format k 0) b (width_of format * i + width_of (take k format))

unfoldable pub fields_from : Format → ℕ → ℕ → List ℕ → ℕ → List ℕ
fields_from format k zero b i = []
fields_from format k (suc n) b i = field_at format k b i ∷ fields_from format (suc k) n b i

abbrev pub fields_at : Format → List ℕ → ℕ → List ℕ
fields_at format b i = fields_from format 0 (length format) b i

-- the bytes of a record with these numbers
unfoldable pub record_bytes : Format → List ℕ → List ℕ
record_bytes [] ns = []
record_bytes (w ∷ ws) ns = bytes_of w (get_or ns 0 0) ++ record_bytes ws (drop 1 ns)
