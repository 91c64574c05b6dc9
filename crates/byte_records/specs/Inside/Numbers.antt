-- Numbers of one width, one after the other in bytes.
use Rattle.std.specs.Prelude.{List, [], ◌∷◌, ℕ, zero, suc, take, drop}
use Rattle.byte_records.specs.Number.{number_of}

-- the first n numbers in bytes, each of `width` bytes
unfoldable pub numbers_of : ℕ → ℕ → List ℕ → List ℕ
numbers_of width zero w = []
numbers_of width (suc n) w = number_of (take width w) ∷ numbers_of width n (drop width w)
