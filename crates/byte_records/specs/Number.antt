-- Bytes, and numbers in bytes: unsigned and little-endian, over the width.
use Rattle.std.specs.Prelude.{Bool, true, false, ◌&&◌, List, [], ◌∷◌, ℕ, zero, suc, ◌+◌, ◌*◌, ◌/◌, ◌%◌, ◌<◌, eqb, take, drop, get_or, replicate}

-- n in w bytes, the lowest first
unfoldable pub bytes_of : ℕ → ℕ → List ℕ
bytes_of zero n = []
bytes_of (suc w) n = n % 256 ∷ bytes_of w (n / 256)

unfoldable pub number_of : List ℕ → ℕ
number_of [] = 0
number_of (x ∷ xs) = x + 256 * number_of xs

-- the number in the w bytes of b from byte p
unfoldable pub number_at : ℕ → List ℕ → ℕ → ℕ
number_at w b p = number_of (take w (drop p b))

-- each element of b is a byte
abbrev pub Bytes : List ℕ → Type 0
Bytes b = (p : ℕ) → get_or b p 0 < 256

abbrev pub zeros : ℕ → List ℕ
zeros n = replicate n 0

unfoldable pub same_bytes : List ℕ → List ℕ → Bool
same_bytes [] [] = true
same_bytes [] (y ∷ ys) = false
same_bytes (x ∷ xs) [] = false
same_bytes (x ∷ xs) (y ∷ ys) = eqb x y && same_bytes xs ys
