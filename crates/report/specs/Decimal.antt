-- Texts and decimal numbers, as ASCII bytes, and the buffers that they are stored in.
use Rattle.std.specs.Prelude.{◌≡◌, ◌↔◌, List, [], ◌∷◌, ◌++◌, ℕ, zero, suc, ◌+◌, ◌-◌, ◌*◌, ◌/◌, ◌%◌, ◌^◌, ◌≤◌, ◌<◌, length, drop, replicate}
use Prim.Native.Char.{code}
use Prim.Native.String.{String, [] as empty, ◌∷◌ as ◌then◌}

abbrev pub text : String → List ℕ
text empty = []
text (c then s) = code c ∷ text s

-- how often n can be divided by ten until nothing is left; k bounds the divisions
unfoldable pub divisions : ℕ → ℕ → ℕ
divisions zero n = 0
divisions (suc k) zero = 0
divisions (suc k) (suc n) = 1 + divisions k (suc n / 10)

-- the number of decimal digits: the divisions of a count, of which there are never more than n; 0 has one digit
unfoldable pub digit_count : ℕ → ℕ
digit_count zero = 1
digit_count (suc n) = divisions (suc n) (suc n)

-- the last d digits of n, the most significant first
unfoldable pub digits : ℕ → ℕ → List ℕ
digits zero n = []
digits (suc d) n = (48 + n / 10 ^ d % 10) ∷ digits d n

abbrev pub decimal : ℕ → List ℕ
decimal n = digits (digit_count n) n

-- n has d digits: 10^(d - 1) <= n < 10^d
abbrev pub HasDigits : ℕ → ℕ → Type 0
HasDigits n d = (10 ^ (d - 1) ≤ n) × (n < 10 ^ d)

-- the number that digits spell behind those of m
unfoldable pub spelled : ℕ → List ℕ → ℕ
spelled m [] = m
spelled m (c ∷ cs) = spelled (10 * m + (c - 48)) cs

-- Change 4 of document 02 asks for the digit number of every count from 1 to 1,000,000,000,000,000; larger ones have it too. The
-- decimal has just so many digits, and they spell n.
pub record CountsDigits : Type 0 where
  pub digit-number : (n d : ℕ) → 1 ≤ n → (digit_count n ≡ d) ↔ HasDigits n d
  pub decimal-length : (n : ℕ) → length (decimal n) ≡ digit_count n
  pub decimal-spells : (n : ℕ) → spelled 0 (decimal n) ≡ n

-- padded on the left with spaces
abbrev pub padded : ℕ → ℕ → List ℕ
padded width n = replicate (width - digit_count n) 32 ++ decimal n

-- What storing a text at the front of a buffer answers and leaves: the number of its bytes, and the buffer, unchanged behind them.
pub record TextLeft : Type 0 where
  pub count : ℕ
  pub buffer : List ℕ

unfoldable pub leaves_text : List ℕ → List ℕ → TextLeft
leaves_text xs before = record { count = length xs; buffer = xs ++ drop (length xs) before }

abbrev pub text_left : ℕ → List ℕ → TextLeft
text_left n after = record { count = n; buffer = after }
