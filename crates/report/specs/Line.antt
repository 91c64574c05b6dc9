-- 'The profile program' of document 01: one line of the report.
use Rattle.std.specs.Prelude.{◌≡◌, cond, ◌↔◌, List, [], ◌∷◌, ◌++◌, ℕ, ◌+◌, ◌*◌, ◌/◌, ◌≤◌, ◌<◌, eqb, ltb, get_or}
use Rattle.report.specs.Decimal.{text, decimal, padded}

-- words for kinds 1 to 7; no other kind has one
abbrev pub words : List (List ℕ)
words = [] ∷ text "null" ∷ text "bool" ∷ text "num" ∷ text "str" ∷ text "rec" ∷ text "arr" ∷ text "field" ∷ []

unfoldable pub kind_word : ℕ → List ℕ
kind_word kind = get_or words kind []

-- in thousandths, rounded to the nearest, halves up
unfoldable pub rounded : ℕ → ℕ → ℕ
rounded count whole = (2000 * count + whole) / (2 * whole)

-- what is printed for a rounding where the count is below the whole. 1000 and 0 are the false ends of change 7 of document 02: 1000 would
-- mean all, and 0 none.
unfoldable pub without_false_end : ℕ → ℕ
without_false_end r = cond (eqb r 1000) 999 (cond (eqb r 0) 1 r)

-- document 01's rounding, without a false end
unfoldable pub share : ℕ → ℕ → ℕ
share count whole = cond (ltb count whole) (without_false_end (rounded count whole)) (rounded count whole)

-- What a share tells of a count from 1 to its whole: 1000 is all and nothing less, 0 never stands for something, and a rounding to 1 to 999
-- is kept. The last two settle what is left.
pub record NoFalseEnd (count whole : ℕ) : Type 0 where
  pub all : (share count whole ≡ 1000) ↔ (count ≡ whole)
  pub some : 1 ≤ share count whole
  pub kept : 1 ≤ rounded count whole → rounded count whole ≤ 999 → share count whole ≡ rounded count whole
  pub nearly-all : count < whole → rounded count whole ≡ 1000 → share count whole ≡ 999
  pub nearly-none : count < whole → rounded count whole ≡ 0 → share count whole ≡ 1

abbrev pub NoFalseEnds : Type 0
NoFalseEnds = (count whole : ℕ) → 1 ≤ count → count ≤ whole → NoFalseEnd count whole

-- depth, kind word, key, count, share, one space apart, ended by a line feed
unfoldable pub line_of : (depth kind key width count share : ℕ) → List ℕ
line_of depth kind key width count share =
    decimal depth ++ text " " ++ kind_word kind ++ text " " ++ decimal key ++ text " " ++ padded width count ++ text " " ++ decimal share ++ text "\n"

unfoldable pub refusal_line : (number place : ℕ) → List ℕ
refusal_line number place = text "refused " ++ decimal number ++ text " " ++ decimal place ++ text "\n"
