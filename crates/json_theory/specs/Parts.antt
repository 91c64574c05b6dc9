-- Strings and numbers, byte by byte: where in the word one stands, and where the next byte leads.
use Rattle.std.specs.Prelude.{Bool, true, false, cond, ◌||◌, List, [], ◌∷◌, ℕ, eqb}
use Rattle.json_theory.specs.Rx.{within}
use Rattle.json_theory.specs.Grammar.{quote, Container, array, object}

-- where the next byte leads: on, to the end of the word, or nowhere
pub data Turn (P : Type 0) : Type 0 where
  go : (part : P) → Turn P
  ended stuck : Turn P

-- In a string: before a char or the closing quote; behind a \; before one to four hexadecimal digits; before one to three tail
-- bytes of UTF-8; and behind a lead byte that narrows the next byte.
pub data StringPart : Type 0 where
  plain escape : StringPart
  hexes4 hexes3 hexes2 hexes1 : StringPart
  tails3 tails2 tails1 : StringPart
  behind_e0 behind_ed behind_f0 behind_f4 : StringPart

abbrev pub go_if : {P : Type 0} → Bool → P → Turn P
go_if b p = cond b (go p) stuck

abbrev pub is_hex : ℕ → Bool
is_hex c = within 0x30 0x39 c || within 0x41 0x46 c || within 0x61 0x66 c

-- " \ / b f n r t
abbrev pub is_escape : ℕ → Bool
is_escape c = eqb c 0x22 || eqb c 0x5C || eqb c 0x2F || eqb c 0x62 || eqb c 0x66 || eqb c 0x6E || eqb c 0x72 || eqb c 0x74

unfoldable pub next_in_string : StringPart → ℕ → Turn StringPart
next_in_string plain c =
    cond (eqb c quote) ended
    (cond (eqb c 0x5C) (go escape)
    (cond (within 0x20 0x7F c) (go plain)
    (cond (within 0xC2 0xDF c) (go tails1)
    (cond (eqb c 0xE0) (go behind_e0)
    (cond (eqb c 0xED) (go behind_ed)
    (cond (within 0xE1 0xEF c) (go tails2)
    (cond (eqb c 0xF0) (go behind_f0)
    (cond (within 0xF1 0xF3 c) (go tails3)
    (go_if (eqb c 0xF4) behind_f4)))))))))
next_in_string escape c = cond (eqb c 0x75) (go hexes4) (go_if (is_escape c) plain)
next_in_string hexes4 c = go_if (is_hex c) hexes3
next_in_string hexes3 c = go_if (is_hex c) hexes2
next_in_string hexes2 c = go_if (is_hex c) hexes1
next_in_string hexes1 c = go_if (is_hex c) plain
next_in_string tails3 c = go_if (within 0x80 0xBF c) tails2
next_in_string tails2 c = go_if (within 0x80 0xBF c) tails1
next_in_string tails1 c = go_if (within 0x80 0xBF c) plain
next_in_string behind_e0 c = go_if (within 0xA0 0xBF c) tails1
next_in_string behind_ed c = go_if (within 0x80 0x9F c) tails1
next_in_string behind_f0 c = go_if (within 0x90 0xBF c) tails2
next_in_string behind_f4 c = go_if (within 0x80 0x8F c) tails2

-- In a number: behind the minus, a leading 0, another digit of int, the point, a digit of frac, the e, its sign, a digit of exp.
pub data NumberPart : Type 0 where
  minus nought whole point decimal e signed power : NumberPart

abbrev pub is_digit : ℕ → Bool
is_digit c = within 0x30 0x39 c

abbrev pub is_e : ℕ → Bool
is_e c = eqb c 0x45 || eqb c 0x65

unfoldable pub next_in_number : NumberPart → ℕ → Turn NumberPart
next_in_number minus c = cond (eqb c 0x30) (go nought) (go_if (within 0x31 0x39 c) whole)
next_in_number nought c = cond (eqb c 0x2E) (go point) (go_if (is_e c) e)
next_in_number whole c = cond (is_digit c) (go whole) (cond (eqb c 0x2E) (go point) (go_if (is_e c) e))
next_in_number point c = go_if (is_digit c) decimal
next_in_number decimal c = cond (is_digit c) (go decimal) (go_if (is_e c) e)
next_in_number e c = cond (is_digit c) (go power) (go_if (eqb c 0x2B || eqb c 0x2D) signed)
next_in_number signed c = go_if (is_digit c) power
next_in_number power c = go_if (is_digit c) power

-- whether the number may end here
unfoldable pub may_end : NumberPart → Bool
may_end minus = false
may_end nought = true
may_end whole = true
may_end point = false
may_end decimal = true
may_end e = false
may_end signed = false
may_end power = true

-- what the first byte of a value starts
pub data Start : Type 0 where
  letters : (kind l : ℕ) (ls : List ℕ) → Start
  number : (part : NumberPart) → Start
  string : Start
  open' : (o : Container) → Start
  nothing : Start

unfoldable pub start : ℕ → Start
start c =
    cond (eqb c quote) string
    (cond (eqb c 0x2D) (number minus)
    (cond (eqb c 0x30) (number nought)
    (cond (within 0x31 0x39 c) (number whole)
    (cond (eqb c 0x5B) (open' array)
    (cond (eqb c 0x7B) (open' object)
    (cond (eqb c 0x6E) (letters 1 0x75 (0x6C ∷ 0x6C ∷ []))
    (cond (eqb c 0x66) (letters 2 0x61 (0x6C ∷ 0x73 ∷ 0x65 ∷ []))
    (cond (eqb c 0x74) (letters 2 0x72 (0x75 ∷ 0x65 ∷ []))
    nothing))))))))
