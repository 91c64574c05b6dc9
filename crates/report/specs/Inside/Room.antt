-- How many bytes the parts of a report take at most, and what a store of a text leaves.
use Rattle.std.specs.Prelude.{◌≡◌, List, ℕ, ◌+◌, ◌*◌, length}
use Rattle.std.proofs.lemmas.List.Edits.{sets}

-- the most digits of a number that is printed, which is at most the limit of a total
abbrev pub max_digits : ℕ
max_digits = 16

-- the most bytes of a word
abbrev pub word_limit : ℕ
word_limit = 5

-- at most this many bytes: four numbers, a word, four spaces and the line feed
abbrev pub line_limit : ℕ
line_limit = 4 * max_digits + word_limit + 5

-- at most this many bytes: a word of 7 letters, two numbers, two spaces and the line feed
abbrev pub refusal_limit : ℕ
refusal_limit = 7 + 2 * max_digits + 3

-- A buffer s, afterwards s', in which xs were stored from position p on; `end` is the position behind them.
pub record TextStored (s : List ℕ) (p : ℕ) (xs : List ℕ) (s' : List ℕ) (end : ℕ) : Type 0 where
  pub bytes : s' ≡ sets s p xs
  pub behind : end ≡ p + length xs
