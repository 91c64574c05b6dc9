-- Keys and scalars as a reading meets them.
use Rattle.std.specs.Prelude.{◌≡◌, false, List, [], Result, Ok, Err, ℕ, ◌+◌, ◌≤◌, ◌<◌, length, drop}
use Rattle.value_table.specs.Value.{Head, none, value}
use Rattle.json_theory.specs.Grammar.{head_of, is_space}
use Rattle.json_theory.specs.Parts.{Start, letters, number, string, open', nothing, plain}
use Rattle.json_theory.specs.Steps.{Stack, add, State, after, need, in_key, colon, begin}
use Rattle.json_theory.specs.Book.{book_records, key_number}
use Rattle.json_theory.specs.Reader.{listed_fault, Reading, fault_at, fault_or, read_from}
use Rattle.json_theory.specs.Inside.Scanning.{byte_at, Leads, Breaks}
use Rattle.json_tokens.specs.declared.scan.BadByte.{BadByte}
use Rattle.json_items.specs.declared.item.Named.{Named}
use Rattle.json_items.specs.declared.item.KeyError.{KeyError}
use Rattle.json_items.specs.declared.item.KeyError.TheVariants.{Unlisted, Faulty}

-- from state σ at byte p a scan leads to state τ, or to fault 12
abbrev pub ReadsTo : List ℕ → State → ℕ → State → Result ℕ BadByte → Type 0
ReadsTo text σ p τ (Ok q) = Leads text σ p τ q × (p ≤ q) × (q ≤ length text)
ReadsTo text σ p τ (Err bad) = Breaks text σ p bad.at

-- a colon with the white space around it leads to the first byte of a value
pub record ColonTo (text : List ℕ) (key : ℕ) (around : Stack) (p q : ℕ) : Type 0 where
  pub leads : Leads text (colon key around) p (need key around) q
  pub from : p ≤ q
  pub upto : q ≤ length text
  pub byte : is_space (byte_at text q) ≡ false

abbrev pub ColonIs : List ℕ → ℕ → Stack → ℕ → Result ℕ BadByte → Type 0
ColonIs text key around p (Ok q) = ColonTo text key around p q
ColonIs text key around p (Err bad) = Breaks text (colon key around) p bad.at

-- a scalar behind its first byte, at p, which is a value with this head from then on; other values have no scan
abbrev pub ScalarTo : List ℕ → ℕ → Start → Head → ℕ → Stack → Result ℕ BadByte → Type 0
ScalarTo text p st head key around r = ReadsTo text (begin st key around) p (after (add (value head key none none) around)) r

abbrev pub ScalarIs : List ℕ → ℕ → Start → ℕ → Stack → Result ℕ BadByte → Type 0
ScalarIs text p (letters kind l ls) key around r = ScalarTo text p (letters kind l ls) (head_of kind) key around r
ScalarIs text p (number part) key around r = ScalarTo text p (number part) (head_of 3) key around r
ScalarIs text p string key around r = ScalarTo text p string (head_of 4) key around r
ScalarIs text p (open' o) key around r = Unit {0}
ScalarIs text p nothing key around r = Unit {0}

-- the reading of a key behind its opening quote, with the book's numbers
abbrev pub key_reading : List ℕ → List ℕ → ℕ → Stack → ℕ → Reading
key_reading text book room around p = read_from (key_number book) room (in_key plain [] around) p (drop p text)

-- a listed key up to its closing quote at q: a fault only where its object has it, or is full
pub record KeyTo (text book : List ℕ) (p k q : ℕ) : Type 0 where
  pub some : 1 ≤ k
  pub listed : k ≤ book_records book
  pub from : p ≤ q
  pub upto : q < length text
  pub reads : (room : ℕ) (around : Stack) →
      key_reading text book room around p
      ≡ fault_or (listed_fault k around) q (read_from (key_number book) room (colon k around) (q + 1) (drop (q + 1) text))

abbrev pub NamedIs : List ℕ → List ℕ → ℕ → Result Named KeyError → Type 0
NamedIs text book p (Ok named) = KeyTo text book p named.key named.quote
NamedIs text book p (Err (Unlisted q)) = (room : ℕ) (around : Stack) → key_reading text book room around p ≡ fault_at 13 q
NamedIs text book p (Err (Faulty q)) = (room : ℕ) (around : Stack) → key_reading text book room around p ≡ fault_at 12 q
