-- Text to messages: read from the left, the first fault decides, and its place is its byte.
use Rattle.std.specs.Prelude.{Bool, true, false, cond, ◌||◌, List, [], ◌∷◌, ◌++◌, ℕ, zero, suc, ◌+◌, ◌*◌, ◌/◌, ◌-◌, eqb, leb, ltb, length}
use Rattle.byte_records.specs.Number.{zeros}
use Rattle.value_table.specs.Value.{Values, none, size, count, keys, member, encode, max_depth, max_fields, max_length, record_size}
use Rattle.value_table.specs.Outcome.{Outcome, accepted, refused}
use Rattle.value_table.specs.Judged.{bad_length}
use Rattle.json_theory.specs.Grammar.{is_space, closer, array, object}
use Rattle.json_theory.specs.Parts.{Turn, go, ended, stuck, StringPart, next_in_string}
use Rattle.json_theory.specs.Steps.{Stack, base, level, State, gap, after, need, first, next_key, in_key, colon, in_string, in_number, in_literal, wrong, step}
use Rattle.json_theory.specs.Book.{bad_book_length, bad_book, key_number}

-- how many arrays and objects are open, and how many value records there are
unfoldable pub depth : Stack → ℕ
depth (base ms) = 0
depth (level o key _ outer) = suc (depth outer)

unfoldable pub written : Stack → ℕ
written (base ms) = size ms
written (level o key done outer) = written outer + 1 + size done

-- the values so far of the innermost level: how many, and their keys
abbrev pub items_in : Stack → ℕ
items_in (base ms) = count ms
items_in (level o key done outer) = count done

abbrev pub keys_in : Stack → List ℕ
keys_in (base ms) = []
keys_in (level o key done outer) = keys done

-- a value that starts here: 7 at depth 33, 11 when the table is full
unfoldable pub value_fault : ℕ → Stack → ℕ
value_fault room around = cond (leb max_depth (depth around)) 7 (cond (leb room (written around)) 11 0)

-- a listed key that ends here: 6 when repeated, 15 as the 257th of its object
unfoldable pub listed_fault : ℕ → Stack → ℕ
listed_fault key around = cond (member key (keys_in around)) 6 (cond (leb max_fields (items_in around)) 15 0)

-- a key that ends here: 13 when unlisted
unfoldable pub key_fault : ℕ → Stack → ℕ
key_fault key around = cond (eqb key 0) 13 (listed_fault key around)

module _ (name : List ℕ → ℕ) (room : ℕ) where
  unfoldable pub key_ends : Turn StringPart → List ℕ → Stack → ℕ
  key_ends (go part) spelled around = 0
  key_ends ended spelled around = key_fault (name spelled) around
  key_ends stuck spelled around = 0

  -- the fault of a byte with which the grammar can go on
  unfoldable pub limit_fault : State → ℕ → ℕ
  limit_fault (gap ms) c = cond (is_space c) 0 (value_fault room (base ms))
  limit_fault (after around) c = 0
  limit_fault (need key around) c = cond (is_space c) 0 (value_fault room around)
  limit_fault (first array key outer) c = cond (is_space c) 0 (cond (eqb c (closer array)) 0 (value_fault room (level array key none outer)))
  limit_fault (first object key outer) c = 0
  limit_fault (next_key around) c = 0
  limit_fault (in_key part spelled around) c = key_ends (next_in_string part c) spelled around
  limit_fault (colon key around) c = 0
  limit_fault (in_string part around) c = 0
  limit_fault (in_number part around) c = 0
  limit_fault (in_literal l ls around) c = 0
  limit_fault wrong c = 0

abbrev pub is_wrong : State → Bool
is_wrong (gap ms) = false
is_wrong (after around) = false
is_wrong (need key around) = false
is_wrong (first o key outer) = false
is_wrong (next_key around) = false
is_wrong (in_key part spelled around) = false
is_wrong (colon key around) = false
is_wrong (in_string part around) = false
is_wrong (in_number part around) = false
is_wrong (in_literal l ls around) = false
is_wrong wrong = true

-- what a reading gives
pub data Reading : Type 0 where
  fine : (ms : Values) → Reading
  fault_at : (number place : ℕ) → Reading

-- the end of the text, at byte p
abbrev pub finish : State → ℕ → Reading
finish (gap ms) p = fine ms
finish (after around) p = fault_at 12 p
finish (need key around) p = fault_at 12 p
finish (first o key outer) p = fault_at 12 p
finish (next_key around) p = fault_at 12 p
finish (in_key part spelled around) p = fault_at 12 p
finish (colon key around) p = fault_at 12 p
finish (in_string part around) p = fault_at 12 p
finish (in_number part around) p = fault_at 12 p
finish (in_literal l ls around) p = fault_at 12 p
finish wrong p = fault_at 12 p

-- fault f at byte p, or else what the bytes behind it give
abbrev pub fault_or : ℕ → ℕ → Reading → Reading
fault_or zero p later = later
fault_or (suc f) p later = fault_at (suc f) p

module _ (name : List ℕ → ℕ) (room : ℕ) where
  -- 12: a byte that cannot continue the grammar; it comes first
  abbrev pub byte_fault : State → ℕ → ℕ
  byte_fault state c = cond (is_wrong (step name state c)) 12 (limit_fault name room state c)

  unfoldable pub read_from : State → ℕ → List ℕ → Reading
  read_from state p [] = finish state p
  read_from state p (c ∷ s) =
      fault_or (byte_fault state c) p (read_from (step name state c) (p + 1) s)

-- What the call answers, and the table behind it.
pub record Read : Type 0 where
  pub outcome : Outcome
  pub table : List ℕ

abbrev pub refused_read : ℕ → ℕ → ℕ → Read
refused_read number place n = record { outcome = refused number place; table = zeros n }

abbrev pub read_of : ℕ → Reading → Read
read_of n (fine ms) = record { outcome = accepted (size ms); table = encode ms ++ zeros (n - record_size * size ms) }
read_of n (fault_at number place) = refused_read number place n

-- 1: a text, a book or a table of a wrong length
abbrev pub bad_lengths : List ℕ → List ℕ → ℕ → Bool
bad_lengths text book n = ltb max_length (length text) || bad_book_length (length book) || bad_length n

-- from a text and a book into a table of n bytes
unfoldable pub read : List ℕ → List ℕ → ℕ → Read
read text book n =
    cond (bad_lengths text book n) (refused_read 1 0 n)
    (cond (bad_book book) (refused_read 14 0 n)
    (read_of n (read_from (key_number book) (n / record_size) (gap none) 0 text)))
