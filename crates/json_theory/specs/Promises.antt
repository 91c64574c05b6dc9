-- What the reader's answers mean.
use Rattle.std.specs.Prelude.{◌≡◌, false, ◌↔◌, List, [], ◌∷◌, ◌++◌, ℕ, suc, ◌*◌, ◌≤◌, ◌<◌, length, get_or}
use Rattle.byte_records.specs.Number.{Bytes}
use Rattle.value_table.specs.Value.{Values, Valid, size, count, encode, member, record_size}
use Rattle.value_table.specs.Outcome.{accepted}
use Rattle.value_table.specs.Judged.{judged}
use Rattle.value_table.specs.Acceptance.{Table}
use Rattle.json_theory.specs.Grammar.{Text}
use Rattle.json_theory.specs.Book.{bad_book, book_records, book_keys, key_number}
use Rattle.json_theory.specs.Reader.{fine, read, read_of, bad_lengths}

-- The text is in the grammar with these messages. They are valid, so that all keys are listed (their numbers are not 0) and differ
-- within a record, which has at most 256, and the depth is at most 32. They fit into a table of n bytes.
pub record HoldsText (text book : List ℕ) (n : ℕ) (ms : Values) : Type 0 where
  pub lengths : bad_lengths text book n ≡ false
  pub book-good : bad_book book ≡ false
  pub grammar : Text (key_number book) text ms
  pub valid : Valid ms
  pub room : record_size * size ms ≤ n

-- accepted exactly then: with these messages and zeros in the table ..
abbrev pub ReadsText : Type 0
ReadsText = (text book : List ℕ) (n : ℕ) (ms : Values) → Bytes text → HoldsText text book n ms → read text book n ≡ read_of n (fine ms)

-- .. and else not
abbrev pub ReadsOnlyText : Type 0
ReadsOnlyText = (text book : List ℕ) (n : ℕ) → Bytes text → (read text book n).outcome.number ≡ 0 → (ms : Values) × HoldsText text book n ms

-- a text has no other messages, and it is made of bytes
abbrev pub OneReading : Type 0
OneReading = (name : List ℕ → ℕ) (text : List ℕ) (ms vs : Values) → Text name text ms → Text name text vs → (ms ≡ vs) × Bytes text

-- call 1 accepts the records written
abbrev pub ReadsTables : Type 0
ReadsTables = (text book : List ℕ) (n : ℕ) (ms : Values) → HoldsText text book n ms →
    Table (encode ms) ms (count ms) × (judged (encode ms) ≡ accepted (count ms))

-- a key has number i + 1 exactly if it is that of the book's record i, spelled without an escape
abbrev pub NumbersKeys : Type 0
NumbersKeys = (book w : List ℕ) (i : ℕ) → bad_book book ≡ false →
    (key_number book w ≡ suc i) ↔ ((i < book_records book) × (get_or (book_keys book) i [] ≡ w) × (member 0x5C w ≡ false))

-- No text of the grammar begins with the bytes seen and the next one; none is just the bytes seen, where they are all.
abbrev pub NoText : (List ℕ → ℕ) → List ℕ → List ℕ → Type 0
NoText name seen [] = (ms : Values) → Text name seen ms → ⊥
NoText name seen (c ∷ left) = (u : List ℕ) (ms : Values) → Text name (seen ++ (c ∷ u)) ms → ⊥

-- 12 at place q: no text of the grammar goes on with byte q, and some text begins with the bytes before it
pub record Twelve (name : List ℕ → ℕ) (s : List ℕ) (q : ℕ) : Type 0 where
  pub seen : List ℕ
  pub left : List ℕ
  pub parts : s ≡ seen ++ left
  pub place : q ≡ length seen
  pub none-goes-on : NoText name seen left
  pub one-begins : (u : List ℕ) × (ms : Values) × Text name (seen ++ u) ms

abbrev pub TwelveMeans : Type 0
TwelveMeans = (text book : List ℕ) (n : ℕ) → Bytes text → (read text book n).outcome.number ≡ 12 →
    Twelve (key_number book) text (read text book n).outcome.place
