-- The key book as its functions read it, record by record.
use Rattle.std.specs.Prelude.{◌≡◌, Bool, true, false, not, Option, Some, None, List, ℕ, zero, suc, ◌+◌, ◌*◌, ◌≤◌, ◌<◌, eqb, length, take, drop}
use Rattle.value_table.specs.Value.{max_length}
use Rattle.json_theory.specs.Book.{book_size, key_of, before, book_records, good_record, bad_book}
use Rattle.json_theory.specs.Inside.Scanning.{Running, between}
use Rattle.std.specs.declared.cmp.Ordering.{Ordering}
use Rattle.std.specs.declared.cmp.Ordering.TheVariants.{Less, Equal, Greater}

-- record i of a book
unfoldable pub book_record : List ℕ → ℕ → List ℕ
book_record b i = take book_size (drop (book_size * i) b)

-- a book of an allowed length that has record i
abbrev pub HasRecord : List ℕ → ℕ → Type 0
HasRecord b i = (book_size * i + book_size ≤ length b) × (length b ≤ max_length)

-- record i is good and comes before the next one; or the book is bad
pub record Fine (b : List ℕ) (i : ℕ) : Type 0 where
  pub good : good_record (book_record b i) ≡ true
  pub up : i + 1 < book_records b → before (book_record b i) (book_record b (i + 1)) ≡ true

abbrev pub GoodAt : List ℕ → ℕ → Bool → Type 0
GoodAt b i true = Fine b i
GoodAt b i false = bad_book b ≡ true

-- key k against the bytes w
abbrev pub OrderIs : List ℕ → List ℕ → Ordering → Type 0
OrderIs k w Less = before k w ≡ true
OrderIs k w Equal = k ≡ w
OrderIs k w Greater = before w k ≡ true

abbrev pub is_filled : ℕ → Bool
is_filled c = not (eqb c 0)

-- record i, and up to 32 bytes of a text without a zero
abbrev pub Sought : List ℕ → ℕ → List ℕ → ℕ → ℕ → Type 0
Sought b i text p q = HasRecord b i × Running is_filled text p q × (q ≤ p + book_size)

-- a yes is right; a no may be wrong
abbrev pub KeyIf : List ℕ → ℕ → List ℕ → ℕ → ℕ → Bool → Type 0
KeyIf b i text p q t = t ≡ true → key_of (book_record b i) ≡ between text p q

-- a key's number by its place, which is 0 where it is unlisted
abbrev pub listed : ℕ → Option ℕ
listed zero = None
listed (suc n) = Some (suc n)

-- the book of these bytes, unless they are bad
abbrev pub MadeOf : List ℕ → Option (List ℕ) → Type 0
MadeOf b None = bad_book b ≡ true
MadeOf b (Some book) = (book ≡ b) × (bad_book b ≡ false)

-- the places for guesses
abbrev pub places : ℕ
places = 4096
