-- The key book: 32-byte records, a key's 1 to 32 bytes, none of them zero, then zeros; keys ascend by bytes, without repeats.
use Rattle.std.specs.Prelude.{Bool, true, false, cond, not, ◌&&◌, ◌||◌, List, [], ◌∷◌, ℕ, zero, suc, ◌/◌, ◌%◌, eqb, ltb, length, take, drop}
use Rattle.byte_records.specs.Number.{same_bytes}
use Rattle.value_table.specs.Value.{member, max_length}

-- the bytes of a record
abbrev pub book_size : ℕ
book_size = 32

-- the bytes before the first zero
unfoldable pub key_of : List ℕ → List ℕ
key_of [] = []
key_of (c ∷ s) = cond (eqb c 0) [] (c ∷ key_of s)

unfoldable pub all_zero : List ℕ → Bool
all_zero [] = true
all_zero (c ∷ s) = eqb c 0 && all_zero s

-- zeros behind the key
unfoldable pub padded : List ℕ → Bool
padded [] = true
padded (c ∷ s) = cond (eqb c 0) (all_zero s) (padded s)

-- a key is not empty
abbrev pub filled : List ℕ → Bool
filled [] = false
filled (c ∷ s) = true

abbrev pub good_record : List ℕ → Bool
good_record r = filled (key_of r) && padded r

-- keys compare by the first byte that differs; a key that begins another comes first
unfoldable pub before : List ℕ → List ℕ → Bool
before a [] = false
before [] (y ∷ ys) = true
before (x ∷ xs) (y ∷ ys) = ltb x y || (eqb x y && before xs ys)

abbrev pub book_records : List ℕ → ℕ
book_records b = length b / book_size

-- the first n keys, and whether their records are good
unfoldable pub keys_from : ℕ → List ℕ → List (List ℕ)
keys_from zero b = []
keys_from (suc n) b = key_of (take book_size b) ∷ keys_from n (drop book_size b)

unfoldable pub good_from : ℕ → List ℕ → Bool
good_from zero b = true
good_from (suc n) b = good_record (take book_size b) && good_from n (drop book_size b)

abbrev pub precedes : List ℕ → List (List ℕ) → Bool
precedes k [] = true
precedes k (j ∷ js) = before k j

unfoldable pub ascending : List (List ℕ) → Bool
ascending [] = true
ascending (k ∷ ks) = precedes k ks && ascending ks

abbrev pub book_keys : List ℕ → List (List ℕ)
book_keys b = keys_from (book_records b) b

-- 1 for the book's length, and 14
unfoldable pub bad_book_length : ℕ → Bool
bad_book_length n = not (eqb (n % book_size) 0) || ltb max_length n

unfoldable pub bad_book : List ℕ → Bool
bad_book b = not (good_from (book_records b) b && ascending (book_keys b))

-- a key's place counted from i, or 0
unfoldable pub place_of : List ℕ → ℕ → List (List ℕ) → ℕ
place_of w i [] = 0
place_of w i (k ∷ ks) = cond (same_bytes w k) i (place_of w (suc i) ks)

-- the number of a key by the bytes between its quotes, 0 when unlisted; with an escape it counts as unlisted
unfoldable pub key_number : List ℕ → List ℕ → ℕ
key_number b w = cond (member 0x5C w) 0 (place_of w 1 (book_keys b))
