-- 'Value table' of document 01: the record layout, and the values that a table holds.
use Rattle.std.specs.Prelude.{◌≡◌, Bool, true, false, ◌||◌, List, [], ◌∷◌, ◌++◌, ℕ, suc, ◌+◌, ◌/◌, ◌≤◌, ◌<◌, length, eqb}
use Rattle.byte_records.specs.Format.{Format, width_of, field_at, record_bytes}

-- the fields of a value record: kind, zero, key and span
abbrev pub value_format : Format
value_format = 1 ∷ 1 ∷ 2 ∷ 4 ∷ []

-- bytes of a value record, the most bytes of a table, the largest depth, the largest key, and the most fields of a record (change 2
-- of document 02)
abbrev pub record_size : ℕ
record_size = width_of value_format

abbrev pub max_length : ℕ
max_length = 65536

abbrev pub max_depth : ℕ
max_depth = 32

abbrev pub max_key : ℕ
max_key = 65535

abbrev pub max_fields : ℕ
max_fields = 256

-- the two kinds that have content, and the last of the scalar kinds, which have none
abbrev pub record_kind : ℕ
record_kind = 5

abbrev pub array_kind : ℕ
array_kind = 6

abbrev pub last_scalar : ℕ
last_scalar = 4

-- how many value records b has, the bytes of record i, and its fields
abbrev pub records : List ℕ → ℕ
records b = length b / record_size

unfoldable pub kind_at : List ℕ → ℕ → ℕ
kind_at = field_at value_format 0

unfoldable pub zero_at : List ℕ → ℕ → ℕ
zero_at = field_at value_format 1

unfoldable pub key_at : List ℕ → ℕ → ℕ
key_at = field_at value_format 2

unfoldable pub span_at : List ℕ → ℕ → ℕ
span_at = field_at value_format 3

-- no record of b has a key above `largest`
abbrev pub KeysUpTo : ℕ → List ℕ → Type 0
KeysUpTo largest b = (i : ℕ) → i < records b → key_at b i ≤ largest

-- What a record tells of its value beside its key and its place.
pub record Head : Type 0 where
  pub kind : ℕ

abbrev pub head_at : List ℕ → ℕ → Head
head_at b i = record { kind = kind_at b i }

abbrev pub record_numbers : Head → ℕ → ℕ → List ℕ
record_numbers head key span = head.kind ∷ 0 ∷ key ∷ span ∷ []

unfoldable pub header : Head → ℕ → ℕ → List ℕ
header head key span = record_bytes value_format (record_numbers head key span)

-- A run of values: messages, the fields of a record, or the elements of an array. The content of a value is such a run.
pub data Values : Type 0 where
  none : Values
  value : (head : Head) (key : ℕ) (content next : Values) → Values

-- the value records of a run
unfoldable pub size : Values → ℕ
size none = 0
size (value head key content next) = 1 + size content + size next

-- the values of a run, without those inside them
unfoldable pub count : Values → ℕ
count none = 0
count (value head key content next) = 1 + count next

unfoldable pub keys : Values → List ℕ
keys none = []
keys (value head key content next) = key ∷ keys next

-- two collections of values together, those of the first before those of the second
unfoldable pub join_values : Values → Values → Values
join_values none ys = ys
join_values (value head key content next) ys = value head key content (join_values next ys)

-- in preorder: a value, then its fields or elements
unfoldable pub encode : Values → List ℕ
encode none = []
encode (value head key content next) = header head key (1 + size content) ++ (encode content ++ encode next)

unfoldable pub member : ℕ → List ℕ → Bool
member k [] = false
member k (x ∷ xs) = eqb k x || member k xs

unfoldable pub Distinct : List ℕ → Type 0
Distinct [] = Unit {0}
Distinct (x ∷ xs) = (member x xs ≡ false) × Distinct xs

-- the key of a field is 1 to 65,535, any other 0
abbrev pub KeyFits : Bool → ℕ → Type 0
KeyFits true key = (1 ≤ key) × (key < 65536)
KeyFits false key = key ≡ 0

-- What is asked of one value; `field` says whether it is the value of a record's field.
pub record Proper (field : Bool) (depth : ℕ) (head : Head) (key : ℕ) (content : Values) : Type 0 where
  pub kind-low : 1 ≤ head.kind
  pub kind-high : head.kind ≤ array_kind
  pub scalar : head.kind ≤ last_scalar → content ≡ none
  pub keyed : KeyFits field key
  pub distinct : head.kind ≡ record_kind → Distinct (keys content)
  pub few : head.kind ≡ record_kind → count content ≤ max_fields
  pub shallow : depth ≤ max_depth

unfoldable pub ValidAt : Bool → ℕ → Values → Type 0
ValidAt field depth none = Unit {0}
ValidAt field depth (value head key content next) =
    Proper field depth head key content × ValidAt (eqb head.kind record_kind) (suc depth) content × ValidAt field depth next

-- messages have depth 1 and are no fields
abbrev pub Valid : Values → Type 0
Valid messages = ValidAt false 1 messages
