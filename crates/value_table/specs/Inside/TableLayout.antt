-- Laws of a table's layout and of its keys. Beside those in Acceptance they are all that the proofs of upper crates use of this crate's.
use Rattle.std.specs.Prelude.{◌≡◌, Bool, false, ◌||◌, ◌↔◌, List, [], ◌∷◌, ◌++◌, ℕ, ◌+◌, ◌*◌, ◌%◌, ◌^◌, ◌≤◌, ◌<◌, length, drop}
use Rattle.std.proofs.lemmas.List.Edits.{sets}
use Rattle.byte_records.specs.Number.{bytes_of}
use Rattle.byte_records.specs.Inside.Fits.{Fits}
use Rattle.value_table.specs.Value.{value_format, record_size, max_length, Head, head_at, record_numbers, zero_at, key_at, span_at, header, Values, size, encode, member, Distinct, KeyFits, Proper}
use Rattle.value_table.specs.Judged.{bad_length}
use Rattle.value_table.specs.Inside.RecordBytes.{span_offset}

-- a run of values takes as many bytes as its records
abbrev pub EncodeLength : Type 0
EncodeLength = (vs : Values) → length (encode vs) ≡ record_size * size vs

-- the lengths that are not refused by 1
abbrev pub AllowedLength : Type 0
AllowedLength = (n : ℕ) → (bad_length n ≡ false) ↔ ((n % record_size ≡ 0) × (n ≤ max_length))

-- a key fits two bytes, and all numbers of a value's record fit their fields
abbrev pub KeyBelow : Type 0
KeyBelow = (field : Bool) (key : ℕ) → KeyFits field key → key < 65536

abbrev pub ValueFits : Type 0
ValueFits = (field : Bool) (depth : ℕ) (head : Head) (key : ℕ) (content : Values) → Proper field depth head key content → 1 + size content < 2 ^ 32 →
    Fits value_format (record_numbers head key (1 + size content))

-- the fields of record i, and the bytes after it
pub record Fields (b : List ℕ) (i : ℕ) (head : Head) (zeroed key span : ℕ) (rest : List ℕ) : Type 0 where
  pub head-is : head_at b i ≡ head
  pub zero_is : zero_at b i ≡ zeroed
  pub key-is : key_at b i ≡ key
  pub span-is : span_at b i ≡ span
  pub rest-is : drop (record_size * (i + 1)) b ≡ rest

-- what is read at a record is what its header was written from
abbrev pub HeaderRead : Type 0
HeaderRead = (b : List ℕ) (i : ℕ) (head : Head) (key span : ℕ) (rest : List ℕ) → Fits value_format (record_numbers head key span) →
    drop (record_size * i) b ≡ header head key span ++ rest → Fields b i head 0 key span rest

-- the bytes of a header, and a span stored in it
abbrev pub HeaderLength : Type 0
HeaderLength = (head : Head) (key span : ℕ) → length (header head key span) ≡ record_size

abbrev pub SpanStored : Type 0
SpanStored = (head : Head) (key span new : ℕ) (rest : List ℕ) → sets (header head key span ++ rest) span_offset (bytes_of 4 new) ≡ header head key new ++ rest

-- keys of two runs together, and of a run with one more behind it
abbrev pub MemberAppend : Type 0
MemberAppend = (k : ℕ) (xs ys : List ℕ) → member k (xs ++ ys) ≡ (member k xs || member k ys)

abbrev pub DistinctSnoc : Type 0
DistinctSnoc = (k : ℕ) (xs : List ℕ) → member k xs ≡ false → Distinct xs → Distinct (xs ++ (k ∷ []))

abbrev pub DistinctParts : Type 0
DistinctParts = (k : ℕ) (xs : List ℕ) → Distinct (xs ++ (k ∷ [])) → Distinct xs × (member k xs ≡ false)
