-- What the lower library promises the upper one: call 1 accepts exactly the encodings of valid messages. The laws of the layout that
-- proofs above use beside it stand in Inside/TableLayout.
use Rattle.std.specs.Prelude.{◌≡◌, ◌↔◌, ◌⊎◌, List, ℕ, ◌*◌, ◌≤◌, ◌<◌}
use Rattle.byte_records.specs.Number.{Bytes}
use Rattle.value_table.specs.Value.{records, Values, Valid, encode, size, count, record_size, max_length, KeysUpTo}
use Rattle.value_table.specs.Outcome.{Outcome, accepted}
use Rattle.value_table.specs.Judged.{judged, judged_up_to, messages}

-- b is the table of n valid messages ms
pub record Table (b : List ℕ) (ms : Values) (n : ℕ) : Type 0 where
  pub bytes : b ≡ encode ms
  pub valid : Valid ms
  pub room : record_size * size ms ≤ max_length
  pub counted : n ≡ count ms

-- accepted with n messages exactly when b is the table of its n messages
abbrev pub Accepts : Type 0
Accepts = (b : List ℕ) (n : ℕ) → Bytes b → (judged b ≡ accepted n) ↔ Table b (messages b) n

-- with a largest key: accepted exactly when call 1 accepts it and no key is above that
abbrev pub AcceptsUpTo : Type 0
AcceptsUpTo = (largest : ℕ) (b : List ℕ) (n : ℕ) → Bytes b → (judged_up_to largest b ≡ accepted n) ↔ ((judged b ≡ accepted n) × KeysUpTo largest b)

-- without a key above the largest, the answer is that of call 1, refusals included
abbrev pub JudgesAlike : Type 0
JudgesAlike = (largest : ℕ) (b : List ℕ) → Bytes b → KeysUpTo largest b → judged_up_to largest b ≡ judged b

-- call 1 never answers 17
abbrev pub NeverLarge : Type 0
NeverLarge = (b : List ℕ) → Bytes b → (judged b).number ≡ 17 → ⊥

-- a table has no other messages
abbrev pub Unique : Type 0
Unique = (b : List ℕ) (ms : Values) (n : ℕ) → Table b ms n → ms ≡ messages b

-- accepted, the place is 0; refused, it is 0 or a record of b
abbrev pub PlacedIn : List ℕ → Outcome → Type 0
PlacedIn b o = (o.number ≡ 0 → o.place ≡ 0) × ((o.place ≡ 0) ⊎ (o.place < records b))

abbrev pub PlaceInTable : Type 0
PlaceInTable = (b : List ℕ) → PlacedIn b (judged b)

-- with a largest key as well
abbrev pub PlaceUpTo : Type 0
PlaceUpTo = (largest : ℕ) (b : List ℕ) → PlacedIn b (judged_up_to largest b)
