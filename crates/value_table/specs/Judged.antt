-- Call 1 of document 01, with refusals 1 and 3 to 7, and 15 and 17 of document 02: a table is judged from record 0 upward, the first
-- record with a fault decides, and at one record the first of 3, 4, 5, 17, 6, 15 and 7.
use Rattle.std.specs.Prelude.{Bool, true, false, cond, not, ◌&&◌, ◌||◌, List, [], ◌∷◌, ◌++◌, ℕ, zero, suc, ◌+◌, ◌%◌, length, eqb, leb, ltb}
use Rattle.value_table.specs.Value.{record_size, max_length, max_depth, max_key, max_fields, record_kind, array_kind, last_scalar, records, head_at, kind_at, zero_at, key_at, span_at, member, Values, none, value}
use Rattle.value_table.specs.Outcome.{Outcome, accepted, refused}

-- A value whose content is being passed: its kind, the record after its last, and the keys of its fields or elements so far.
pub record Open : Type 0 where
  pub kind : ℕ
  pub end : ℕ
  pub keys : List ℕ

-- `around` holds the open values around a record, the innermost first, which is its parent; a message has none.
-- Where the parent ends, or else the table of n records; whether the parent is a record; which keys it has had
abbrev pub end_of : ℕ → List Open → ℕ
end_of n [] = n
end_of n (o ∷ os) = o.end

abbrev pub in_record : List Open → Bool
in_record [] = false
in_record (o ∷ os) = eqb o.kind record_kind

abbrev pub seen : List Open → List ℕ
seen [] = []
seen (o ∷ os) = o.keys

-- 1: a length that is no multiple of the record size, or above the limit
unfoldable pub bad_length : ℕ → Bool
bad_length n = not (eqb (n % record_size) 0) || ltb max_length n

-- 3: kind not 1 to 6, or byte 1 not zero
unfoldable pub bad_kind : List ℕ → ℕ → Bool
bad_kind b i = not (leb 1 (kind_at b i) && leb (kind_at b i) array_kind) || not (eqb (zero_at b i) 0)

-- 4: span 0; span beyond the end of its parent or of the table; kind 1 to 4 with span over 1
unfoldable pub bad_span : List ℕ → ℕ → ℕ → Bool
bad_span b i end = eqb (span_at b i) 0 || ltb end (i + span_at b i) || (leb (kind_at b i) last_scalar && ltb 1 (span_at b i))

-- 5: key 0 in a field, or not 0 elsewhere
unfoldable pub bad_key : List ℕ → ℕ → Bool → Bool
bad_key b i field = cond field (eqb (key_at b i) 0) (not (eqb (key_at b i) 0))

-- 17: the key of a field above the largest one, where a call sets one
unfoldable pub too_large : ℕ → List ℕ → ℕ → Bool → Bool
too_large largest b i field = field && ltb largest (key_at b i)

-- 6: a key seen earlier in the same record
unfoldable pub repeated : List ℕ → ℕ → Bool → List ℕ → Bool
repeated b i field before = field && member (key_at b i) before

-- 15: the 257th field of a record
unfoldable pub too_many : Bool → ℕ → Bool
too_many field before = field && leb max_fields before

-- 7: depth 33
unfoldable pub too_deep : ℕ → Bool
too_deep depth = ltb max_depth depth

-- the first of these whose condition holds of record i, or 0
unfoldable pub fault : ℕ → List ℕ → ℕ → ℕ → Bool → List ℕ → ℕ → ℕ
fault largest b i end field before depth =
    cond (bad_kind b i) 3
    (cond (bad_span b i end) 4
    (cond (bad_key b i field) 5
    (cond (too_large largest b i field) 17
    (cond (repeated b i field before) 6
    (cond (too_many field (length before)) 15
    (cond (too_deep depth) 7
    0))))))

-- the same inside the open values around record i
unfoldable pub fault_in : ℕ → List ℕ → ℕ → List Open → ℕ
fault_in largest b i around = fault largest b i (end_of (records b) around) (in_record around) (seen around) (suc (length around))

-- the values that are still open at record i
unfoldable pub close : ℕ → List Open → List Open
close i [] = []
close i (o ∷ os) = cond (leb o.end i) (close i os) (o ∷ os)

abbrev pub with_key : ℕ → List Open → List Open
with_key key [] = []
with_key key (o ∷ os) = record { kind = o.kind; end = o.end; keys = o.keys ++ (key ∷ []) } ∷ os

-- record i opens a value in its parent
unfoldable pub enter : List ℕ → ℕ → List Open → List Open
enter b i around = record { kind = kind_at b i; end = i + span_at b i; keys = [] } ∷ with_key (key_at b i) around

abbrev pub messages_in : List Open → ℕ
messages_in [] = 1
messages_in (o ∷ os) = 0

-- the first record with a fault decides: fault f at record i, or else what the records after it give
abbrev pub decide : ℕ → ℕ → Outcome → Outcome
decide zero i later = later
decide (suc f) i later = refused (suc f) i

-- The last k records of b, from record i on, after `messages` messages.
unfoldable pub walk : ℕ → List ℕ → ℕ → ℕ → List Open → ℕ → Outcome
walk largest b zero i around messages = accepted messages
walk largest b (suc k) i around messages =
    decide (fault_in largest b i (close i around)) i (walk largest b k (i + 1) (enter b i (close i around)) (messages + messages_in (close i around)))

-- a table whose fields have keys up to `largest`
unfoldable pub judged_up_to : ℕ → List ℕ → Outcome
judged_up_to largest b = cond (bad_length (length b)) (refused 1 0) (walk largest b (records b) 0 [] 0)

-- call 1: every key that two bytes hold is allowed, so that it is never 17 (`NeverLarge`)
unfoldable pub judged : List ℕ → Outcome
judged b = judged_up_to max_key b

-- The values of records i to end, read by the spans; k bounds the number of records.
unfoldable pub decode : List ℕ → ℕ → ℕ → ℕ → Values
decode b zero i end = none
decode b (suc k) i end =
    elim (ltb i end) [
      | true ↦ value (head_at b i) (key_at b i) (decode b k (i + 1) (i + span_at b i)) (decode b k (i + span_at b i) end)
      | false ↦ none
    ]

-- the messages of an accepted table
unfoldable pub messages : List ℕ → Values
messages b = decode b (records b) 0 (records b)
