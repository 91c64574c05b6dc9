-- 'Trials at the edges' of document 01: the ten trials marked with a star, key lists in the former order of document 02's change 9, and
-- array lengths of its change 10, as one table with one claim over it.
use Rattle.std.specs.Prelude.{◌≡◌, ℕ, ◌*◌}
use mathlib.Core.List.{List, [], ◌∷◌, flat_map}
use Rattle.value_table.specs.Value as table
use Rattle.counting_theory.specs.Payload.{of_numbers}
use Rattle.counting_theory.specs.Encoding.{type_size, header}
use Rattle.counting_theory.specs.Answers.{Written, largest_arena, inferred, merged}

-- a value record by kind, key and span; a type record by kind, key, span and the numbers of its payload (zero where none is given)
abbrev pub ValueRecord : Type 0
ValueRecord = ℕ × ℕ × ℕ

abbrev pub TypeRecord : Type 0
TypeRecord = ℕ × ℕ × ℕ × List ℕ

unfoldable pub table_bytes : List ValueRecord → List ℕ
table_bytes records = flat_map (λ r. table.header (record { kind = r.0 }) r.1 r.2) records

unfoldable pub type_bytes : List TypeRecord → List ℕ
type_bytes records = flat_map (λ r. header (record { kind = r.0; key = r.1; keys = [] }) r.2 (of_numbers r.3)) records

-- call 2 on a table, or call 5 on a first and a second type
pub data Tried : Type 0 where
  infer : (source : List ValueRecord) → Tried
  merge : (first second : List TypeRecord) → Tried

-- A call, the equivalences and the arena lengths that it is tried with, and what it gives with each of them: refusal number, place,
-- count, and the type, behind which the arena is zero.
pub data Trial : Type 0 where
  trial : (call : Tried) (equivalences arenas : List ℕ) (number place count : ℕ) (type : List TypeRecord) → Trial

-- both equivalences where a trial names none, and the largest arena where it names none
abbrev pub under_kind : List ℕ
under_kind = 0 ∷ []

abbrev pub under_label : List ℕ
under_label = 1 ∷ []

abbrev pub under_both : List ℕ
under_both = 0 ∷ 1 ∷ []

abbrev pub largest : List ℕ
largest = largest_arena ∷ []

abbrev pub room_for : ℕ → List ℕ
room_for records = type_size * records ∷ []

-- {1: number, 2: [number, number]}, {1: null}, {2: []}: their table, their type under kind, and that under label, in the key lists
-- (1), (2), (1, 2)
abbrev pub nine : List ValueRecord
nine = (5, 0, 5) ∷ (3, 1, 1) ∷ (6, 2, 3) ∷ (3, 0, 1) ∷ (3, 0, 1) ∷ (5, 0, 2) ∷ (1, 1, 1) ∷ (5, 0, 2) ∷ (6, 2, 1) ∷ []

abbrev pub nine_by_kind : List TypeRecord
nine_by_kind = (5, 0, 7, 3 ∷ []) ∷ (7, 1, 3, 2 ∷ []) ∷ (1, 0, 1, 1 ∷ []) ∷ (3, 0, 1, 1 ∷ []) ∷ (7, 2, 3, 2 ∷ []) ∷ (6, 0, 2, 2 ∷ 0 ∷ 2 ∷ []) ∷ (3, 0, 1, 2 ∷ []) ∷ []

abbrev pub nine_by_label : List TypeRecord
nine_by_label =
    (5, 0, 3, 1 ∷ []) ∷ (7, 1, 2, 1 ∷ []) ∷ (1, 0, 1, 1 ∷ [])
    ∷ (5, 0, 3, 1 ∷ []) ∷ (7, 2, 2, 1 ∷ []) ∷ (6, 0, 1, 1 ∷ [])
    ∷ (5, 0, 6, 1 ∷ []) ∷ (7, 1, 2, 1 ∷ []) ∷ (3, 0, 1, 1 ∷ []) ∷ (7, 2, 3, 1 ∷ []) ∷ (6, 0, 2, 1 ∷ 2 ∷ 2 ∷ []) ∷ (3, 0, 1, 2 ∷ []) ∷ []

-- {1: null, 2: null} before {2: null}: by their first keys, but the longer key list first
abbrev pub longer_first : List TypeRecord
longer_first =
    (5, 0, 5, 1 ∷ []) ∷ (7, 1, 2, 1 ∷ []) ∷ (1, 0, 1, 1 ∷ []) ∷ (7, 2, 2, 1 ∷ []) ∷ (1, 0, 1, 1 ∷ [])
    ∷ (5, 0, 3, 1 ∷ []) ∷ (7, 2, 2, 1 ∷ []) ∷ (1, 0, 1, 1 ∷ []) ∷ []

abbrev pub one_null : List TypeRecord
one_null = (1, 0, 1, 1 ∷ []) ∷ []

-- n arrays with m numbers in all, by the shortest and the longest of them; an array with nothing in it; and {1: null} with lengths at
-- the field
abbrev pub arrays : (n m shortest longest : ℕ) → List TypeRecord
arrays n m shortest longest = (6, 0, 2, n ∷ shortest ∷ longest ∷ []) ∷ (3, 0, 1, m ∷ []) ∷ []

abbrev pub empty_array : List TypeRecord
empty_array = (6, 0, 1, 1 ∷ []) ∷ []

abbrev pub lengths_in_field : List TypeRecord
lengths_in_field = (5, 0, 3, 1 ∷ []) ∷ (7, 1, 2, 1 ∷ 1 ∷ 1 ∷ []) ∷ (1, 0, 1, 1 ∷ []) ∷ []

unfoldable pub trials : List Trial
trials =
    trial (infer []) under_both (0 ∷ largest) 0 0 0 []
    ∷ trial (infer nine) under_kind largest 0 0 7 nine_by_kind
    ∷ trial (infer nine) under_label largest 0 0 12 nine_by_label
    ∷ trial (infer nine) under_kind (room_for 6) 11 0 0 []
    ∷ trial (infer nine) under_kind (room_for 7) 0 0 7 nine_by_kind
    ∷ trial (infer ((1, 0, 1) ∷ [])) under_both largest 0 0 1 one_null
    ∷ trial (infer ((1, 0, 2) ∷ [])) under_both largest 4 0 0 []
    ∷ trial (infer ((0, 0, 0) ∷ [])) under_both largest 3 0 0 []
    ∷ trial (infer ((5, 0, 3) ∷ (1, 1, 1) ∷ (3, 1, 1) ∷ [])) under_both largest 6 2 0 []
    ∷ trial (merge one_null []) under_kind largest 0 0 1 one_null
    ∷ trial (merge longer_first one_null) under_label largest 8 0 0 []
    ∷ trial (merge one_null longer_first) under_label largest 9 0 0 []
    ∷ trial (merge (arrays 3 5 1 3) (arrays 3 7 1 3)) under_both largest 0 0 2 (arrays 6 12 1 3)
    ∷ trial (merge (arrays 1 4 4 4) empty_array) under_both largest 0 0 2 (arrays 2 4 0 4)
    ∷ trial (merge (arrays 3 4 1 3) one_null) under_both largest 8 0 0 []
    ∷ trial (merge one_null (arrays 3 8 1 3)) under_both largest 9 0 0 []
    ∷ trial (merge lengths_in_field one_null) under_both largest 8 0 0 []
    ∷ []

-- the working buffer is as long as the arena
abbrev pub written_by : Tried → ℕ → ℕ → Written
written_by (infer source) equivalence arena = inferred (table_bytes source) equivalence arena arena
written_by (merge first second) equivalence arena = merged (type_bytes first) (type_bytes second) equivalence arena

abbrev pub expected : ℕ → ℕ → ℕ → List TypeRecord → Written
expected number place count type = record { outcome = record { number = number; place = place; count = count }; bytes = type_bytes type }

-- P holds of each element
infixr 50 ◌&◌
pub data Every {A : Type 0} (P : A → Type 0) : List A → Type 0 where
  done : Every P []
  ◌&◌ : {x : A} {xs : List A} → P x → Every P xs → Every P (x ∷ xs)

abbrev pub TrialHolds : Trial → Type 0
TrialHolds (trial call equivalences arenas number place count type) =
    Every (λ e. Every (λ n. written_by call e n ≡ expected number place count type) arenas) equivalences

-- the one claim, over the whole table
abbrev pub TrialsHold : Type 0
TrialsHold = Every TrialHolds trials
