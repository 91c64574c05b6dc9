-- Types of the 16-byte records that removal alone works on, written record by record, for its trials: among them the nine records of
-- document 01.
use mathlib.Core.List.{List, [], ◌∷◌, flat_map}
use Rattle.std.specs.Prelude.{ℕ}
use Rattle.removal_theory.specs.Payload.{of_numbers}
use Rattle.removal_theory.specs.Encoding.{header}
use Rattle.counting_theory.specs.Answers.{Written}

-- a type record by kind, key, span and the numbers of its payload (zero where none is given)
abbrev pub TypeRecord : Type 0
TypeRecord = ℕ × ℕ × ℕ × List ℕ

unfoldable pub type_bytes : List TypeRecord → List ℕ
type_bytes records = flat_map (λ r. header (record { kind = r.0; key = r.1; keys = [] }) r.2 (of_numbers r.3)) records

-- {1: number, 2: [number, number]}, {1: null}, {2: []}: their type under kind, and that under label, in the key lists (1), (2), (1, 2)
abbrev pub nine_by_kind : List TypeRecord
nine_by_kind = (5, 0, 7, 3 ∷ []) ∷ (7, 1, 3, 2 ∷ []) ∷ (1, 0, 1, 1 ∷ []) ∷ (3, 0, 1, 1 ∷ []) ∷ (7, 2, 3, 2 ∷ []) ∷ (6, 0, 2, 2 ∷ []) ∷ (3, 0, 1, 2 ∷ []) ∷ []

abbrev pub nine_by_label : List TypeRecord
nine_by_label =
    (5, 0, 3, 1 ∷ []) ∷ (7, 1, 2, 1 ∷ []) ∷ (1, 0, 1, 1 ∷ [])
    ∷ (5, 0, 3, 1 ∷ []) ∷ (7, 2, 2, 1 ∷ []) ∷ (6, 0, 1, 1 ∷ [])
    ∷ (5, 0, 6, 1 ∷ []) ∷ (7, 1, 2, 1 ∷ []) ∷ (3, 0, 1, 1 ∷ []) ∷ (7, 2, 3, 1 ∷ []) ∷ (6, 0, 2, 1 ∷ []) ∷ (3, 0, 1, 2 ∷ []) ∷ []

-- {1: null, 2: null} before {2: null}: by their first keys, but the longer key list first
abbrev pub longer_first : List TypeRecord
longer_first =
    (5, 0, 5, 1 ∷ []) ∷ (7, 1, 2, 1 ∷ []) ∷ (1, 0, 1, 1 ∷ []) ∷ (7, 2, 2, 1 ∷ []) ∷ (1, 0, 1, 1 ∷ [])
    ∷ (5, 0, 3, 1 ∷ []) ∷ (7, 2, 2, 1 ∷ []) ∷ (1, 0, 1, 1 ∷ []) ∷ []

abbrev pub one_null : List TypeRecord
one_null = (1, 0, 1, 1 ∷ []) ∷ []

abbrev pub expected : ℕ → ℕ → ℕ → List TypeRecord → Written
expected number place count type = record { outcome = record { number = number; place = place; count = count }; bytes = type_bytes type }
