-- Removal tried on small types, among them the nine records of document 01.
use Rattle.std.specs.Prelude.{◌≡◌, List, [], ◌∷◌, ℕ, ◌*◌}
use Rattle.removal_theory.specs.Encoding.{type_size}
use Rattle.counting_theory.specs.Answers.{Written, turned_down}
use Rattle.removal_theory.specs.Answers.{largest_arena}
use Rattle.removal_theory.specs.Trials.{TypeRecord, type_bytes, nine_by_kind, nine_by_label, longer_first, one_null, expected}
use Rattle.removal.specs.Removed.{removed}

-- {1: null}, one of the three messages of the nine records, and what the two others are under kind and under label
abbrev pub null_in_record : List TypeRecord
null_in_record = (5, 0, 3, 1 ∷ []) ∷ (7, 1, 2, 1 ∷ []) ∷ (1, 0, 1, 1 ∷ []) ∷ []

abbrev pub others_by_kind : List TypeRecord
others_by_kind = (5, 0, 6, 2 ∷ []) ∷ (7, 1, 2, 1 ∷ []) ∷ (3, 0, 1, 1 ∷ []) ∷ (7, 2, 3, 2 ∷ []) ∷ (6, 0, 2, 2 ∷ []) ∷ (3, 0, 1, 2 ∷ []) ∷ []

abbrev pub others_by_label : List TypeRecord
others_by_label =
    (5, 0, 3, 1 ∷ []) ∷ (7, 2, 2, 1 ∷ []) ∷ (6, 0, 1, 1 ∷ [])
    ∷ (5, 0, 6, 1 ∷ []) ∷ (7, 1, 2, 1 ∷ []) ∷ (3, 0, 1, 1 ∷ []) ∷ (7, 2, 3, 1 ∷ []) ∷ (6, 0, 2, 1 ∷ []) ∷ (3, 0, 1, 2 ∷ []) ∷ []

-- n records with no field; and one array with n numbers
abbrev pub empty_records : ℕ → List TypeRecord
empty_records n = (5, 0, 1, n ∷ []) ∷ []

abbrev pub numbers_in_array : ℕ → List TypeRecord
numbers_in_array n = (6, 0, 2, 1 ∷ []) ∷ (3, 0, 1, n ∷ []) ∷ []

abbrev pub tried : List TypeRecord → List TypeRecord → ℕ → ℕ → Written
tried whole part equivalence arena = removed (type_bytes whole) (type_bytes part) equivalence arena

pub record TrialsHold : Type 0 where
  -- one message out of three
  pub kind : tried nine_by_kind null_in_record 0 largest_arena ≡ expected 0 0 6 others_by_kind
  pub label : tried nine_by_label null_in_record 1 largest_arena ≡ expected 0 0 9 others_by_label
  -- 11 goes by the result's records, not by the whole's
  pub room : tried nine_by_kind null_in_record 0 (type_size * 6) ≡ expected 0 0 6 others_by_kind
  pub no_room : tried nine_by_kind null_in_record 0 (type_size * 5) ≡ turned_down 11 0
  -- all of it, and nothing
  pub all-by-kind : tried nine_by_kind nine_by_kind 0 0 ≡ expected 0 0 0 []
  pub all-by-label : tried nine_by_label nine_by_label 1 0 ≡ expected 0 0 0 []
  pub nothing : tried nine_by_kind [] 0 largest_arena ≡ expected 0 0 7 nine_by_kind
  -- 8 and 9: the longer key list comes first
  pub ill-formed-whole : tried longer_first one_null 1 largest_arena ≡ turned_down 8 0
  pub ill-formed-part : tried one_null longer_first 1 largest_arena ≡ turned_down 9 0
  -- 16, with room or without: a place that the whole lacks; more of one than it has; what stands inside an array that goes; and under
  -- kind a field that would pass its records
  pub lacking : tried one_null (empty_records 1) 0 0 ≡ turned_down 16 0
  pub from_nothing : tried [] one_null 1 0 ≡ turned_down 16 0
  pub too_many : tried nine_by_kind (empty_records 4) 0 0 ≡ turned_down 16 0
  pub inside : tried (numbers_in_array 5) (numbers_in_array 3) 0 largest_arena ≡ turned_down 16 0
  pub fields : tried nine_by_kind (empty_records 2) 0 largest_arena ≡ turned_down 16 0
