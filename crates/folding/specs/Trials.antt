-- Folding tried on small types, among them the nine records of document 01.
use Rattle.std.specs.Prelude.{◌≡◌, List, [], ◌∷◌, ℕ, ◌+◌, ◌*◌, ◌-◌, ◌/◌}
use Rattle.counting_theory.specs.Encoding.{type_size}
use Rattle.counting_theory.specs.WellFormed.{max_total}
use Rattle.counting_theory.specs.Answers.{Written, turned_down, largest_arena}
use Rattle.counting_theory.specs.Trials.{TypeRecord, type_bytes, nine_by_kind, nine_by_label, longer_first, one_null, expected}
use Rattle.folding.specs.Folded.{folded, folded_in}

-- n times {1: [..]}, whose arrays have m numbers in all, and once {1: [3], 2: null}; and a type under kind of n records with one such
-- array each
abbrev pub two_places : (n m shortest longest : ℕ) → List TypeRecord
two_places n m shortest longest =
    (5, 0, 4, n ∷ []) ∷ (7, 1, 3, n ∷ []) ∷ (6, 0, 2, n ∷ shortest ∷ longest ∷ []) ∷ (3, 0, 1, m ∷ [])
    ∷ (5, 0, 6, 1 ∷ []) ∷ (7, 1, 3, 1 ∷ []) ∷ (6, 0, 2, 1 ∷ 1 ∷ 1 ∷ []) ∷ (3, 0, 1, 1 ∷ []) ∷ (7, 2, 2, 1 ∷ []) ∷ (1, 0, 1, 1 ∷ []) ∷ []

abbrev pub one_place : (n m shortest longest : ℕ) → List TypeRecord
one_place n m shortest longest =
    (5, 0, 6, n ∷ []) ∷ (7, 1, 3, n ∷ []) ∷ (6, 0, 2, n ∷ shortest ∷ longest ∷ []) ∷ (3, 0, 1, m ∷ []) ∷ (7, 2, 2, 1 ∷ []) ∷ (1, 0, 1, 1 ∷ []) ∷ []

-- so many arrays that five numbers in each make the largest total
abbrev pub many : ℕ
many = max_total / 5

-- [{}, {1: null}], below a field of a record, and its type under kind: unions below fields and in array contents are folded too
abbrev pub two_inside : List TypeRecord
two_inside =
    (5, 0, 7, 1 ∷ []) ∷ (7, 3, 6, 1 ∷ []) ∷ (6, 0, 5, 1 ∷ 2 ∷ 2 ∷ []) ∷ (5, 0, 1, 1 ∷ []) ∷ (5, 0, 3, 1 ∷ []) ∷ (7, 1, 2, 1 ∷ []) ∷ (1, 0, 1, 1 ∷ []) ∷ []

abbrev pub one_inside : List TypeRecord
one_inside = (5, 0, 6, 1 ∷ []) ∷ (7, 3, 5, 1 ∷ []) ∷ (6, 0, 4, 1 ∷ 2 ∷ 2 ∷ []) ∷ (5, 0, 3, 2 ∷ []) ∷ (7, 1, 2, 1 ∷ []) ∷ (1, 0, 1, 1 ∷ []) ∷ []

abbrev pub tried : List TypeRecord → ℕ → Written
tried type arena = folded_in arena (type_bytes type)

pub record TrialsHold : Type 0 where
  pub nine : tried nine_by_label largest_arena ≡ expected 0 0 7 nine_by_kind
  pub inside : tried two_inside largest_arena ≡ expected 0 0 6 one_inside
  pub nothing : tried [] 0 ≡ expected 0 0 0 []
  pub as-it-is : tried one_null largest_arena ≡ expected 0 0 1 one_null
  -- 11 goes by the folded type's records
  pub room : tried nine_by_label (type_size * 7) ≡ expected 0 0 7 nine_by_kind
  pub no_room : tried nine_by_label (type_size * 6) ≡ turned_down 11 0
  -- 8 for a type that is well formed under kind only, and where the longer key list comes first
  pub kind-only : tried nine_by_kind largest_arena ≡ turned_down 8 0
  pub longer-first : tried longer_first largest_arena ≡ turned_down 8 0
  -- the shortest and the longest array of two key lists
  pub lengths : tried (two_places 2 9 4 5) largest_arena ≡ expected 0 0 6 (one_place 3 10 1 5)
  pub wrong-lengths : tried (two_places 2 9 4 4) largest_arena ≡ turned_down 8 0
  -- the contents of both places add up: to the limit, and above it, with room or without
  pub to-limit : tried (two_places many (max_total - 1) 4 5) largest_arena ≡ expected 0 0 6 (one_place (many + 1) max_total 1 5)
  pub above-limit : tried (two_places many max_total 5 5) largest_arena ≡ turned_down 10 0
  pub above-limit-no-room : tried (two_places many max_total 5 5) 0 ≡ turned_down 10 0
  -- 1: the working buffer is not as long as the arena
  pub work : folded (type_bytes nine_by_label) (type_size * 7) (type_size * 8) ≡ turned_down 1 0
