-- The tag-bus inference tried on small tables, among them the nine records of document 01, as one table with one claim over it.
use Rattle.std.specs.Prelude.{◌≡◌, ℕ, ◌+◌, ◌*◌}
use mathlib.Core.List.{List, [], ◌∷◌, flat_map}
use Rattle.byte_records.specs.Format.{record_bytes}
use Rattle.value_table.specs.Value.{max_length}
use Rattle.counting_theory.specs.Encoding.{type_size}
use Rattle.counting_theory.specs.Answers.{largest_arena}
use Rattle.counting_theory.specs.Trials.{ValueRecord, TypeRecord, table_bytes, nine, nine_by_label, one_null, expected, Every}
use Rattle.tag_bus.specs.Entries.{entry_format, entry_size}
use Rattle.tag_bus.specs.TagBus.{inferred_tag_bus}

-- an entry by its word and its number of fields
abbrev pub Entry : Type 0
Entry = ℕ × ℕ

unfoldable pub entry_bytes : List Entry → List ℕ
entry_bytes es = flat_map (λ e. record_bytes entry_format (e.0 ∷ e.1 ∷ [])) es

-- A table, the lengths of the arena, with its working buffer, and of the entries, and what the call gives: refusal number, place, count,
-- the type and its entries.
pub data Trial : Type 0 where
  trial : (source : List ValueRecord) (arena room number place count : ℕ) (type : List TypeRecord) (entries : List Entry) → Trial

-- the entries of the nine records: the key lists (1), (2), (1, 2)
abbrev pub nine_entries : List Entry
nine_entries = (1, 1) ∷ (2, 1) ∷ (3, 2) ∷ []

-- {64: null}
abbrev pub largest_key : Trial
largest_key =
    trial ((5, 0, 2) ∷ (1, 64, 1) ∷ []) largest_arena max_length 0 0 3 ((5, 0, 3, 1 ∷ []) ∷ (7, 64, 2, 1 ∷ []) ∷ (1, 0, 1, 1 ∷ []) ∷ []) ((9223372036854775808, 1) ∷ [])

unfoldable pub trials : List Trial
trials =
    trial [] 0 0 0 0 0 [] []
    ∷ trial nine largest_arena max_length 0 0 12 nine_by_label nine_entries
    ∷ trial nine (type_size * 12) (entry_size * 3) 0 0 12 nine_by_label nine_entries
    ∷ trial nine (type_size * 11) max_length 11 0 0 [] []
    ∷ trial nine largest_arena (entry_size * 2) 11 0 0 [] []
    ∷ trial nine largest_arena (entry_size * 3 + 8) 1 0 0 [] []
    ∷ trial nine largest_arena (max_length + entry_size) 1 0 0 [] []
    -- no record in the messages
    ∷ trial ((1, 0, 1) ∷ []) largest_arena 0 0 0 1 one_null []
    -- a record without fields, inside another
    ∷ trial ((5, 0, 2) ∷ (5, 2, 1) ∷ []) largest_arena max_length 0 0 3 ((5, 0, 3, 1 ∷ []) ∷ (7, 2, 2, 1 ∷ []) ∷ (5, 0, 1, 1 ∷ []) ∷ []) ((2, 1) ∷ (0, 0) ∷ [])
    ∷ largest_key
    ∷ trial ((5, 0, 2) ∷ (1, 65, 1) ∷ []) largest_arena max_length 17 1 0 [] []
    -- 17 before 6 and 11, and behind 5
    ∷ trial ((5, 0, 3) ∷ (1, 65, 1) ∷ (1, 65, 1) ∷ []) 0 0 17 1 0 [] []
    ∷ trial ((5, 0, 3) ∷ (1, 1, 1) ∷ (1, 1, 1) ∷ []) 0 0 6 2 0 [] []
    ∷ trial ((6, 0, 2) ∷ (1, 65, 1) ∷ []) largest_arena max_length 5 1 0 [] []
    ∷ []

abbrev pub TrialHolds : Trial → Type 0
TrialHolds (trial source arena room number place count type entries) =
    inferred_tag_bus (table_bytes source) arena arena room ≡ record { written = expected number place count type; entries = entry_bytes entries }

-- the one claim, over the whole table
abbrev pub TrialsHold : Type 0
TrialsHold = Every TrialHolds trials
