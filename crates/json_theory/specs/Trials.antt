-- Texts at the edges as one table, and one claim over the table.
use Rattle.std.specs.Prelude.{◌≡◌, List, [], ◌∷◌, ◌++◌, map, ℕ, ◌*◌, ◌-◌, length, replicate}
use Prim.Native.Char.{code}
use Prim.Native.String.{String, [] as empty, ◌∷◌ as ◌then◌}
use Rattle.byte_records.specs.Number.{zeros}
use Rattle.value_table.specs.Value.{record_size}
use Rattle.value_table.specs.Outcome.{Outcome, accepted, refused}
use Rattle.json_theory.specs.Book.{book_size}
use Rattle.json_theory.specs.Reader.{read}

abbrev pub bytes : String → List ℕ
bytes empty = []
bytes (c then s) = code c ∷ bytes s

-- a book of three keys, the last of which is spelled with a \
abbrev pub key_record : List ℕ → List ℕ
key_record key = key ++ zeros (book_size - length key)

abbrev pub book : List ℕ
book = key_record (bytes "lane") ++ (key_record (bytes "weights") ++ key_record (bytes "x\\n"))

-- a text, the value records that the table has room for, and what the call answers
pub record Trial : Type 0 where
  pub text : List ℕ
  pub room : ℕ
  pub answer : Outcome

abbrev pub spelled : String → Outcome → Trial
spelled s answer = record { text = bytes s; room = 100; answer = answer }

abbrev pub quoted : List ℕ → Outcome → Trial
quoted s answer = record { text = 0x22 ∷ s; room = 100; answer = answer }

abbrev pub in_room : ℕ → List ℕ → Outcome → Trial
in_room room text answer = record { text = text; room = room; answer = answer }

unfoldable pub trials : List Trial
trials =
    spelled "" (accepted 0)
    ∷ spelled "{} [] 1 " (accepted 3)
    ∷ spelled "{}{}" (refused 12 2)
    ∷ spelled "1" (refused 12 1)
    ∷ spelled "01 " (refused 12 1)
    ∷ spelled "1. " (refused 12 2)
    ∷ spelled "1e " (refused 12 2)
    ∷ spelled "- " (refused 12 1)
    ∷ spelled "-0.5e+7 " (accepted 1)
    ∷ spelled "nulx" (refused 12 3)
    ∷ spelled "[1,] " (refused 12 3)
    ∷ spelled "[1} " (refused 12 2)
    ∷ spelled "\"\\uD800\\udfFf\" " (accepted 1)
    ∷ spelled "\"\\uD80g" (refused 12 6)
    ∷ quoted (0x01 ∷ []) (refused 12 1)
    ∷ quoted (0x7F ∷ 0x22 ∷ 0x20 ∷ []) (accepted 1)
    ∷ quoted (0xC1 ∷ []) (refused 12 1)
    ∷ quoted (0xE0 ∷ 0x80 ∷ []) (refused 12 2)
    ∷ quoted (0xED ∷ 0xA0 ∷ []) (refused 12 2)
    ∷ quoted (0xF0 ∷ 0x80 ∷ []) (refused 12 2)
    ∷ quoted (0xF4 ∷ 0x90 ∷ []) (refused 12 2)
    ∷ quoted (0xE0 ∷ 0xA0 ∷ 0x80 ∷ 0xF4 ∷ 0x8F ∷ 0xBF ∷ 0xBF ∷ 0x22 ∷ 0x20 ∷ []) (accepted 1)
    ∷ in_room 100 (0xEF ∷ 0xBB ∷ 0xBF ∷ []) (refused 12 0)
    ∷ spelled "{\"lane\":1,\"weights\":[1,{\"lane\":2}]} " (accepted 6)
    ∷ spelled "{\"lan\":1} " (refused 13 5)
    ∷ spelled "{\"lan\\u0065\":1} " (refused 13 11)
    ∷ spelled "{\"x\\n\":1} " (refused 13 5)
    ∷ spelled "{\"lane\":1,\"lane\":2} " (refused 6 15)
    ∷ in_room 1 (bytes "[1] ") (refused 11 1)
    ∷ in_room 1 (bytes "[] ") (accepted 1)
    ∷ in_room 32 (replicate 32 0x5B ++ (replicate 32 0x5D ++ (0x20 ∷ []))) (accepted 32)
    ∷ in_room 32 (replicate 32 0x5B ++ (0x5B ∷ [])) (refused 7 32)
    ∷ []

-- the one claim, over the whole table
abbrev pub TrialsHold : Type 0
TrialsHold = map (λ t. (read t.text book (record_size * t.room)).outcome) trials ≡ map (λ t. t.answer) trials
