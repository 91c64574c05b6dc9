-- The trials hold, by computation.
use mathlib.Core.Path.{refl}
use mathlib.Core.List.{map}
use Rattle.byte_records.specs.Number.{same_bytes}
use Rattle.value_table.specs.Value as table
use Rattle.value_table.specs.Judged.{bad_length}
use Rattle.json_theory.specs.Book as books
use Rattle.json_theory.specs.Parts as parts
use Rattle.json_theory.specs.Steps as steps
use Rattle.json_theory.specs.Reader as reader
use Rattle.json_theory.specs.Trials.{trials, TrialsHold}

pub trials-hold : TrialsHold
unfolding trials map same_bytes bad_length table.size table.count table.keys table.member table.join_values
    books.key_of books.all_zero books.padded books.before books.keys_from books.good_from books.ascending books.bad_book_length books.bad_book books.place_of books.key_number
    parts.next_in_string parts.next_in_number parts.may_end parts.start
    steps.begin steps.item steps.behind_comma steps.shut steps.step_after steps.step_literal steps.key_turn steps.string_turn steps.number_turn steps.step
    reader.depth reader.written reader.value_fault reader.listed_fault reader.key_fault reader.key_ends reader.limit_fault reader.read_from reader.read
trials-hold = refl
