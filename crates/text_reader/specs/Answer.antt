-- What the call that reads a text answers and leaves, by document 02's numbers.
use Rattle.std.specs.Prelude.{List, ℕ, Result}
use Rattle.value_table.specs.Outcome.{Outcome, refused, outcome_by}
use Rattle.json_theory.specs.Reader.{Read}
use Rattle.text_reader.specs.declared.fault.TextFault.{TextFault}
use Rattle.text_reader.specs.declared.fault.TextFault.TheVariants.{Grammar, Unlisted, Repeated, Fields, Deep, Full}
use Rattle.text_reader.specs.declared.call.TextError.{TextError}
use Rattle.text_reader.specs.declared.call.TextError.TheVariants.{Length, Book, Text}

-- the refusal numbers of document 02
abbrev pub number_of_text_fault : TextFault → ℕ
number_of_text_fault Grammar = 12
number_of_text_fault Unlisted = 13
number_of_text_fault Repeated = 6
number_of_text_fault Fields = 15
number_of_text_fault Deep = 7
number_of_text_fault Full = 11

-- and the place
abbrev pub refusal_of_text : TextError → Outcome
refusal_of_text Length = refused 1 0
refusal_of_text Book = refused 14 0
refusal_of_text (Text faulty) = refused (number_of_text_fault faulty.why) faulty.at

abbrev pub outcome_of_text : Result ℕ TextError → Outcome
outcome_of_text answered = outcome_by refusal_of_text answered

-- what the call leaves: its answer, and the table
abbrev pub read_by : Result ℕ TextError → List ℕ → Read
read_by answered table = record { outcome = outcome_of_text answered; table = table }
