-- Document 01's number and values for each case of the upper library's answers.
use Rattle.std.specs.Prelude.{List, ℕ, Result}
use Rattle.value_table.specs.Outcome.{Outcome, refused, outcome_by}
use Rattle.value_table.specs.Outcome as table
use Rattle.value_table.specs.declared.TableError.{TableError}
use Rattle.value_table.specs.declared.TableError.TheVariants.{Length as BadLength, Faulty}
use Rattle.counting_theory.specs.Answers.{Left}
use Rattle.answers.specs.declared.Refusal.{Refusal}
use Rattle.answers.specs.declared.Refusal.TheVariants.{Length, Equivalence, Table, First, Second, Total, NotPart, Room}

-- the column 'returned', and the place
abbrev pub refusal_of : Refusal → Outcome
refusal_of Length = refused 1 0
refusal_of Equivalence = refused 2 0
refusal_of (Table fault place) = refused (table.number_of_fault fault) place
refusal_of First = refused 8 0
refusal_of Second = refused 9 0
refusal_of Total = refused 10 0
refusal_of NotPart = refused 16 0
refusal_of Room = refused 11 0

-- the refusal of a table is that of call 1
abbrev pub refusal_of_table : TableError → Refusal
refusal_of_table BadLength = Length
refusal_of_table (Faulty fault place) = Table fault place

-- what a call answers: a number of type records, or why it is refused
abbrev pub outcome_of : Result ℕ Refusal → Outcome
outcome_of answered = outcome_by refusal_of answered

-- what a call leaves: its answer, the arena and the working buffer
abbrev pub left_by : Result ℕ Refusal → List ℕ → List ℕ → Left
left_by answered arena work = record { outcome = outcome_of answered; arena = arena; work = work }
