-- What a call answers: a refusal number (0 when accepted), a place, and a count.
use Rattle.std.specs.Prelude.{◌≡◌, Result, Ok, Err, ℕ}
use Rattle.value_table.specs.declared.Answer.{Answer}
use Rattle.value_table.specs.declared.TableError.{TableError}
use Rattle.value_table.specs.declared.TableError.TheVariants.{Length, Faulty}
use Rattle.value_table.specs.declared.Fault.{Fault}
use Rattle.value_table.specs.declared.Fault.TheVariants.{Kind, Span, Key, Large, Repeat, Fields, Depth}

pub record Outcome : Type 0 where
  pub number : ℕ
  pub place : ℕ
  pub count : ℕ

abbrev pub accepted : ℕ → Outcome
accepted n = record { number = 0; place = 0; count = n }

abbrev pub refused : ℕ → ℕ → Outcome
refused number place = record { number = number; place = place; count = 0 }

-- the column 'returned' of document 01, and the numbers of changes 2 and 6
abbrev pub number_of_fault : Fault → ℕ
number_of_fault Kind = 3
number_of_fault Span = 4
number_of_fault Key = 5
number_of_fault Large = 17
number_of_fault Repeat = 6
number_of_fault Fields = 15
number_of_fault Depth = 7

-- why call 1 refuses a table
abbrev pub refusal_of : TableError → Outcome
refusal_of Length = refused 1 0
refusal_of (Faulty fault place) = refused (number_of_fault fault) place

-- what a call answers whose errors are refusals of these numbers and places
abbrev pub outcome_by : {E : Type 0} → (E → Outcome) → Result ℕ E → Outcome
outcome_by refusal (Ok count) = accepted count
outcome_by refusal (Err error) = refusal error

-- call 1's answer
abbrev pub outcome_of : Result ℕ TableError → Outcome
outcome_of r = outcome_by refusal_of r

-- the same as three numbers
abbrev pub outcome_of_answer : Answer → Outcome
outcome_of_answer a = record { number = a.number; place = a.place; count = a.count }

-- the three numbers of what a call answers, where R says which those of an error are
abbrev pub Answers : {E : Type 0} → (E → Answer → Type 0) → Result ℕ E → Answer → Type 0
Answers R (Ok count) a = outcome_of_answer a ≡ accepted count
Answers R (Err error) a = R error a
