-- What an exported call leaves: its three numbers with the arena and the working buffer, maybe with entries too, or with the table.
use Rattle.std.specs.Prelude.{List, ℕ}
use Rattle.value_table.specs.declared.Answer.{Answer}
use Rattle.value_table.specs.Outcome.{outcome_of_answer}
use Rattle.counting_theory.specs.Answers.{Left}
use Rattle.json_theory.specs.Reader.{Read}
use Rattle.tag_bus.specs.TagBus.{LeftWithEntries}

abbrev pub answer_left : Answer → List ℕ → List ℕ → Left
answer_left answer arena work = record { outcome = outcome_of_answer answer; arena = arena; work = work }

abbrev pub answer_left_with_entries : Answer → List ℕ → List ℕ → List ℕ → LeftWithEntries
answer_left_with_entries answer arena work entries = record { left = answer_left answer arena work; entries = entries }

abbrev pub answer_read : Answer → List ℕ → Read
answer_read answer table = record { outcome = outcome_of_answer answer; table = table }
