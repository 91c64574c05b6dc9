-- A reading and an inference, one after the other: the type is the profile of the text's messages.
use Rattle.std.specs.Prelude.{◌≡◌, false, List, ℕ, ◌*◌, take}
use Rattle.byte_records.specs.Number.{Bytes}
use Rattle.value_table.specs.Value.{Values, record_size}
use Rattle.json_theory.specs.Grammar.{Text}
use Rattle.json_theory.specs.Book.{key_number}
use Rattle.json_theory.specs.Reader.{Read, read}
use Rattle.counting_theory.specs.declared.equivalence.Equivalence.{Equivalence}
use Rattle.counting_theory.specs.Raw.{profile_of}
use Rattle.counting_theory.specs.WellFormed.{bad_type_length}
use Rattle.counting_theory.specs.Answers.{equivalence_number, inferred, stored}

-- the records that a reading has written
abbrev pub written_records : Read → List ℕ
written_records r = take (record_size * r.outcome.count) r.table

-- where the text is accepted: no refusal but for room, and no other messages than those of the grammar
abbrev pub TextProfile : Type 0
TextProfile = (text book : List ℕ) (n arena : ℕ) (e : Equivalence) (ms : Values) → Bytes text → (read text book n).outcome.number ≡ 0 →
    Text (key_number book) text ms → bad_type_length arena ≡ false →
    inferred (written_records (read text book n)) (equivalence_number e) arena arena ≡ stored arena (profile_of e ms)
