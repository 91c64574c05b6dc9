-- The records that a reading counts stand in the table.
use mathlib.Core.Path.{◌≡◌, sym, ap, ◌∙◌}
use mathlib.Core.Bool.{Bool, true, false, cond}
use mathlib.Core.List.{List}
use Prim.Native.Nat.{ℕ, ◌*◌, ◌-◌, ◌/◌, ◌≤◌}
use native.Mathlib.Omega.{arith}
use lib.ListN.{length, length-append}
use Rattle.byte_records.specs.Number.{zeros}
use Rattle.value_table.specs.declared.Answer.{Answer}
use Rattle.std.proofs.Common.{Result, Ok, Err}
use Rattle.value_table.specs.Outcome.{outcome_of_answer, Answers}
use Rattle.value_table.specs.Value.{record_size, none, size, encode}
use Rattle.value_table.proofs.TableLayout.{length-encode}
use Rattle.json_theory.specs.Steps.{gap}
use Rattle.json_theory.specs.Book.{bad_book, key_number}
use Rattle.json_theory.specs.Reader.{Reading, fine, fault_at, refused_read, read_of, read_from, bad_lengths, read}
use Rattle.text_reader.specs.declared.call.TextError.{TextError}
use Rattle.text_reader.specs.Answer.{refusal_of_text, outcome_of_text, read_by}

counted-room : (text book : List ℕ) (n : ℕ) → length (read text book n).table ≡ n → record_size * (read text book n).outcome.count ≤ n
unfolding read
counted-room text book n = go (bad_lengths text book n) (bad_book book) (read_from (key_number book) (n / record_size) (gap none) 0 text)
  where
    go : (a b : Bool) (g : Reading) → let r = cond a (refused_read 1 0 n) (cond b (refused_read 14 0 n) (read_of n g)) in
        length r.table ≡ n → record_size * r.outcome.count ≤ n
    go true b g e = omega arith
    go false true g e = omega arith
    go false false (fault_at number place) e = omega arith
    go false false (fine ms) e = omega (arith, e, length-encode ms, length-append (encode ms) (zeros (n - record_size * size ms)))

pub answered-room : (text book table : List ℕ) (n : ℕ) (answer : Answer) (answered : Result ℕ TextError) (R : TextError → Answer → Type 0) → length table ≡ n →
    ((error : TextError) (a : Answer) → R error a → outcome_of_answer a ≡ refusal_of_text error) → Answers R answered answer → read_by answered table ≡ read text book n →
    record_size * answer.count ≤ length table
answered-room text book table n answer answered R len by told e =
    let counted : answer.count ≡ (read text book n).outcome.count = ap (λ o. o.count) (same answered told ∙ ap (λ x. x.outcome) e) in
    omega (arith, len, counted, counted-room text book n (sym (ap (λ x. length x.table) e) ∙ len))
  where
    same : (r : Result ℕ TextError) → Answers R r answer → outcome_of_answer answer ≡ outcome_of_text r
    same (Ok count) h = h
    same (Err error) h = by error answer h
