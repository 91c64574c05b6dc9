-- The answer and the front of the table before the rest is cleared, case by case, and what clearing makes of them.
use mathlib.Core.Path.{◌≡◌, refl, sym, ◌∙◌, ap}
use mathlib.Core.Bool.{true, false, not, ◌||◌}
use mathlib.Core.List.{List, ◌++◌}
use Prim.Native.Nat.{ℕ, ◌*◌, ◌-◌, ◌/◌, ◌%◌, ◌≤◌}
use lib.Dec.{eqb, ltb}
use native.Mathlib.Omega.{arith}
use borrow.Author.Tests.{ltb-false}
use Rattle.byte_records.proofs.Tests.{or_parts}
use lib.ListN.{length, take, take-append-drop, length-append}
use lib.Seq.{take_at, drop_at}
use Rattle.byte_records.specs.Number.{zeros}
use Rattle.value_table.specs.Value.{record_size, max_length, none, size, encode}
use Rattle.value_table.specs.Outcome.{accepted}
use Rattle.text_reader.specs.Inside.Progress.{reads_from}
use Rattle.value_table.proofs.TableLayout.{length-encode, length-fits}
use Rattle.json_theory.specs.Steps.{gap}
use Rattle.json_theory.specs.Book.{book_size, bad_book, bad_book_length}
use Rattle.value_table.specs.Judged.{bad_length}
use Rattle.json_theory.specs.Reader.{Read, Reading, fine, refused_read, read_of, bad_lengths, read}
use Rattle.text_reader.specs.Answer.{outcome_of_text, read_by}
use Rattle.text_reader.specs.Inside.Laid.{laid}
use Rattle.text_reader.specs.Inside.Items.{AllRead, ReadInFront}
use Rattle.std.proofs.Common.{Option, Some, None, Result, Ok, Err}
use Rattle.std.specs.Option.{ok_or}
use Rattle.key_book.specs.Inside.Records.{MadeOf}
use Rattle.text_reader.specs.declared.call.TextError.{TextError}
use Rattle.text_reader.specs.declared.call.TextError.TheVariants.{Book}

-- a refusal leaves nothing in front
pub refused-front : (r : Read) (number place : ℕ) (answer : Result ℕ TextError) (table : List ℕ) (n : ℕ) → length table ≡ n → r ≡ refused_read number place n →
    outcome_of_text answer ≡ (refused_read number place n).outcome → ReadInFront r answer table
refused-front r number place answer table n len e o =
    let z : n ≡ length table - 0 = omega arith in
    rw e (record { outcome = o; front = refl; room = omega arith; rest = ap zeros z })

-- the messages stand in front
pub taken-front : (r : Read) (n : ℕ) (text book table : List ℕ) (room count : ℕ) (a : AllRead text book table room count) → length table ≡ n →
    r ≡ read_of n (fine a.messages) → ReadInFront r (Ok count) table
unfolding laid
taken-front r n text book table room count a len e =
    let ms = a.messages in
    let h = a.holds in
    let k = length-encode ms in
    rw e (record {
      outcome = ap (λ c. accepted c) (sym a.counted);
      front = rw h.bytes (take_at (encode ms) h.rest (record_size * size ms) k) ∙ sym (take_at (encode ms) _ (record_size * size ms) k);
      room = omega (arith, k, ap length h.bytes, length-append (encode ms) h.rest);
      rest = drop_at (encode ms) _ (record_size * size ms) k ∙ ap (λ m. zeros (m - record_size * size ms)) (sym len);
    })

-- clearing the rest gives the table
pub front_read : (r : Read) (answer : Result ℕ TextError) (table table' : List ℕ) → ReadInFront r answer table →
    table' ≡ take (record_size * r.outcome.count) table ++ zeros (length table - record_size * r.outcome.count) → read_by answer table' ≡ r
front_read r answer table table' h e =
    let k = record_size * r.outcome.count in
    let t : table' ≡ r.table = e ∙ rw (h.front, ← h.rest) (take-append-drop k r.table) in
    λ i. record { outcome = h.outcome i; table = t i }

-- which of the cases of `read` holds
pub read-lengths : (text book : List ℕ) (n : ℕ) → bad_lengths text book n ≡ true → read text book n ≡ refused_read 1 0 n
unfolding read
read-lengths text book n h = rw h refl

pub read-book : (text book : List ℕ) (n : ℕ) → bad_lengths text book n ≡ false → bad_book book ≡ true → read text book n ≡ refused_read 14 0 n
unfolding read
read-book text book n h b = rw (h, b) refl

pub read_whole : (text book : List ℕ) (n : ℕ) (g : Reading) → bad_lengths text book n ≡ false → bad_book book ≡ false → reads_from text book (n / record_size) (gap none) 0 ≡ g →
    read text book n ≡ read_of n g
unfolding read
read_whole text book n g h b e = rw (h, b) (ap (read_of n) e)

pub lengths-low : (text book : List ℕ) (n : ℕ) → bad_lengths text book n ≡ false → (length text ≤ max_length) × (length book ≤ max_length) × (n ≤ max_length)
unfolding bad_book_length
lengths-low text book n h =
    let p = or_parts (ltb max_length (length text) || bad_book_length (length book)) (bad_length n) h in
    let q = or_parts (ltb max_length (length text)) (bad_book_length (length book)) p.0 in
    let b = or_parts (not (eqb (length book % book_size) 0)) (ltb max_length (length book)) q.1 in
    (ltb-false max_length (length text) q.0, ltb-false max_length (length book) b.1, ((length-fits n).0 p.1).1)

-- a book that is made is good, and one that is not is bad
pub made : (b : List ℕ) (found : Option (List ℕ)) (book : List ℕ) → MadeOf b found → found ≡ Some book → (book ≡ b) × (bad_book b ≡ false)
made b None book m e = absurd (cc)
made b (Some x) book m e = let z : x ≡ book = cc in rw z at m

pub not-made : (b : List ℕ) (found : Option (List ℕ)) (error : TextError) → MadeOf b found → ok_or found Book ≡ Err error → (bad_book b ≡ true) × (error ≡ Book)
not-made b None error m e = let z : Book ≡ error = cc in (m, sym z)
not-made b (Some x) error m e = absurd (cc)
