-- The promises hold.
use mathlib.Core.Path.{◌≡◌, refl, ◌∙◌, ap, subst}
use mathlib.Core.Bool.{Bool, true, false, cond, not, ◌||◌}
use mathlib.Core.List.{List, [], ◌∷◌, ◌++◌}
use Prim.Native.Nat.{ℕ, zero, suc, ◌+◌, ◌/◌, ◌%◌, ◌≤◌, ◌<◌}
use native.Mathlib.Nat.{mod-lt}
use native.Mathlib.Omega.{arith}
use lib.Dec.{lit<, ltb, eqb}
use lib.ListN.{length, get_or, drop}
use borrow.Author.Tests.{ltb-false}
use Rattle.byte_records.specs.Number.{Bytes, bytes_of}
use Rattle.byte_records.specs.Format.{record_bytes}
use Rattle.value_table.specs.Value.{Values, none, value, size, count, encode, header, record_size, value_format, record_numbers, max_length}
use Rattle.value_table.specs.Judged.{bad_length}
use Rattle.value_table.specs.Acceptance.{Table}
use Rattle.value_table.proofs.Acceptance.{accepts, unique}
use Rattle.byte_records.proofs.Tests.{or_parts}
use Rattle.json_theory.specs.Steps.{gap}
use Rattle.json_theory.specs.Book.{bad_book_length, bad_book, key_number, book_size}
use Rattle.json_theory.specs.Reader.{Reading, fine, fault_at, read_from, Read, refused_read, read_of, bad_lengths, read}
use Rattle.json_theory.specs.Promises.{ReadsText, ReadsOnlyText, OneReading, ReadsTables, NumbersKeys, TwelveMeans}
use Rattle.json_theory.proofs.Book.{number_small, key-number}
use Rattle.json_theory.proofs.Whole.{AllBytes, text-unique}
use Rattle.json_theory.proofs.Octets.{append-bytes, text-bytes}
use Rattle.json_theory.proofs.Readings.{reads}
use Rattle.json_theory.proofs.Refusals.{twelve, refused-at, refused-positive}

pub all-bytes : (s : List ℕ) → Bytes s → AllBytes s
all-bytes [] h = tt
all-bytes (c ∷ s) h = (h 0, all-bytes s (λ p. h (suc p)))

bytes-all : (s : List ℕ) → AllBytes s → Bytes s
bytes-all [] h p = lit< tt
bytes-all (c ∷ s) h zero = h.0
bytes-all (c ∷ s) h (suc p) = bytes-all s h.1 p

-- the lengths that 1 lets pass
pub lengths-fit : (text book : List ℕ) (n : ℕ) → bad_lengths text book n ≡ false → (length book ≤ max_length) × (n ≤ max_length)
unfolding bad_book_length bad_length
lengths-fit text book n h =
    let p = or_parts (ltb max_length (length text) || bad_book_length (length book)) (bad_length n) h in
    let q = or_parts (ltb max_length (length text)) (bad_book_length (length book)) p.0 in
    let r = or_parts (not (eqb (length book % book_size) 0)) (ltb max_length (length book)) q.1 in
    let t = or_parts (not (eqb (n % record_size) 0)) (ltb max_length n) p.1 in
    (ltb-false max_length (length book) r.1, ltb-false max_length n t.1)

module _ (text book : List ℕ) (n : ℕ) where
  reading : Reading
  reading = read_from (key_number book) (n / record_size) (gap none) 0 text

  -- behind 1 and 14
  read_is : bad_lengths text book n ≡ false → bad_book book ≡ false → read text book n ≡ read_of n reading
  unfolding read reading
  read_is a b = rw (a, b) refl

  -- a read with another number than 1 and 14
  passed : (x y : Bool) (r : Read) → ((cond x (refused_read 1 0 n) (cond y (refused_read 14 0 n) r)).outcome.number ≡ 1 → ⊥) →
      ((cond x (refused_read 1 0 n) (cond y (refused_read 14 0 n) r)).outcome.number ≡ 14 → ⊥) → (x ≡ false) × (y ≡ false)
  passed true y r f g = absurd (f refl)
  passed false true r f g = absurd (g refl)
  passed false false r f g = (refl, refl)

  read-passed : ((read text book n).outcome.number ≡ 1 → ⊥) → ((read text book n).outcome.number ≡ 14 → ⊥) → (bad_lengths text book n ≡ false) × (bad_book book ≡ false)
  unfolding read
  read-passed f g = passed (bad_lengths text book n) (bad_book book) _ f g

pub reads-text : ReadsText
unfolding reading
reads-text text book n ms b h =
    let l = lengths-fit text book n h.lengths in
    let r : reading text book n ≡ fine ms =
    (reads (key_number book) (n / record_size) (number_small book l.0) text ms (all-bytes text b)).1 (h.grammar, h.valid, omega (arith, h.room)) in
    read_is text book n h.lengths h.book-good ∙ ap (read_of n) r

-- a refusal's number is not 0
reading-zero : (text book : List ℕ) (n : ℕ) (r : Reading) → reading text book n ≡ r → (read_of n r).outcome.number ≡ 0 → (ms : Values) × (r ≡ fine ms)
unfolding reading
reading-zero text book n (fine ms) e h = (ms, refl)
reading-zero text book n (fault_at number place) e h =
    let r = refused-at (key_number book) (n / record_size) (gap none) 0 text number place refl e in
    absurd (omega (arith, refused-positive (key_number book) (n / record_size) (gap none) 0 text number place r))

pub reads-only-text : ReadsOnlyText
unfolding reading
reads-only-text text book n b h =
    let p = read-passed text book n (λ e. omega arith) (λ e. omega arith) in
    let l = lengths-fit text book n p.0 in
    let x = reading-zero text book n (reading text book n) refl (rw (read_is text book n p.0 p.1) at h) in
    let r = (reads (key_number book) (n / record_size) (number_small book l.0) text x.0 (all-bytes text b)).0 x.1 in
    (x.0, record { lengths = p.0; book-good = p.1; grammar = r.0; valid = r.1; room = omega (arith, r.2) })

pub one-reading : OneReading
one-reading name text ms vs h k = let b = text-bytes name h in (text-unique name text ms vs b h k, bytes-all text b)

pub numbers-keys : NumbersKeys
numbers-keys = key-number

-- values are encoded in bytes
number-bytes : (w n : ℕ) → AllBytes (bytes_of w n)
unfolding bytes_of
number-bytes zero n = tt
number-bytes (suc w) n = (mod-lt n (lit< tt), number-bytes w (n / 256))

record-bytes : (format ns : List ℕ) → AllBytes (record_bytes format ns)
unfolding record_bytes
record-bytes [] ns = tt
record-bytes (w ∷ ws) ns = append-bytes (bytes_of w (get_or ns 0 0)) (record_bytes ws (drop 1 ns)) (number-bytes w (get_or ns 0 0)) (record-bytes ws (drop 1 ns))

encode-bytes : (vs : Values) → AllBytes (encode vs)
unfolding encode header
encode-bytes none = tt
encode-bytes (value head key c s) =
    append-bytes (header head key (1 + size c)) (encode c ++ encode s) (record-bytes value_format (record_numbers head key (1 + size c)))
    (append-bytes (encode c) (encode s) (encode-bytes c) (encode-bytes s))

pub reads-tables : ReadsTables
reads-tables text book n ms h =
    let l = lengths-fit text book n h.lengths in
    let t : Table (encode ms) ms (count ms) = record { bytes = refl; valid = h.valid; room = omega (arith, h.room); counted = refl } in
    let e = unique (encode ms) ms (count ms) t in (
      t,
      (accepts (encode ms) (count ms) (bytes-all (encode ms) (encode-bytes ms))).1
          (subst (λ (vs : Values). Table (encode ms) vs (count ms)) e t),
    )

-- any other refusal than 1 and 14 is that of the reading
pub reading-fault : (text book : List ℕ) (n f : ℕ) → 1 < f → (f ≡ 14 → ⊥) → (read text book n).outcome.number ≡ f →
    (bad_lengths text book n ≡ false) × (read_from (key_number book) (n / record_size) (gap none) 0 text ≡ fault_at f (read text book n).outcome.place)
unfolding reading
reading-fault text book n f l x h =
    let p = read-passed text book n (λ e. omega arith) (λ e. x (omega arith)) in
    let q = read_is text book n p.0 p.1 in
    (p.0, rw q (look (reading text book n) (rw q at h)))
  where
    look : (r : Reading) → (read_of n r).outcome.number ≡ f → r ≡ fault_at f (read_of n r).outcome.place
    look (fine ms) k = absurd (omega arith)
    look (fault_at number place) k = ap (λ (m : ℕ). fault_at m place) k

pub twelve-means : TwelveMeans
twelve-means text book n b h =
    twelve (key_number book) (n / record_size) text _ (all-bytes text b) (reading-fault text book n 12 (omega arith) (λ e. omega arith) h).1
