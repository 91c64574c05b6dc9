-- What the tag-bus inference leaves: first the type and the entries in the fronts of their buffers, then zeros behind them.
use mathlib.Core.Path.{◌≡◌, refl, sym, ap, ◌∙◌}
use mathlib.Core.Bool.{Bool, true, false, cond, ◌||◌}
use mathlib.Core.List.{List, [], ◌++◌}
use Prim.Native.Nat.{ℕ, zero, suc, ◌+◌, ◌-◌, ◌*◌, ◌≤◌, ◌<◌}
use native.Mathlib.Omega.{arith}
use lib.Dec.{ltb}
use lib.ListN.{length, take, length-append, length-take}
use lib.Seq.{sets, take_at}
use borrow.Author.Tests.{lt-ltb, le-ltb}
use Rattle.byte_records.specs.Number.{zeros}
use Rattle.byte_records.proofs.Clear.{cleared_from}
use Rattle.value_table.specs.Value.{max_length, KeysUpTo}
use Rattle.value_table.specs.declared.Fault.TheVariants as faults
use Rattle.value_table.specs.declared.TableError.{TableError}
use Rattle.value_table.specs.declared.TableError.TheVariants.{Length as BadLength, Faulty}
use Rattle.value_table.specs.Outcome.{Outcome, accepted}
use Rattle.value_table.specs.Outcome as table
use Rattle.value_table.specs.Judged.{judged_up_to, messages}
use Rattle.counting_theory.specs.Trie.{size}
use Rattle.counting_theory.specs.Label.{CountingType}
use Rattle.counting_theory.specs.declared.equivalence.Equivalence.TheVariants.{Label as by_label}
use Rattle.counting_theory.specs.Raw.{profile_of}
use Rattle.counting_theory.specs.Encoding.{type_size, encode}
use Rattle.counting_theory.specs.Answers.{bad_buffers}
use Rattle.counting_theory.proofs.Encoding.Header.{length-encode}
use Rattle.counting_theory.proofs.Tagged.Profile.{tagged-profile}
use Rattle.std.specs.Prelude.{Result, Ok, Err}
use Rattle.std.specs.Result.{result_unwrap_or}
use Rattle.answers.specs.declared.Refusal.{Refusal}
use Rattle.answers.specs.Outcomes.{refusal_of_table}
use Rattle.answers.proofs.Exact.{Exact}
use Rattle.answers.proofs.Fronts.{refused_by, front-refused, front-cleared, sets-front}
use Rattle.inference.specs.Inside.Inferring.{AcceptedTable, Grown}
use Rattle.key_word.specs.Word.{word_bits}
use Rattle.tag_bus.specs.declared.Filled.{Filled}
use Rattle.tag_bus.specs.Entries.{entry_size, entries, entry_count}
use Rattle.tag_bus.specs.TagBus.{TagBus, no_tag_bus, bad_entries_length, stored_with_entries, tag_bus_from, inferred_tag_bus, left_with_entries, leaves_tag_bus}
use Rattle.tag_bus.specs.Inside.Flat.{entries_from, WordRecords}
use Rattle.tag_bus.specs.Inside.Front.{records_of, entries_of, FilledInFront}
use Rattle.tag_bus.proofs.Labels.{labels-profile, labels-fit}
use Rattle.tag_bus.proofs.Worded.{worded-profile}
use Rattle.tag_bus.proofs.Exact.{entries-length}
use Rattle.tag_bus.proofs.TableKeys.{table-keys}
use Rattle.tag_bus.proofs.Flat.{Held, entries-flat, word-records}

-- what a call writes that is refused
abbrev pub nothing_filled : Refusal → TagBus
nothing_filled why = record { written = refused_by why; entries = [] }

pub filled-refused : {t : TagBus} (why : Refusal) (arena entries : List ℕ) → t ≡ nothing_filled why → FilledInFront t (Err why) arena entries
filled-refused why arena entries e = rw e (record { written = front-refused why arena refl; told = refl; bytes = refl })

module _ (f : CountingType) (arena room : ℕ) where
  abbrev both : TagBus
  both = record { written = record { outcome = accepted (size f); bytes = encode f }; entries = entries f }

  pub no-records : arena < type_size * (size f + 0) → stored_with_entries arena room f ≡ no_tag_bus 11 0
  no-records h = rw (lt-ltb arena (type_size * size f) (omega arith)) refl

  pub no_room : room < length (entries f) → stored_with_entries arena room f ≡ no_tag_bus 11 0
  no_room h = rw (lt-ltb room (entry_size * entry_count f) (omega (arith, entries-length f))) (go (ltb arena (type_size * size f)))
    where
      go : (t : Bool) → cond (t || true) (no_tag_bus 11 0) both ≡ no_tag_bus 11 0
      go true = refl
      go false = refl

  stored-both : type_size * size f ≤ arena → length (entries f) ≤ room → stored_with_entries arena room f ≡ both
  stored-both h k = rw (le-ltb arena (type_size * size f) h, le-ltb room (entry_size * entry_count f) (omega (arith, entries-length f))) refl

-- the type of a table stands in b
module _ (t : List ℕ) (table : AcceptedTable t) (keys : KeysUpTo word_bits t) (b : List ℕ) (short : length b ≤ max_length) {n : ℕ} (grown : Grown (profile_of by_label (messages t)) [] n b) where
  abbrev type : CountingType
  type = profile_of by_label (messages t)

  long : length b ≡ type_size * size type + length grown.free
  long = ap length grown.bytes ∙ length-append (encode type) grown.free ∙ ap (λ k. k + length grown.free) (length-encode type)

  held : Held b 0 false type grown.free
  held =
      let values = table-keys word_bits t (messages t) _ table.is-table keys in
      record {
        bytes = grown.bytes;
        fit = labels-fit word_bits type (omega arith) (labels-profile word_bits (messages t) table.is-table.valid values) (omega (arith, long));
        tagged = tagged-profile by_label (messages t) table.is-table.valid;
        words = worded-profile (messages t) table.is-table.valid values;
      }

  pub grown-records : WordRecords b n
  grown-records =
      record { within = omega (arith, grown.count, long); each = λ i h k. word-records b 0 false type grown.free held i (omega arith) (omega (arith, grown.count)) k }

  pub grown-entries : entries_from b n 0 ≡ entries type
  grown-entries = rw grown.count (sym (entries-flat b 0 false type grown.free held))

  pub filled-stored : (before : List ℕ) {arena k : ℕ} {es : List ℕ} → length b ≡ arena → k ≡ length (entries_from b n 0) → k ≤ length before → es ≡ sets before 0 (entries_from b n 0) →
      FilledInFront (stored_with_entries arena (length before) type) (Ok (record { records = n; entries = k })) b es
  filled-stored before {arena} l c h e =
      let m : length (entries type) ≤ length before = omega (arith, c, ap length grown-entries) in
      rw (stored-both type arena (length before) (omega (arith, long)) m)
      (record {
        written = record { outcome = ap accepted grown.count; bytes = ap (take (length (encode type))) grown.bytes ∙ take_at (encode type) grown.free _ refl };
        told = c ∙ ap length grown-entries;
        bytes = ap (take (length (entries type))) (e ∙ ap (sets before 0) grown-entries) ∙ sets-front before (entries type) m;
      })

-- a table that is refused is refused to the call
pub table-refused : (error : TableError) (t : List ℕ) (arena room : ℕ) → tag_bus_from (table.refusal_of error) t arena room ≡ nothing_filled (refusal_of_table error)
table-refused BadLength t arena room = refl
table-refused (Faulty faults.Kind place) t arena room = refl
table-refused (Faulty faults.Span place) t arena room = refl
table-refused (Faulty faults.Key place) t arena room = refl
table-refused (Faulty faults.Large place) t arena room = refl
table-refused (Faulty faults.Repeat place) t arena room = refl
table-refused (Faulty faults.Fields place) t arena room = refl
table-refused (Faulty faults.Depth place) t arena room = refl

-- the answer tells how many records the type's bytes have
exact-choice : (t : Bool) (v w : TagBus) → Exact v.written → Exact w.written → Exact (cond t v w).written
exact-choice true v w h k = h
exact-choice false v w h k = k

exact-from : (o : Outcome) (t : List ℕ) (arena room : ℕ) → Exact (tag_bus_from o t arena room).written
exact-from o t arena room = go o.number
  where
    with : ℕ → Outcome
    with k = record { number = k; place = o.place; count = o.count }

    go : (k : ℕ) → Exact (tag_bus_from (with k) t arena room).written
    go zero =
        let f = profile_of by_label (messages t) in
        exact-choice (ltb arena (type_size * size f) || ltb room (entry_size * entry_count f)) (no_tag_bus 11 0) (both f arena room) refl (length-encode f)
    go (suc k) = refl

pub exact-tag-bus : (t : List ℕ) (arena work room : ℕ) → Exact (inferred_tag_bus t arena work room).written
unfolding inferred_tag_bus
exact-tag-bus t arena work room =
    exact-choice (bad_buffers (length t) arena work || bad_entries_length room) (no_tag_bus 1 0) _ refl (exact-from (judged_up_to word_bits t) t arena room)

-- what the code reads of the fronts
abbrev pub nothing : Filled
nothing = record { records = 0; entries = 0 }

pub records-read : (filled : Result Filled Refusal) {front : Filled} → front ≡ result_unwrap_or filled nothing → front.records ≡ result_unwrap_or (records_of filled) 0
records-read (Ok filled) e = ap (λ front. front.records) e
records-read (Err why) e = ap (λ front. front.records) e

pub entries-read : (filled : Result Filled Refusal) {front : Filled} → front ≡ result_unwrap_or filled nothing → front.entries ≡ entries_of filled
entries-read (Ok filled) e = ap (λ front. front.entries) e
entries-read (Err why) e = ap (λ front. front.entries) e

module _ {t : TagBus} {filled : Result Filled Refusal} {arena entries : List ℕ} (h : FilledInFront t filled arena entries) where
  pub filled-room : entries_of filled ≤ length entries
  filled-room =
      let e : length (take (length t.entries) entries) ≡ length t.entries = ap length h.bytes in
      omega (arith, h.told, e, length-take (length t.entries) entries)

  -- both cleared behind what was written, and a working buffer of zeros
  pub filled-cleared : Exact t.written → (before cleared work zeroed room emptied : List ℕ) →
      length arena ≡ length before → cleared ≡ cleared_from arena (type_size * result_unwrap_or (records_of filled) 0) → zeroed ≡ zeros (length work) →
      length entries ≡ length room → emptied ≡ cleared_from entries (entries_of filled) →
      left_with_entries (records_of filled) cleared zeroed emptied ≡ leaves_tag_bus t before work room
  filled-cleared exact before cleared work zeroed room emptied l e z m k =
      let left = front-cleared exact h.written before cleared work zeroed l e z in
      let es : emptied ≡ t.entries ++ zeros (length room - length t.entries) = k ∙ rw (h.told, h.bytes, m) refl in
      λ i. record { left = left i; entries = es i }
