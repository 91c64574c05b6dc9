-- A key of a field: repeated or new, by its mark.
use mathlib.Core.Path.{◌≡◌, refl, sym, ap, ◌∙◌}
use mathlib.Core.Bool.{Bool, true, false}
use mathlib.Core.List.{List, []}
use Prim.Native.Nat.{ℕ, ◌+◌, ◌-◌, ◌≤◌, ◌<◌}
use native.Mathlib.Omega.{arith}
use lib.Dec.{eqb}
use lib.ListN.{length, get_or, set}
use Rattle.value_table.specs.Value.{max_fields, Values, none, count, keys, member}
use Rattle.json_theory.specs.Grammar.{object, is_space}
use Rattle.json_theory.specs.Parts.{plain}
use Rattle.json_theory.specs.Steps.{Stack, level, State, first, next_key, in_key, colon, item, step}
use Rattle.json_theory.specs.Book.{book_records, key_number}
use Rattle.json_theory.specs.Reader.{depth, written, listed_fault, fault_at, limit_fault}
use Rattle.json_items.specs.Inside.Items.{KeyTo, ColonTo}
use Rattle.text_reader.specs.Inside.Marks.{marks_of, slot_of, Slot, MarksHold}
use Rattle.text_reader.specs.Inside.Progress.{reads_from, AwaitsItem, first_item, field, Ready, LevelIs}
use Rattle.text_reader.specs.Inside.Items.{KeyRead, LevelFits, FieldKeyIs}
use Rattle.text_reader.specs.declared.Level.{Level}
use Rattle.std.proofs.Common.{Ok}
use Rattle.json_theory.specs.Inside.Scanning.{byte_at, Breaks}
use Rattle.json_theory.proofs.Scanning.{byte_inside}
use Rattle.json_items.proofs.Leads.{reads_on, reads-fault, reads_end, either_way}
use borrow.Author.Tests.{ne_eqb, le-leb, lt-leb}
use Rattle.text_reader.proofs.MarksHold.{marks-member, marks-key}

module _ {text book : List ℕ} {p k q : ℕ} (t : KeyTo text book p k q) where
  module _ {seen : List ℕ} {lv : Level} (fits : LevelFits (book_records book) seen lv) (is_obj : lv.object ≡ true) where
    pub key-slot : Slot (book_records book) seen (lv.depth - 1) k
    key-slot = record { room = fits.room; small = fits.small; level-low = omega (arith, fits.shallow, fits.deep is_obj); some = t.some; listed-key = t.listed }

    module _ {key : ℕ} {done : Values} {outer : Stack} (l : LevelIs (level object key done outer) lv)
        (m : MarksHold (book_records book) seen (level object key done outer) []) (room : ℕ) where
      row : lv.depth - 1 ≡ depth outer
      unfolding depth
      row = omega (arith, l.depth_is)

      own : lv.record + 1 ≡ written outer + 1
      own = ap (λ n. n + 1) (sym l.record_is)

      -- the mark tells whether the object has the key
      has : (b : Bool) → b ≡ eqb (get_or (marks_of (book_records book) seen) (slot_of (book_records book) (lv.depth - 1) k) 0) (lv.record + 1) → member k (keys done) ≡ b
      has b e = sym (marks-member k m t.some t.listed) ∙ sym (rw (row, own) at e)

      pub key-repeated : true ≡ eqb (get_or (marks_of (book_records book) seen) (slot_of (book_records book) (lv.depth - 1) k) 0) (lv.record + 1) →
          reads_from text book room (in_key plain [] (level object key done outer)) p ≡ fault_at 6 q
      unfolding listed_fault
      key-repeated e = t.reads room (level object key done outer) ∙ rw (has true e) refl

      module _ (new : false ≡ eqb (get_or (marks_of (book_records book) seen) (slot_of (book_records book) (lv.depth - 1) k) 0) (lv.record + 1)) where
        pub key-many : max_fields ≤ lv.items → reads_from text book room (in_key plain [] (level object key done outer)) p ≡ fault_at 15 q
        unfolding listed_fault
        key-many h = t.reads room (level object key done outer) ∙ rw (has false new, le-leb max_fields (count done) (omega (arith, l.items-are))) refl

        pub key-new : {seen' : List ℕ} → lv.items < max_fields → length seen' ≡ length seen →
            marks_of (book_records book) seen' ≡ set (marks_of (book_records book) seen) (slot_of (book_records book) (lv.depth - 1) k) (lv.record + 1) →
            KeyRead text book seen' room (in_key plain [] (level object key done outer)) p (level object key done outer) k (colon k (level object key done outer)) (q + 1)
        unfolding listed_fault
        key-new h same stored =
            record {
              reads = t.reads room (level object key done outer) ∙ rw (has false new, lt-leb max_fields (count done) (omega (arith, l.items-are))) refl;
              marks = marks-key k m (rw row at key-slot) same (rw (row, own) at stored);
            }

-- the first byte of a field: its opening quote, or a fault
module _ (text book : List ℕ) (room p : ℕ) where
  pub quote-opens : (key : ℕ) (done : Values) (outer : Stack) (σ : State) → AwaitsItem σ (level object key done outer) → byte_at text p ≡ 0x22 →
      reads_from text book room σ p ≡ reads_from text book room (in_key plain [] (level object key done outer)) (p + 1)
  unfolding step item limit_fault
  quote-opens key none outer σ first_item h =
      reads_on text p (key_number book) room (first object key outer) (byte_inside text p (omega arith)) (in_key plain [] (level object key none outer)) (rw h refl) (rw h refl)
  quote-opens key done outer σ field h =
      reads_on text p (key_number book) room (next_key (level object key done outer)) (byte_inside text p (omega arith)) (in_key plain [] (level object key done outer)) (rw h refl) (rw h refl)

  pub no-quote : (key : ℕ) (done : Values) (outer : Stack) (σ : State) → AwaitsItem σ (level object key done outer) → is_space (byte_at text p) ≡ false →
      Ready text σ p → (byte_at text p ≡ 0x22 → ⊥) → reads_from text book room σ p ≡ fault_at 12 p
  unfolding step item limit_fault
  no-quote key none outer σ first_item a b h =
      either_way text p
      (λ l. reads-fault text p (key_number book) room (first object key outer) l (rw (a, b, ne_eqb (byte_at text p) 0x22 h) refl))
      (λ l. reads_end text p (key_number book) room (first object key outer) l)
  no-quote key done outer σ field a b h =
      either_way text p
      (λ l. reads-fault text p (key_number book) room (next_key (level object key done outer)) l (rw (a, ne_eqb (byte_at text p) 0x22 h) refl))
      (λ l. reads_end text p (key_number book) room (next_key (level object key done outer)) l)

-- a key that was read, and its colon
module _ (text book seen : List ℕ) (room p : ℕ) (σ : State) (around : Stack) (k q : ℕ) (h : KeyRead text book seen room σ p around k (colon k around) q) where
  pub key-colon : (n : ℕ) → ColonTo text k around q n → FieldKeyIs text book seen room σ p around (Ok (record { number = k; end = n }))
  key-colon n t = (record { reads = h.reads ∙ t.leads (key_number book) room; marks = h.marks }, t.byte)

  pub no_colon : (n : ℕ) → Breaks text (colon k around) q n → reads_from text book room σ p ≡ fault_at 12 n
  no_colon n b = h.reads ∙ b (key_number book) room
