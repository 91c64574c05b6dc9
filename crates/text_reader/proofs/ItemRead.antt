-- An item by its parts: a value alone, or a key and its value.
use mathlib.Core.Path.{◌≡◌, refl, sym, ◌∙◌}
use mathlib.Core.Bool.{true, false, true≢false}
use mathlib.Core.List.{List, []}
use Prim.Native.Nat.{ℕ}
use Rattle.value_table.specs.Value.{Values, none}
use Rattle.json_theory.specs.Grammar.{array, object, is_space}
use Rattle.json_theory.specs.Steps.{Stack, base, level, State, need}
use Rattle.json_theory.specs.Book.{book_records}
use Rattle.json_theory.specs.Inside.Scanning.{byte_at}
use Rattle.text_reader.specs.Inside.Marks.{MarksHold}
use Rattle.text_reader.specs.Inside.Progress.{AwaitsItem, message, first_item, element, field, AwaitsValue, message_value, first_element, needed, Ready, in_object}
use Rattle.text_reader.specs.Inside.Items.{FieldKeyIs, ItemKey, ItemKeyIs, ValueIs, ItemIs}
use Rattle.std.proofs.Common.{Result, Ok, Err}
use Rattle.text_reader.specs.declared.fault.Faulty.{Faulty}
use Rattle.text_reader.specs.declared.field.Key.{Key}
use Rattle.text_reader.specs.declared.value.Begun.{Begun}
use Rattle.text_reader.specs.declared.value.Begun.TheVariants.{Scalar, Opened}
use Rattle.text_reader.proofs.MarksHold.{marks-none, marks-scalar, marks-open}

-- outside objects an item is a value with key 0
pub value-item : (σ : State) (around : Stack) → AwaitsItem σ around → in_object around ≡ false → AwaitsValue σ 0 around
value-item σ around message e = message_value
value-item σ (level array key none outer) first_item e = first_element
value-item σ (level object key none outer) first_item e = absurd (true≢false e)
value-item σ around element e = needed
value-item σ around field e = absurd (true≢false e)

-- inside an object
pub record Object (around : Stack) : Type 0 where
  pub key : ℕ
  pub done : Values
  pub outer : Stack
  pub is : around ≡ level object key done outer

pub in-object : (around : Stack) → in_object around ≡ true → Object around
in-object (base ms) e = absurd (true≢false (sym e))
in-object (level array key done outer) e = absurd (true≢false (sym e))
in-object (level object key done outer) e = record { key = key; done = done; outer = outer; is = refl }

module _ (text book seen : List ℕ) (room : ℕ) (σ : State) (p : ℕ) (around : Stack) where
  -- an item with no key
  pub no_key : AwaitsItem σ around → in_object around ≡ false → is_space (byte_at text p) ≡ false → Ready text σ p → MarksHold (book_records book) seen around [] →
      ItemKey text book seen room σ p around 0 p
  no_key w o a r m = record { state = σ; awaits = value-item σ around w o; read = record { reads = refl; marks = marks-none m }; byte = a; ready = r }

  -- the key of a field
  pub field-item : (b : Object around) (r : Result Key Faulty) → FieldKeyIs text book seen room σ p (level object b.key b.done b.outer) r →
      ItemKeyIs text book seen room σ p around r
  field-item b (Ok k) h = record { state = need k.number around; awaits = needed; read = rw b.is h.0; byte = h.1; ready = tt }
  field-item b (Err faulty) h = h

  -- a key, or none, and its value
  pub keyed-item : (table : List ℕ) {k q : ℕ} (i : ItemKey text book seen room σ p around k q) (v : Result Begun Faulty) → ValueIs text book table room i.state q k around v →
      ItemIs text book table seen room σ p around v
  keyed-item table {k = k} i (Ok (Scalar n)) h =
      record {
        key = k;
        read = record { head = h.head; reads = i.read.reads ∙ h.reads; holds = h.holds };
        marks = marks-scalar h.head k i.read.marks;
      }
  keyed-item table {k = k} i (Ok (Opened n is_obj)) h =
      record {
        key = k;
        read = record { container = h.container; is-object = h.is-object; reads = i.read.reads ∙ h.reads; holds = h.holds; shallow = h.shallow };
        marks = marks-open h.container k i.read.marks;
      }
  keyed-item table i (Err faulty) h = i.read.reads ∙ h
