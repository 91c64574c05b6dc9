-- The first byte of a value: what it begins, and the faults that stand there.
use mathlib.Core.Path.{◌≡◌, refl, ◌∙◌}
use mathlib.Core.Bool.{false}
use mathlib.Core.List.{List}
use Prim.Native.Nat.{ℕ, ◌+◌, ◌*◌, ◌≤◌, ◌<◌}
use native.Mathlib.Omega.{arith}
use lib.ListN.{length}
use lib.Seq.{sets}
use borrow.Author.Tests.{le-leb, lt-leb}
use Rattle.value_table.specs.Value.{record_size, max_depth, header}
use Rattle.json_theory.specs.Grammar.{is_space, head_of}
use Rattle.json_theory.specs.Parts.{Start, letters, number, string, open', nothing, start}
use Rattle.json_theory.specs.Steps.{Stack, State, begin, item, step}
use Rattle.json_theory.specs.Book.{key_number}
use Rattle.json_theory.specs.Reader.{depth, written, value_fault, limit_fault, is_wrong, byte_fault, fault_at, finish}
use Rattle.json_theory.specs.Inside.Scanning.{byte_at}
use Rattle.json_items.proofs.Leads.{reads-one, reads_on, reads-fault, reads_end, either_way}
use Rattle.text_reader.specs.Inside.Progress.{reads_from, AwaitsValue, message_value, first_element, needed, Ready, kind_started}
use Rattle.text_reader.specs.Inside.Laid.{TableHolds}
use Rattle.text_reader.specs.Inside.Items.{kind_number, ValueIs, BegunIs, RefusedBy}
use denote.Enum.Declared.{tag_of}
use Rattle.text_reader.specs.contracts.value.Kind.{the_type}
use Rattle.text_reader.specs.declared.value.Kind.{Kind}
use Rattle.text_reader.specs.declared.value.Kind.TheVariants.{Null, Boolean, Number, String, Record, Array}
use Rattle.std.proofs.Common.{Result, Ok, Err}
use Rattle.text_reader.specs.declared.fault.TextFault.TheVariants.{Grammar, Deep, Full}
use Rattle.text_reader.specs.declared.fault.Faulty.{Faulty}
use Rattle.text_reader.specs.declared.value.Begun.{Begun}
use Rattle.text_reader.specs.declared.value.Begun.TheVariants.{Scalar, Opened}
use Rattle.json_theory.proofs.Scanning.{byte-none}
use Rattle.text_reader.proofs.ValueRead.{starts-nothing}
use Rattle.text_reader.proofs.Laid.{scalar-stored, open-stored}

-- the first byte begins the value, with the limits of its place
value-begins : (text : List ℕ) (p : ℕ) (σ : State) (key : ℕ) (around : Stack) → AwaitsValue σ key around → is_space (byte_at text p) ≡ false → Ready text σ p →
    ((name : List ℕ → ℕ) → step name σ (byte_at text p) ≡ begin (start (byte_at text p)) key around)
    × ((name : List ℕ → ℕ) (room : ℕ) → limit_fault name room σ (byte_at text p) ≡ value_fault room around)
unfolding step limit_fault item
value-begins text p σ key around message_value a b = (λ name. rw a refl, λ name room. rw a refl)
value-begins text p σ key around first_element a b = (λ name. rw (a, b) refl, λ name room. rw (a, b) refl)
value-begins text p σ key around needed a b = (λ name. rw a refl, λ name room. rw a refl)

-- before a value the text may not end
unfinished : (text : List ℕ) (p : ℕ) (σ : State) (key : ℕ) (around : Stack) → AwaitsValue σ key around → Ready text σ p → length text ≤ p → finish σ p ≡ fault_at 12 p
unfinished text p σ key around message_value r l = absurd (omega (arith, r))
unfinished text p σ key around first_element r l = refl
unfinished text p σ key around needed r l = refl

not-wrong : (s : Start) (key : ℕ) (around : Stack) → (kind_started s ≡ 0 → ⊥) → is_wrong (begin s key around) ≡ false
unfolding begin
not-wrong (letters kind l ls) key around n = refl
not-wrong (number part) key around n = refl
not-wrong string key around n = refl
not-wrong (open' o) key around n = refl
not-wrong nothing key around n = absurd (n refl)

pub kind-some : (kind : Kind) → kind_number kind ≡ 0 → ⊥
kind-some Null e = absurd (omega arith)
kind-some Boolean e = absurd (omega arith)
kind-some Number e = absurd (omega arith)
kind-some String e = absurd (omega arith)
kind-some Record e = absurd (omega arith)
kind-some Array e = absurd (omega arith)

pub kind-tag : (kind : Kind) → tag_of the_type kind + 1 ≡ kind_number kind
kind-tag Null = refl
kind-tag Boolean = refl
kind-tag Number = refl
kind-tag String = refl
kind-tag Record = refl
kind-tag Array = refl

-- a byte that begins a value stands in the text
pub starts-inside : (text : List ℕ) (p : ℕ) → (kind_started (start (byte_at text p)) ≡ 0 → ⊥) → p < length text
unfolding start
starts-inside text p n = either_way text p (λ l. l) (λ l. absurd (n (rw (byte-none text p l) refl)))

module _ (text book : List ℕ) (room p key : ℕ) (σ : State) (around : Stack) (w : AwaitsValue σ key around) (a : is_space (byte_at text p) ≡ false) (r : Ready text σ p) where
  pub no_value : kind_started (start (byte_at text p)) ≡ 0 → RefusedBy text book room σ p (record { why = Grammar; at = p })
  unfolding begin
  no_value e =
      either_way text p
      (λ l. reads-fault text p (key_number book) room σ l (rw ((value-begins text p σ key around w a r).0 (key_number book), starts-nothing (byte_at text p) e) refl))
      (λ l. reads_end text p (key_number book) room σ l ∙ unfinished text p σ key around w r l)

  -- the fault of its place, or none
  limited : (kind_started (start (byte_at text p)) ≡ 0 → ⊥) → byte_fault (key_number book) room σ (byte_at text p) ≡ value_fault room around
  limited n =
      let b = value-begins text p σ key around w a r in
      rw (b.0 (key_number book), not-wrong (start (byte_at text p)) key around n) (b.1 (key_number book) room)

  pub too-deep : (kind_started (start (byte_at text p)) ≡ 0 → ⊥) → max_depth ≤ depth around → RefusedBy text book room σ p (record { why = Deep; at = p })
  unfolding value_fault
  too-deep n l =
      reads-one text p (key_number book) room σ (starts-inside text p n) ∙ rw (limited n, le-leb max_depth (depth around) l) refl

  pub no_room : (kind_started (start (byte_at text p)) ≡ 0 → ⊥) → depth around < max_depth → room ≤ written around → RefusedBy text book room σ p (record { why = Full; at = p })
  unfolding value_fault
  no_room n l m =
      reads-one text p (key_number book) room σ (starts-inside text p n)
      ∙ rw (limited n, lt-leb max_depth (depth around) l, le-leb room (written around) m) refl

  -- within the limits
  module _ (n : kind_started (start (byte_at text p)) ≡ 0 → ⊥) (l : depth around < max_depth) (m : written around < room) where
    value-reads : reads_from text book room σ p ≡ reads_from text book room (begin (start (byte_at text p)) key around) (p + 1)
    unfolding value_fault
    value-reads =
        reads_on text p (key_number book) room σ (starts-inside text p n) (begin (start (byte_at text p)) key around) ((value-begins text p σ key around w a r).0 (key_number book))
        (limited n ∙ rw (lt-leb max_depth (depth around) l, lt-leb room (written around) m) refl)

    pub value_read : (table table' : List ℕ) (v : Result Begun Faulty) → TableHolds table around → record_size * written around + record_size ≤ length table →
        table' ≡ sets table (record_size * written around) (header (head_of (kind_started (start (byte_at text p)))) key 1) → BegunIs text (start (byte_at text p)) (p + 1) key around v →
        ValueIs text book table' room σ p key around v
    unfolding begin
    value_read table table' (Ok (Scalar q)) h i f b =
        record { head = head_of (kind_started (start (byte_at text p))); reads = value-reads ∙ b (key_number book) room; holds = scalar-stored (head_of (kind_started (start (byte_at text p)))) key h i f }
    value_read table table' (Ok (Opened q is_obj)) h i f b =
        let o = b.0 in
        let e = b.1 in
        record {
          container = o;
          is-object = b.2;
          reads = value-reads ∙ rw (e, b.3) refl;
          holds = open-stored o key h i (f ∙ rw e refl);
          shallow = l;
        }
    value_read table table' (Err faulty) h i f b = value-reads ∙ b.1 (key_number book) room ∙ rw b.0 refl
