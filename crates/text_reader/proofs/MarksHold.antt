-- The marks hold from the start on, whatever is opened, marked or finished.
use mathlib.Core.Path.{◌≡◌, refl, sym, ◌∙◌, ap, subst}
use mathlib.Core.Bool.{Bool, true, false}
use mathlib.Core.List.{List, [], ◌∷◌, append-nil}
use Prim.Native.Nat.{ℕ, suc, ◌+◌, ◌*◌, ◌≤◌}
use native.Mathlib.Omega.{arith}
use lib.Dec.{eqb}
use lib.ListN.{length, get_or, set}
use lib.Seq.{get_or-set_same, get_or-set_other}
use borrow.Author.Tests.{eqb-true, eqb-false}
use Rattle.byte_records.specs.Number.{zeros}
use Rattle.byte_records.proofs.Numbers.{get_or-zeros, length-numbers, numbers-zero}
use Rattle.value_table.specs.Value.{max_depth, Head, Values, none, value, size, keys, member}
use Rattle.json_theory.specs.Grammar.{Container}
use Rattle.json_theory.specs.Steps.{Stack, base, level, add}
use Rattle.json_theory.specs.Reader.{depth, written}
use Rattle.text_reader.specs.Inside.Marks.{mark_size, marks_of, slot_of, Slot, Marked, MarksHold}
use Rattle.text_reader.proofs.Marks.{slot-below, written-add, marked-add, marked-none, marked-open, outer-marked, row-with}

pub marks-start : (listed n : ℕ) → mark_size * (max_depth * listed) ≤ n → MarksHold listed (zeros n) (base none) []
marks-start listed n h =
    record {
      room = omega (arith, lib.ListN.length-replicate {A = ℕ} n 0);
      low = λ i. omega (arith, ap (λ ms. get_or ms i 0) (numbers-zero mark_size (max_depth * listed) n), get_or-zeros (max_depth * listed) i);
      marked = tt;
    }

module _ {listed : ℕ} {seen : List ℕ} where
  pub marks-none : {around : Stack} → MarksHold listed seen around [] → MarksHold listed seen around (0 ∷ [])
  marks-none {around} h = record { room = h.room; low = h.low; marked = marked-none listed (marks_of listed seen) around h.marked }

  pub marks-open : {around : Stack} (o : Container) (key : ℕ) → MarksHold listed seen around (key ∷ []) → MarksHold listed seen (level o key none around) []
  unfolding written size
  marks-open {around} o key h =
      record {
        room = h.room;
        low = λ i. omega (arith, h.low i);
        marked = marked-open listed (marks_of listed seen) o key around h.low h.marked;
      }

  pub marks-scalar : {around : Stack} (head : Head) (key : ℕ) → MarksHold listed seen around (key ∷ []) →
      MarksHold listed seen (add (value head key none none) around) []
  marks-scalar {around} head key h =
      record {
        room = h.room;
        low = λ i. omega (arith, h.low i, written-add (value head key none none) around);
        marked = marked-add listed (marks_of listed seen) head key none around h.marked;
      }

  pub marks-shut : (head : Head) (o : Container) (key : ℕ) (done : Values) (outer : Stack) → MarksHold listed seen (level o key done outer) [] →
      MarksHold listed seen (add (value head key done none) outer) []
  unfolding written size
  marks-shut head o key done outer h =
      record {
        room = h.room;
        low = λ i. omega (arith, h.low i, written-add (value head key done none) outer);
        marked = marked-add listed (marks_of listed seen) head key done outer h.marked.1;
      }

  -- whether the innermost level has the key
  pub marks-member : {o : Container} {key : ℕ} {done : Values} {outer : Stack} (k : ℕ) → MarksHold listed seen (level o key done outer) [] → 1 ≤ k → k ≤ listed →
      eqb (get_or (marks_of listed seen) (slot_of listed (depth outer) k) 0) (written outer + 1) ≡ member k (keys done)
  marks-member {done = done} k h a b = h.marked.0 k a b ∙ ap (member k) (append-nil (keys done))

  pub marks-key : {seen' : List ℕ} {o : Container} {key : ℕ} {done : Values} {outer : Stack} (k : ℕ) → MarksHold listed seen (level o key done outer) [] →
      Slot listed seen (depth outer) k → length seen' ≡ length seen →
      marks_of listed seen' ≡ set (marks_of listed seen) (slot_of listed (depth outer) k) (written outer + 1) → MarksHold listed seen' (level o key done outer) (k ∷ [])
  unfolding written depth
  marks-key {seen'} {o} {key} {done} {outer} k h s same e =
      let marks = marks_of listed seen in
      let slot = slot_of listed (depth outer) k in
      let inside : suc slot ≤ length marks = omega (arith, slot-below s, length-numbers mark_size (max_depth * listed) seen) in
      let row = row-with listed marks (depth outer) k (written outer + 1) s.some s.listed-key (keys done) inside (rw (append-nil (keys done)) at h.marked.0) in
      let others = outer-marked listed marks (depth outer) k (written outer + 1) s.some s.listed-key outer (key ∷ []) (omega arith) h.marked.1 in
      record { room = omega (arith, h.room); low = λ i. rw e (low i (eqb i slot) refl); marked = subst (λ ms. Marked listed ms (level o key done outer) (k ∷ [])) (sym e) (row, others) }
    where
      low : (i : ℕ) (t : Bool) → eqb i (slot_of listed (depth outer) k) ≡ t →
          get_or (set (marks_of listed seen) (slot_of listed (depth outer) k) (written outer + 1)) i 0 ≤ written outer + 1 + size done
      low i true z =
          let j = eqb-true i (slot_of listed (depth outer) k) z in
          rw (j, get_or-set_same (marks_of listed seen) (slot_of listed (depth outer) k) (written outer + 1) 0 (omega (arith, slot-below s, length-numbers mark_size (max_depth * listed) seen)))
          (omega arith)
      low i false z =
          rw (get_or-set_other (marks_of listed seen) (slot_of listed (depth outer) k) i (written outer + 1) 0 (eqb-false i (slot_of listed (depth outer) k) z)) (h.low i)
