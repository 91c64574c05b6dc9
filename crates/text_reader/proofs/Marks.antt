-- The marks at keys: where they stand, and what they are when a value is opened or finished, and when a key is marked.
use mathlib.Core.Path.{◌≡◌, refl, sym, ◌∙◌, ap}
use mathlib.Core.Bool.{Bool, true, false, ◌||◌}
use mathlib.Core.List.{List, [], ◌∷◌, ◌++◌, append-nil}
use Prim.Native.Nat.{ℕ, suc, ◌+◌, ◌*◌, ◌≤◌, ◌<◌}
use native.Mathlib.Nat.{suc-mul, mul-le-mul_right}
use native.Mathlib.Omega.{arith}
use lib.Dec.{eqb}
use lib.ListN.{length, get_or, set}
use lib.Seq.{get_or-set_same, get_or-set_other}
use borrow.Author.Tests.{eqb-true, eqb-false, eq-eqb, ne_eqb}
use Rattle.value_table.specs.Value.{max_depth, max_length, Head, Values, none, value, size, keys, member, join_values}
use Rattle.value_table.proofs.TableLayout.{member-append}
use Rattle.json_theory.specs.Grammar.{Container}
use Rattle.json_theory.specs.Steps.{Stack, base, level, add}
use Rattle.json_theory.specs.Reader.{depth, written}
use Rattle.text_reader.specs.Inside.Marks.{mark_size, slot_of, Slot, RowMarked, Marked}

-- the marks of a level end by those of the levels up to another, and by those of all levels
row_before : (listed c d : ℕ) → c < d → c * listed + listed ≤ d * listed
row_before listed c d h =
    let l : suc c ≤ d = omega arith in
    omega (arith, suc-mul c listed, mul-le-mul_right listed l)

module _ {listed : ℕ} {seen : List ℕ} {d k : ℕ} (s : Slot listed seen d k) where
  pub slot-below : slot_of listed d k < max_depth * listed
  slot-below = omega (arith, row_before listed d max_depth s.level-low, s.some, s.listed-key)

  pub row_low : d * listed + listed ≤ max_length
  row_low = omega (arith, row_before listed d max_depth s.level-low, s.room, s.small)

  pub slot-inside : mark_size * slot_of listed d k + mark_size ≤ length seen
  slot-inside = omega (arith, slot-below, s.room)

keys-join : (a b : Values) → keys (join_values a b) ≡ keys a ++ keys b
unfolding keys join_values
keys-join none b = refl
keys-join (value head key c n) b = ap (λ ks. key ∷ ks) (keys-join n b)

size-join : (a b : Values) → size (join_values a b) ≡ size a + size b
unfolding size join_values
size-join none b = omega arith
size-join (value head key c n) b = omega (arith, size-join n b)

pub written-add : (v : Values) (around : Stack) → written (add v around) ≡ written around + size v
unfolding written
written-add v (base ms) = size-join ms v
written-add v (level o key done outer) = omega (arith, size-join done v)

module _ (listed : ℕ) (marks : List ℕ) where
  -- a value that was begun is finished
  pub marked-add : (head : Head) (k : ℕ) (content : Values) (around : Stack) → Marked listed marks around (k ∷ []) →
      Marked listed marks (add (value head k content none) around) []
  marked-add head k content (base ms) h = tt
  marked-add head k content (level o key done outer) h =
      let e : keys (join_values done (value head k content none)) ++ [] ≡ keys done ++ (k ∷ []) = append-nil _ ∙ keys-join done _ ∙ unfold keys in refl in
      (rw e h.0, h.1)

  -- key 0 is no key, so that a message or an element needs no mark
  pub marked-none : (around : Stack) → Marked listed marks around [] → Marked listed marks around (0 ∷ [])
  unfolding member
  marked-none (base ms) h = tt
  marked-none (level o key done outer) h = (row, h.1)
    where
      row : RowMarked listed marks (depth outer) (written outer + 1) (keys done ++ (0 ∷ []))
      row k some listed-key =
          h.0 k some listed-key
          ∙ rw (member-append k (keys done) [], member-append k (keys done) (0 ∷ []), ne_eqb k 0 (λ e. omega arith)) refl

  pub marked-open : (o : Container) (key : ℕ) (around : Stack) → ((i : ℕ) → get_or marks i 0 ≤ written around) → Marked listed marks around (key ∷ []) →
      Marked listed marks (level o key none around) []
  unfolding member keys
  marked-open o key around low h = (row, h)
    where
      row : RowMarked listed marks (depth around) (written around + 1) (keys none ++ [])
      row k some listed-key = ne_eqb (get_or marks (slot_of listed (depth around) k) 0) (written around + 1) (λ e. omega (arith, low (slot_of listed (depth around) k)))

-- a key is marked at the innermost level, whose row no outer level has
module _ (listed : ℕ) (marks : List ℕ) (d k mark : ℕ) (some_key : 1 ≤ k) (listed-key : k ≤ listed) where
  abbrev pub with-mark : List ℕ
  with-mark = set marks (slot_of listed d k) mark

  outer_same : (c j : ℕ) → c < d → 1 ≤ j → j ≤ listed → get_or with-mark (slot_of listed c j) 0 ≡ get_or marks (slot_of listed c j) 0
  outer_same c j h l m = get_or-set_other marks (slot_of listed d k) (slot_of listed c j) mark 0 (λ e. omega (arith, row_before listed c d h))

  pub outer-marked : (around : Stack) (begun : List ℕ) → depth around ≤ d → Marked listed marks around begun → Marked listed with-mark around begun
  unfolding depth
  outer-marked (base ms) begun l h = tt
  outer-marked (level o key done outer) begun l h =
      (λ j a b. ap (λ n. eqb n (written outer + 1)) (outer_same (depth outer) j (omega arith) a b) ∙ h.0 j a b, outer-marked outer (key ∷ []) (omega arith) h.1)

  pub row-with : (ks : List ℕ) → slot_of listed d k < length marks → RowMarked listed marks d mark ks → RowMarked listed with-mark d mark (ks ++ (k ∷ []))
  unfolding member
  row-with ks inside h j a b = go (eqb j k) refl
    where
      go : (t : Bool) → eqb j k ≡ t → eqb (get_or with-mark (slot_of listed d j) 0) mark ≡ member j (ks ++ (k ∷ []))
      go true e =
          let z = eqb-true j k e in
          rw (z, get_or-set_same marks (slot_of listed d k) mark 0 inside, eq-eqb mark mark refl, member-append k ks (k ∷ []), eq-eqb k k refl) (sym (mathlib.Core.Bool.or-true (member k ks)))
      go false e =
          let other : get_or with-mark (slot_of listed d j) 0 ≡ get_or marks (slot_of listed d j) 0 =
          get_or-set_other marks (slot_of listed d k) (slot_of listed d j) mark 0 (λ i. eqb-false j k e (omega arith)) in
          rw (other, h j a b, member-append j ks (k ∷ []), e) (or-none (member j ks))
        where
          or-none : (t : Bool) → t ≡ (t || (false || false))
          or-none true = refl
          or-none false = refl
