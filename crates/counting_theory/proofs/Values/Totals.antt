-- A field's count is the total of its union, in a profile and in the reduce of two types.
use mathlib.Core.Path.{◌≡◌, refl, ◌∙◌, ap}
use mathlib.Core.Bool.{Bool, true, false}
use Prim.Native.Nat.Ordering.{eq}
use Prim.Native.Nat.Ordering.{gt}
use Prim.Native.Nat.Ordering.{lt}
use Prim.Native.Nat.{ℕ, suc, ◌+◌, Ordering}
use native.Mathlib.Omega.{arith}
use lib.Dec.{eqb}
use borrow.Author.Tests.{ne_eqb}
use Rattle.value_table.specs.Value.{Values, none, value, record_kind, ValidAt, Valid}
use Rattle.counting_theory.specs.Payload.{Payload}
use Rattle.counting_theory.specs.Trie.{nil, node, insert_step, insert, add, reduce, Sorted, total}
use Rattle.counting_theory.specs.Label.{Label, field_kind, compare_label, Counting, CountingType}
use Rattle.counting_theory.specs.declared.equivalence.Equivalence.{Equivalence}
use Rattle.counting_theory.specs.Raw.{raw, profile_of}
use Rattle.counting_theory.specs.Place.{FieldTotals}
use Rattle.counting_theory.proofs.Payload.{count-join, count-one, count-field}
use Rattle.counting_theory.proofs.Label.{label-order, counting-laws}
use Rattle.counting_theory.proofs.Trie.Growth.{total-add}
use Rattle.counting_theory.proofs.Trie.Profile.{reduce-add}

-- the node l a c is inserted, and g adds its children c
module _ (l : Label) (a : Payload) (c : CountingType) (g : CountingType → CountingType) (field : l.kind ≡ field_kind → a.count ≡ total Counting c)
    (adds : (d : CountingType) → total Counting (g d) ≡ total Counting c + total Counting d)
    (keeps : (d : CountingType) → FieldTotals d → FieldTotals (g d)) where
  insert-totals : (f : CountingType) → FieldTotals f → FieldTotals (insert Counting l a g f)
  unfolding insert insert_step total
  insert-totals nil h = (λ i. omega (arith, field i, adds nil), keeps nil tt, tt)
  insert-totals (node k b d s) h = go (compare_label l k) refl (insert-totals s h.2)
    where
      go : (o : Ordering) → compare_label l k ≡ o → FieldTotals (insert Counting l a g s) → FieldTotals (insert_step Counting o l a g k b d s (insert Counting l a g s))
      go lt e i = (λ j. omega (arith, field j, adds nil), keeps nil tt, h)
      go eq e i = (λ j. omega (arith, count-join b a, field (ap (λ (m : Label). m.kind) (label-order.compare-eq e) ∙ j), h.0 j, adds d), keeps d h.1, h.2)
      go gt e i = (h.0, h.1, i)

pub add-totals : (r f : CountingType) → FieldTotals r → FieldTotals f → FieldTotals (add Counting r f)
unfolding add
add-totals nil f h i = i
add-totals (node l a c s) f h i =
    add-totals s (insert Counting l a (add Counting c) f) h.2
    (insert-totals l a c (add Counting c) h.0 (total-add counting-laws c) (λ d. add-totals c d h.1) f i)

raw-totals : (e : Equivalence) (field : Bool) (depth : ℕ) (c : Values) → ValidAt field depth c → FieldTotals (raw e field c)
unfolding raw ValidAt total
raw-totals e field depth none h = tt
raw-totals e true depth (value head key content next) h = (
  λ i. rw (ne_eqb head.kind field_kind (λ z. omega arith)) (omega (arith, count-field, count-one head content)),
  (λ i. omega arith, raw-totals e (eqb head.kind record_kind) (suc depth) content h.1, tt),
  raw-totals e true depth next h.2,
)
raw-totals e false depth (value head key content next) h =
    (λ i. omega arith, raw-totals e (eqb head.kind record_kind) (suc depth) content h.1, raw-totals e false depth next h.2)

pub profile-totals : (e : Equivalence) (messages : Values) → Valid messages → FieldTotals (profile_of e messages)
unfolding profile_of
profile-totals e messages h = add-totals (raw e false messages) nil (raw-totals e false 1 messages h) tt

pub reduce-totals : (f g : CountingType) → Sorted Counting f → Sorted Counting g → FieldTotals f → FieldTotals g → FieldTotals (reduce Counting f g)
reduce-totals f g u v h i = rw (reduce-add counting-laws f g u v) (add-totals f g h i)
