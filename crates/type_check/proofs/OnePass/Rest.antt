-- What a run asks of the type that the records left of it hold, and what this says of the content of an addend.
use mathlib.Core.Path.{◌≡◌, refl, sym, ◌∙◌, ap}
use mathlib.Core.Bool.{Bool, true, false, cond, true≢false}
use mathlib.Core.List.{List}
use Prim.Native.Nat.{ℕ, ◌+◌, ◌≤◌}
use native.Mathlib.Omega.{arith}
use lib.Dec.{eqb}
use borrow.Author.Tests.{eq-eqb}
use Rattle.counting_theory.specs.Trie.{nil, node, size, Before, total}
use Rattle.counting_theory.specs.Label.{field_label, compare_label, Counting, CountingType}
use Rattle.counting_theory.specs.declared.equivalence.Equivalence.{Equivalence}
use Rattle.counting_theory.specs.Payload.{proper}
use Rattle.counting_theory.specs.Encoding.{type_kind, type_key, type_span, type_payload, Tagged}
use Rattle.counting_theory.specs.Inside.TypeBytes.{type_count}
use Rattle.counting_theory.specs.WellFormed.{max_total, counted, fields_of, Shallow}
use Rattle.type_arena.specs.Inside.Layout.{label_by}
use Rattle.type_check.specs.Inside.Checker.{Run, addends, fields}
use Rattle.counting_theory.proofs.Order.{less-compare}
use Rattle.counting_theory.proofs.Label.{kind-eq, compare-fields}
use Rattle.counting_theory.proofs.WellFormed.Nodes.{counted-parts}
use Rattle.counting_theory.proofs.WellFormed.Fitting.{weight-addend}
use Rattle.type_check.proofs.OnePass.Ruled.{Ruled}

-- the total of a run that ends with f
abbrev pub sum_of : Run → CountingType → ℕ
sum_of (addends depth last sum) f = sum + total Counting f
sum_of (fields depth of_record last_key) f = 0

-- an addend's payload fits the total t inside it, and a field's count is that total
abbrev pub Totals : List ℕ → ℕ → Run → ℕ → Type 0
Totals b p (addends depth last sum) t = proper (type_kind b p) (type_payload b p) t ≡ true
Totals b p (fields depth of_record last_key) t = t ≡ type_count b p

module _ (e : Equivalence) where
  total-fields : (f : CountingType) → Tagged e true f → total Counting f ≡ 0
  unfolding total
  total-fields nil h = refl
  total-fields (node l a c s) h = rw (kind-eq h.0) (omega (arith, total-fields s h.2))

  pub total-positive : (f : CountingType) → Tagged e false f → counted f ≡ true → 1 ≤ size f → 1 ≤ total Counting f
  unfolding total size
  total-positive nil h i n = n
  total-positive (node l a c s) h i n =
      omega (arith, weight-addend l a h.0.kind-high, (counted-parts l a c s i).0)

  -- keys are at least 1
  after-zero : (depth : ℕ) (f : CountingType) → Tagged e true f → Shallow true depth f → Before Counting (field_label 0) f
  after-zero depth nil h i = tt
  after-zero depth (node l a c s) h i = ap (compare_label (field_label 0)) h.0 ∙ compare-fields 0 l.key ∙ less-compare 0 l.key i.0

module _ (e : Equivalence) (b : List ℕ) where
  -- f against what came before it
  abbrev pub Beside : ℕ → Run → CountingType → Type 0
  Beside p (addends depth last sum) f = (eqb last p ≡ false → Before Counting (label_by type_kind type_key type_span e b last) f) × (sum + total Counting f ≤ max_total)
  Beside p (fields depth of_record last_key) f = Before Counting (field_label last_key) f × (fields_of e of_record f ≡ true)

  pub record Rest (p : ℕ) (r : Run) (f : CountingType) : Type 0 where
    pub ruled : Ruled e f
    pub beside : Beside p r f

  module _ (p depth count : ℕ) (c : CountingType) where
    -- what is expected inside an addend, by whether it is a record
    abbrev pub Inside : Bool → Type 0
    Inside record? = Beside (p + 1) (cond record? (fields depth count 0) (addends (depth + 1) (p + 1) 0)) c

    -- its total, as the check has it
    pub sum_inside : (record? : Bool) → Tagged e record? c → sum_of (cond record? (fields depth count 0) (addends (depth + 1) (p + 1) 0)) c ≡ total Counting c
    sum_inside true h = sym (total-fields e c h)
    sum_inside false h = omega arith

    pub inside-told : (record? : Bool) → Tagged e record? c → Inside record? → (total Counting c ≤ max_total) × (record? ≡ true → fields_of e count c ≡ true)
    inside-told true h i = (omega (arith, total-fields e c h), λ z. i.1)
    inside-told false h i = (omega (arith, i.1), λ z. absurd (true≢false (sym z)))

    pub inside-holds : (record? : Bool) (d : ℕ) → Tagged e record? c → Shallow record? d c → total Counting c ≤ max_total →
        (record? ≡ true → fields_of e count c ≡ true) → Inside record?
    inside-holds true d h i m n = (after-zero e d c h i, n refl)
    inside-holds false d h i m n = (λ z. absurd (true≢false (sym (eq-eqb (p + 1) (p + 1) refl) ∙ z)), omega arith)
