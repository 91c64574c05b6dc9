-- How a run goes on: inside a record, behind it, and with which totals.
use mathlib.Core.Path.{◌≡◌, refl, sym}
use mathlib.Core.Bool.{Bool, true, false, cond, true≢false}
use mathlib.Core.List.{List}
use Rattle.std.proofs.Common.{Option, None, Some}
use Prim.Native.Nat.{ℕ, ◌+◌, ◌≤◌}
use native.Mathlib.Omega.{arith}
use lib.Dec.{eqb, lit≤}
use borrow.Author.Tests.{eqb-true, eq-eqb}
use Rattle.value_table.specs.Value.{record_kind}
use Rattle.counting_theory.specs.Payload.{Payload}
use Rattle.counting_theory.specs.Trie.{nil, node, total}
use Rattle.counting_theory.specs.Label.{Label, CountingType}
use Rattle.counting_theory.specs.declared.equivalence.Equivalence.{Equivalence}
use Rattle.counting_theory.specs.Encoding.{type_kind}
use Rattle.counting_theory.specs.Inside.TypeBytes.{type_count}
use Rattle.counting_theory.specs.WellFormed.{max_total, holds_fields as fields_inside, depth_inside}
use Rattle.type_check.specs.Inside.Checker.{Run, addends, fields, total_of, after, content, agrees}
use Rattle.counting_theory.proofs.WellFormed.Fitting.{weight-addend}
use Rattle.counting_theory.specs.Inside.RecordsHold.{RecordsHold}
use Rattle.counting_theory.proofs.WellFormed.RecordsHold.{holds-first}
use Rattle.type_check.proofs.OnePass.Fits.{is_fields, depth_of, Follows}
use Rattle.type_check.proofs.OnePass.Rest.{sum_of, Totals}
use Rattle.type_check.specs.Inside.Reading.{full}

-- a run of this kind, at this depth, in which nothing has been seen
pub record Starts (r : Run) (field : Bool) (depth : ℕ) : Type 0 where
  pub fields-is : is_fields r ≡ field
  pub depth_is : depth_of r ≡ depth
  pub total-is : total_of r ≡ 0

module _ (b : List ℕ) (p : ℕ) where
  pub content-starts : (r : Run) → Starts (content full b p r) (fields_inside b p (is_fields r)) (depth_inside (fields_inside b p (is_fields r)) (depth_of r))
  content-starts (fields depth of_record last_key) = record { fields-is = refl; depth_is = refl; total-is = refl }
  content-starts (addends depth last sum) = go (eqb (type_kind b p) record_kind)
    where
      go : (t : Bool) → Starts (cond t (fields depth (type_count b p) 0) (addends (depth + 1) (p + 1) 0)) t (depth_inside t depth)
      go true = record { fields-is = refl; depth_is = refl; total-is = refl }
      go false = record { fields-is = refl; depth_is = refl; total-is = refl }

  pub after-goes-on : (r : Run) → (is_fields (after full b p r) ≡ is_fields r) × (depth_of (after full b p r) ≡ depth_of r)
  after-goes-on (addends depth last sum) = (refl, refl)
  after-goes-on (fields depth of_record last_key) = (refl, refl)

  pub agrees-some : (r : Run) (o : Option ℕ) → agrees full b p r o ≡ true → (t : ℕ) × (o ≡ Some t) × Totals b p r t
  agrees-some (addends depth last sum) None h = absurd (true≢false (sym h))
  agrees-some (addends depth last sum) (Some t) h = (t, refl, h)
  agrees-some (fields depth of_record last_key) None h = absurd (true≢false (sym h))
  agrees-some (fields depth of_record last_key) (Some t) h = (t, refl, eqb-true t (type_count b p) h)

  pub some-agrees : (r : Run) (t : ℕ) → Totals b p r t → agrees full b p r (Some t) ≡ true
  some-agrees (addends depth last sum) t h = h
  some-agrees (fields depth of_record last_key) t h = eq-eqb t (type_count b p) h

pub sum-nil : (r : Run) → total_of r ≡ sum_of r nil
unfolding total
sum-nil (addends depth last sum) = omega arith
sum-nil (fields depth of_record last_key) = refl

module _ (e : Equivalence) (b : List ℕ) (p : ℕ) where
  pub total-follows : (r : Run) → Follows full e b p r → total_of (after full b p r) ≤ max_total
  total-follows (addends depth last sum) h = h.2
  total-follows (fields depth of_record last_key) h = lit≤ tt

  pub sum-node : (end : ℕ) (l : Label) (a : Payload) (c s : CountingType) (r : Run) → RecordsHold e b p end (is_fields r) (depth_of r) (node l a c s) →
      sum_of (after full b p r) s ≡ sum_of r (node l a c s)
  unfolding total
  sum-node end l a c s (addends depth last sum) h =
      omega (arith, (holds-first e b p end false depth l a c s h).is-node.count-is, weight-addend l a h.tagged.0.kind-high)
  sum-node end l a c s (fields depth of_record last_key) h = refl
