-- The limit of one of removal's types: what it says of totals, and that parts keep it.
use mathlib.Core.Path.{◌≡◌}
use mathlib.Core.Bool.{true}
use Prim.Native.Nat.{◌≤◌}
use native.Mathlib.Omega.{arith}
use borrow.Author.Tests.{leb-true, le-leb}
use Rattle.counting_theory.specs.Trie.{largest_total}
use Rattle.counting_theory.specs.Inside.TrieLaws.{NoLarger}
use Rattle.removal_theory.specs.Label.{Counting, CountingType}
use Rattle.counting_theory.specs.WellFormed.{max_total}
use Rattle.removal_theory.specs.WellFormed.{within_limit}

module _ (f : CountingType) where
  pub limit-totals : within_limit f ≡ true → largest_total Counting f ≤ max_total
  unfolding within_limit
  limit-totals h = leb-true (largest_total Counting f) max_total h

  pub totals-limit : largest_total Counting f ≤ max_total → within_limit f ≡ true
  unfolding within_limit
  totals-limit h = le-leb (largest_total Counting f) max_total h

pub limit-part : (f t : CountingType) → NoLarger Counting f t → within_limit t ≡ true → within_limit f ≡ true
limit-part f t p h = totals-limit f (omega (arith, limit-totals t h, p.largest))
