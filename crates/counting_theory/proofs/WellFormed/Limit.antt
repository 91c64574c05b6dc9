-- The limit of a type: what it says of totals, that parts keep it, and that few values do.
use mathlib.Core.Path.{◌≡◌, refl}
use mathlib.Core.Bool.{true, not}
use Prim.Native.Nat.{◌≤◌}
use native.Mathlib.Decide.{dec_le}
use native.Mathlib.Omega.{arith}
use lib.Dec.{ltb}
use borrow.Author.Tests.{leb-true, le-leb, lt-leb, le-ltb, lt-ltb}
use Rattle.counting_theory.specs.Trie.{largest_total}
use Rattle.counting_theory.specs.Inside.TrieLaws.{NoLarger}
use Rattle.counting_theory.specs.Label.{Counting, CountingType}
use Rattle.counting_theory.specs.WellFormed.{max_total, within_limit}

module _ (f : CountingType) where
  pub limit-totals : within_limit f ≡ true → largest_total Counting f ≤ max_total
  unfolding within_limit
  limit-totals h = leb-true (largest_total Counting f) max_total h

  pub totals-limit : largest_total Counting f ≤ max_total → within_limit f ≡ true
  unfolding within_limit
  totals-limit h = le-leb (largest_total Counting f) max_total h

  -- a limit that is passed, as a test of the largest total
  pub over-limit : not (within_limit f) ≡ ltb max_total (largest_total Counting f)
  unfolding within_limit
  over-limit = go (dec_le (largest_total Counting f) max_total)
    where
      go : Dec (largest_total Counting f ≤ max_total) → not (within_limit f) ≡ ltb max_total (largest_total Counting f)
      go (yes h) = rw (le-leb (largest_total Counting f) max_total h, le-ltb max_total (largest_total Counting f) h) refl
      go (no h) = rw (lt-leb (largest_total Counting f) max_total (omega arith), lt-ltb max_total (largest_total Counting f) (omega arith)) refl

pub limit-part : (f t : CountingType) → NoLarger Counting f t → within_limit t ≡ true → within_limit f ≡ true
limit-part f t p h = totals-limit f (omega (arith, limit-totals t h, p.largest))
