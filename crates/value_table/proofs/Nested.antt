-- The open values around a record end one inside the other, and those that are records have distinct keys and not too many.
use mathlib.Core.Path.{◌≡◌, refl}
use mathlib.Core.Bool.{Bool, true, false, cond}
use mathlib.Core.List.{List, [], ◌∷◌}
use Prim.Native.Nat.{ℕ, ◌+◌, ◌≤◌, ◌<◌}
use native.Mathlib.Omega.{arith}
use lib.Dec.{eqb, leb}
use lib.ListN.{length, length-append}
use borrow.Author.Tests.{leb-true, leb-false, le-leb}
use Rattle.value_table.specs.Value.{record_kind, max_fields, records, key_at, Distinct}
use Rattle.value_table.specs.Judged.{Open, close, enter}
use Rattle.value_table.proofs.TableLayout.{distinct_snoc}
use Rattle.value_table.proofs.Faultless.{FaultlessIn}

-- from record i on, in a table of n records
abbrev pub Nested : ℕ → ℕ → List Open → Type 0
Nested n i [] = i ≤ n
Nested n i (o ∷ os) = (i ≤ o.end) × (eqb o.kind record_kind ≡ true → Distinct o.keys × (length o.keys ≤ max_fields)) × Nested n o.end os

nested-le : (n i : ℕ) (around : List Open) → Nested n i around → i ≤ n
nested-le n i [] h = h
nested-le n i (o ∷ os) h = omega (arith, nested-le n o.end os h.2)

pub close-all : (n : ℕ) (around : List Open) → Nested n n around → close n around ≡ []
unfolding close
close-all n [] h = refl
close-all n (o ∷ os) h =
    let e : o.end ≡ n = omega (arith, nested-le n o.end os h.2) in
    rw (le-leb o.end n (omega arith)) (close-all n os (rw e at h.2))

-- a value that is still open at record i ends behind it
pub nested-close : (n i : ℕ) (around : List Open) → i < n → Nested n i around → Nested n (i + 1) (close i around)
unfolding close
nested-close n i [] some h = omega arith
nested-close n i (o ∷ os) some h = go (leb o.end i) refl (nested-close n i os some)
  where
    go : (t : Bool) → leb o.end i ≡ t → (Nested n i os → Nested n (i + 1) (close i os)) → Nested n (i + 1) (cond t (close i os) (o ∷ os))
    go true t ih = let e : o.end ≡ i = omega (arith, leb-true o.end i t) in ih (rw e at h.2)
    go false t ih = (omega (arith, leb-false o.end i t), h.1, h.2)

pub nested-enter : (b : List ℕ) (i : ℕ) (around : List Open) → FaultlessIn b i around →
    Nested (records b) (i + 1) around → Nested (records b) (i + 1) (enter b i around)
unfolding enter Distinct
nested-enter b i [] f h = (omega (arith, f.span-low), λ e. (tt, omega arith), f.span_fits)
nested-enter b i (o ∷ os) f h = (
  omega (arith, f.span-low),
  λ e. (tt, omega arith),
  (
    f.span_fits,
    λ e. (distinct_snoc (key_at b i) o.keys (f.fresh e) (h.1 e).0, omega (arith, f.few e, length-append o.keys (key_at b i ∷ []))),
    h.2,
  ),
)
