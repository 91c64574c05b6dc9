-- The largest count, by the records of a type one after the other.
use Rattle.std.specs.Ordering.{ord_max}
use Rattle.std.proofs.Common.{nat_cmp}
use Rattle.std.proofs.lemmas.Grind.{common_steps}
use mathlib.Core.Path.{◌≡◌, refl, ◌∙◌, ap}
use mathlib.Core.Bool.{Bool}
use mathlib.Core.List.{List}
use Prim.Native.Nat.{ℕ, suc, ◌+◌, ◌-◌, ◌≤◌, ◌<◌, max}
use native.Mathlib.Omega.{arith}
use Rattle.counting_theory.specs.Trie.{nil, node, size}
use Rattle.counting_theory.specs.Label.{CountingType}
use Rattle.counting_theory.specs.declared.equivalence.Equivalence.{Equivalence}
use Rattle.counting_theory.specs.Encoding.{type_span}
use Rattle.counting_theory.specs.Inside.TypeBytes.{type_count}
use Rattle.counting_theory.specs.WellFormed.{max_total}
use Rattle.counting_theory.specs.Inside.RecordsHold.{RecordsHold}
use Rattle.counting_theory.proofs.WellFormed.RecordsHold.{holds-first}
use Rattle.report.specs.Report.{largest_count, whole_inside}
use Rattle.report.specs.Inside.Walk.{largest_from, Shares}

module _ (b : List ℕ) (n i largest : ℕ) where
  pub largest-next : i < n → max largest (largest_from b (n - i) i) ≡ max (max largest (type_count b i)) (largest_from b (n - (i + 1)) (i + 1))
  unfolding largest_from
  largest-next h = let e : n - i ≡ suc (n - (i + 1)) = omega arith in rw e (omega arith)

  pub largest-done : n ≤ i → largest ≡ max largest (largest_from b (n - i) i)
  unfolding largest_from
  largest-done h = let e : n - i ≡ 0 = omega arith in rw e (omega arith)

max_assoc : (x y z : ℕ) → max (max x y) z ≡ max x (max y z)
max_assoc x y z = omega arith

-- the records of f, and k more
largest-run : (e : Equivalence) (b : List ℕ) (i end : ℕ) (field : Bool) (depth : ℕ) (f : CountingType) (k : ℕ) → RecordsHold e b i end field depth f →
    largest_from b (size f + k) i ≡ max (largest_count f) (largest_from b k end)
unfolding largest_from largest_count size
largest-run e b i end field depth nil k h =
    let o : 0 + k ≡ k = omega arith in
    let j : i ≡ end = omega (arith, h.ends) in
    rw (o, j) (omega arith)
largest-run e b i end field depth (node l a c s) k h =
    let x = holds-first e b i end field depth l a c s h in
    let o : 1 + (size c + size s) + k ≡ suc (size c + (size s + k)) = omega arith in
    rw (o, x.is-node.count-is, largest-run e b (i + 1) (i + type_span b i) _ _ c (size s + k) x.in-children, largest-run e b (i + type_span b i) end field depth s k x.in-next)
    (rw (max_assoc, max_assoc) refl)

pub largest-held : {e : Equivalence} {b : List ℕ} {end : ℕ} {field : Bool} {depth : ℕ} {f : CountingType} → RecordsHold e b 0 end field depth f → largest_from b end 0 ≡ largest_count f
unfolding largest_from
largest-held {e} {b} {end} {field} {depth} {f} h =
    let o : end ≡ size f + 0 = omega (arith, h.ends) in ap (λ (n : ℕ). largest_from b n 0) o ∙ largest-run e b 0 end field depth f 0 h ∙ omega arith

pub largest-below : (whole : ℕ) (f : CountingType) → Shares whole f → whole ≤ max_total → largest_count f ≤ max_total
unfolding largest_count
largest-below whole nil s h = omega arith
largest-below whole (node l a c s) sh h = omega (arith, sh.1, largest-below (whole_inside l a.count c) c sh.3 sh.2, largest-below whole s sh.4 h)

-- std's larger of two numbers
pub larger-of : (x y : ℕ) → ord_max nat_cmp x y ≡ max x y
larger-of x y = grind (arith, common_steps)
