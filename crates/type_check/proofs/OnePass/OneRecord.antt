-- The check goes record by record: at the end of a run, and at each record before it, whatever bounds the number of records.
use mathlib.Core.Path.{◌≡◌, refl, sym, ◌∙◌}
use mathlib.Core.Bool.{Bool, true, false, cond, ◌&&◌}
use mathlib.Core.List.{List}
use Rattle.std.proofs.Common.{Option, None, Some}
use Prim.Native.Nat.{ℕ, zero, suc, ◌+◌, ◌-◌, ◌≤◌, ◌<◌}
use native.Mathlib.Omega.{arith}
use lib.Dec.{eqb}
use borrow.Author.Tests.{eqb-true, eqb-false, eq-eqb, ne_eqb}
use Rattle.counting_theory.specs.declared.equivalence.Equivalence.{Equivalence}
use Rattle.type_check.specs.Inside.Reading.{Reading}
use Rattle.type_check.specs.Inside.Checker.{Run, total_of, fits, after, content, agrees, check, check_run}
use Rattle.type_check.proofs.OnePass.Fits.{fits-within}

step-cong : (t : Bool) (g : Option ℕ → Bool) (x x' y y' : Option ℕ) → (t ≡ true → (x ≡ x') × (y ≡ y')) → cond (t && g x) y None ≡ cond (t && g x') y' None
step-cong true g x x' y y' h = rw ((h refl).0, (h refl).1)
step-cong false g x x' y y' h = refl

module _ (q : Reading) (e : Equivalence) (b : List ℕ) where
  -- a step, with these bounds for the content and for the rest
  step_with : ℕ → ℕ → ℕ → ℕ → Run → Option ℕ
  step_with k j p end r =
      cond (fits q e b p end r && agrees q b p r (check q e b k (p + 1) (p + q.span b p) (content q b p r)))
      (check q e b j (p + q.span b p) end (after q b p r))
      None

  module _ (p end : ℕ) (r : Run) where
    check-stop : (k : ℕ) → p ≡ end → check q e b k p end r ≡ Some (total_of r)
    unfolding check
    check-stop zero z = rw (eq-eqb p end z) refl
    check-stop (suc k) z = rw (eq-eqb p end z, check) refl

    check-on : (k : ℕ) → p < end → check q e b (suc k) p end r ≡ step_with k k p end r
    unfolding check step_with
    check-on k z = rw (ne_eqb p end (λ i. omega arith), check) refl

    -- other bounds for what follows make no difference, if they make none wherever the record at p fits
    step-bounds : (k j k' j' : ℕ) →
        (1 ≤ q.span b p → p + q.span b p ≤ end →
        (check q e b k (p + 1) (p + q.span b p) (content q b p r) ≡ check q e b k' (p + 1) (p + q.span b p) (content q b p r))
        × (check q e b j (p + q.span b p) end (after q b p r) ≡ check q e b j' (p + q.span b p) end (after q b p r))) →
        step_with k j p end r ≡ step_with k' j' p end r
    unfolding step_with
    step-bounds k j k' j' h =
        step-cong (fits q e b p end r) (agrees q b p r) _ _ _ _ (λ t. let x = fits-within q e b p end r t in h x.span-low x.span_fits)

  pub check-bound : (k j p end : ℕ) (r : Run) → p ≤ end → end - p ≤ k → end - p ≤ j → check q e b k p end r ≡ check q e b j p end r
  check-bound zero j p end r h m n = check-stop p end r zero (omega arith) ∙ sym (check-stop p end r j (omega arith))
  check-bound (suc k) zero p end r h m n = check-stop p end r (suc k) (omega arith) ∙ sym (check-stop p end r zero (omega arith))
  check-bound (suc k) (suc j) p end r h m n =
      go (eqb p end) refl
      (step-bounds p end r k k j j (λ x y. (
        check-bound k j (p + 1) (p + q.span b p) (content q b p r) (omega arith) (omega arith) (omega arith),
        check-bound k j (p + q.span b p) end (after q b p r) (omega arith) (omega arith) (omega arith),
      )))
    where
      go : (t : Bool) → eqb p end ≡ t → step_with k k p end r ≡ step_with j j p end r → check q e b (suc k) p end r ≡ check q e b (suc j) p end r
      go true z i = check-stop p end r (suc k) (eqb-true p end z) ∙ sym (check-stop p end r (suc j) (eqb-true p end z))
      go false z i =
          let less : p < end = omega (arith, eqb-false p end z) in
          check-on p end r k less ∙ i ∙ sym (check-on p end r j less)

  pub check-end : (end : ℕ) (r : Run) → check_run q e b end end r ≡ Some (total_of r)
  check-end end r = check-stop end end r (end - end) refl

  pub check-step : (p end : ℕ) (r : Run) → p < end →
      check_run q e b p end r
      ≡ cond (fits q e b p end r && agrees q b p r (check_run q e b (p + 1) (p + q.span b p) (content q b p r))) (check_run q e b (p + q.span b p) end (after q b p r)) None
  unfolding step_with
  check-step p end r h =
      let k : ℕ = end - p - 1 in
      let n : end - p ≡ suc k = omega arith in
      rw n (check-on p end r k h ∙ step-bounds p end r k k (p + q.span b p - (p + 1)) (end - (p + q.span b p)) (λ x y. (
        check-bound k (p + q.span b p - (p + 1)) (p + 1) (p + q.span b p) (content q b p r) (omega arith) (omega arith) (omega arith),
        check-bound k (end - (p + q.span b p)) (p + q.span b p) end (after q b p r) (omega arith) (omega arith) (omega arith),
      )))
