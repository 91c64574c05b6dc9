-- Moving a list's first n elements up, the last one first.
use mathlib.Core.Path.{◌≡◌, sym, ◌∙◌, ap}
use mathlib.Core.List.{List, ◌∷◌, ◌++◌}
use Prim.Native.Nat.{ℕ, suc, ◌+◌, ◌≤◌, ◌<◌}
use native.Mathlib.Nat.{le_refl}
use native.Mathlib.Omega.{arith}
use lib.ListN.{length, take, drop, get_or, set, length-take, length-set}
use lib.Seq.{take-take, take-set-le, drop-cons, drop-set-lt, get_or-set_same, get_or-take}

-- the elements of a₀ from i to n have moved up by `gap`
abbrev pub Moved : List ℕ → ℕ → ℕ → List ℕ → ℕ → Type 0
Moved a₀ n gap a i = (take (i + gap) a ≡ take (i + gap) a₀) × (drop (i + gap) a ≡ drop i (take n a₀) ++ drop (n + gap) a₀)

module _ (a₀ : List ℕ) (n gap : ℕ) (room : n + gap ≤ length a₀) where
  module _ (a : List ℕ) (i j : ℕ) (e : i ≡ suc j) (le : i ≤ n) (len : length a ≡ length a₀) (m : Moved a₀ n gap a i) where
    same : get_or a j 0 ≡ get_or a₀ j 0
    same =
        let h : j < i + gap = omega arith in
        sym (get_or-take (i + gap) a j 0 h) ∙ ap (λ l. get_or l j 0) m.0 ∙ get_or-take (i + gap) a₀ j 0 h

    pub moved-next : Moved a₀ n gap (set a (j + gap) (get_or a j 0)) j
    moved-next =
        let h : j + gap ≤ i + gap = omega arith in
        let w : j + gap < length a = omega arith in
        let z : suc (j + gap) ≡ i + gap = omega arith in
        let u : j < length (take n a₀) = simp length-take (omega arith) in
        let r : drop (j + gap) (set a (j + gap) (get_or a j 0)) ≡ get_or a j 0 ∷ drop (i + gap) a =
        drop-cons (set a (j + gap) (get_or a j 0)) (j + gap) 0 (simp length-set w)
        ∙ rw (get_or-set_same a (j + gap) (get_or a j 0) 0 w, drop-set-lt (suc (j + gap)) a (j + gap) (get_or a j 0) (le_refl _), z) in
        let v : drop j (take n a₀) ≡ get_or a₀ j 0 ∷ drop i (take n a₀) =
        drop-cons (take n a₀) j 0 u ∙ rw (get_or-take n a₀ j 0 (omega arith), e) in (
          take-set-le (j + gap) a (j + gap) (get_or a j 0) (le_refl _) ∙ sym (take-take (j + gap) (i + gap) a h) ∙ ap (take (j + gap)) m.0 ∙ take-take (j + gap) (i + gap) a₀ h,
          r ∙ rw (same, m.1, v),
        )
