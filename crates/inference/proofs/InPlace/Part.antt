-- The tail of a slice that is lent and comes back, and a store at its front.
use mathlib.Core.Path.{◌≡◌, sym, ◌∙◌, ap}
use mathlib.Core.List.{List, [], ◌++◌, append-nil, append_assoc}
use Prim.Native.Nat.{ℕ, ◌-◌, ◌≤◌}
use native.Mathlib.Omega.{arith}
use lib.ListN.{length, take, drop, length-append, drop_of_length-le, take-append-drop}
use lib.Seq.{take_at, drop_at, take_all, drop-append-add, sets, sets-eq}
use borrow.Rule.Slice.PartMut.{put_mid}

module _ (a p s : List ℕ) (o : ℕ) (e : a ≡ p ++ s) (z : length p ≡ o) where
  pub tail-drop : drop o a ≡ s
  tail-drop = rw e (drop_at p s o z)

  pub tail-part : take (length a - o) (drop o a) ≡ s
  tail-part = rw tail-drop (take_all (length a - o) s (omega (arith, simp length-append at (ap length e))))

  pub tail-put : (t : List ℕ) → put_mid o (length a - o) a t ≡ p ++ t
  tail-put t =
      let w : drop (length a - o) s ≡ [] = drop_of_length-le s {i = length a - o} (omega (arith, simp length-append at (ap length e))) in
      let u : take o a ≡ p = rw e (take_at p s o z) in
      rw (u, tail-drop, w) (ap (λ l. p ++ l) (append-nil t))

  pub tail-sets : (t vs : List ℕ) → length vs ≤ length t → sets (put_mid o (length a - o) a t) o vs ≡ p ++ (vs ++ drop (length vs) t)
  tail-sets t vs h =
      rw (tail-put t)
      (sets-eq vs (p ++ t) o (omega (arith, length-append p t))
      ∙ rw (take_at p t o z, ← z, drop-append-add p t (length vs)) (append_assoc p vs (drop (length vs) t)))

-- a list split at o
pub split_off : (a : List ℕ) (o : ℕ) → a ≡ take o a ++ drop o a
split_off a o = sym (take-append-drop o a)
