-- Two lists in which everything occurs equally often are permutations of each other.
use mathlib.Core.Path.{◌≡◌, refl, sym, ◌∙◌}
use mathlib.Core.Bool.{Bool, true, false, cond}
use mathlib.Core.List.Permᴰ
use mathlib.Core.List.{List, [], ◌∷◌, Permᴰ}
use Prim.Native.Nat.{ℕ, ◌+◌, ◌≤◌}
use native.Mathlib.Omega.{arith}
use Rattle.byte_records.specs.Number.{same_bytes}
use Rattle.byte_records.proofs.Tests.{same_refl, same-eq}
use Rattle.counting_theory.specs.Ways.{occurrences}

occurs-head : (m : List ℕ) (xs : List (List ℕ)) → 1 ≤ occurrences m (m ∷ xs)
unfolding occurrences
occurs-head m xs = rw (same_refl m) (omega arith)

-- an entry that occurs can be brought to the front
front : (m : List ℕ) (xs : List (List ℕ)) → 1 ≤ occurrences m xs → (ys : List (List ℕ)) × Permᴰ xs (m ∷ ys)
unfolding occurrences
front m [] h = absurd (omega arith)
front m (x ∷ xs) h = go (same_bytes m x) refl (front m xs) h
  where
    go : (b : Bool) → same_bytes m x ≡ b → (1 ≤ occurrences m xs → (ys : List (List ℕ)) × Permᴰ xs (m ∷ ys)) → 1 ≤ cond b 1 0 + occurrences m xs →
        (ys : List (List ℕ)) × Permᴰ (x ∷ xs) (m ∷ ys)
    go true e later k = (xs, Permᴰ.cons (sym (same-eq m x e)) (Permᴰ.refl xs))
    go false e later k =
        let r = later (omega arith) in
        (x ∷ r.0, Permᴰ.trans (Permᴰ.cons refl r.1) (Permᴰ.swap refl refl))

occurs-perm : (m : List ℕ) {xs ys : List (List ℕ)} → Permᴰ xs ys → occurrences m xs ≡ occurrences m ys
unfolding occurrences
occurs-perm m Permᴰ.nil = refl
occurs-perm m (Permᴰ.cons e d) = rw (e, occurs-perm m d) refl
occurs-perm m (Permᴰ.swap e h) = rw (e, h) (omega arith)
occurs-perm m (Permᴰ.trans d e) = occurs-perm m d ∙ occurs-perm m e

pub perm-occurs : (xs ys : List (List ℕ)) → ((m : List ℕ) → occurrences m xs ≡ occurrences m ys) → Permᴰ xs ys
unfolding occurrences
perm-occurs [] [] h = Permᴰ.nil
perm-occurs [] (y ∷ ys) h = absurd (omega (arith, h y, occurs-head y ys))
perm-occurs (x ∷ xs) ys h =
    let r = front x ys (omega (arith, h x, occurs-head x xs)) in
    let d = perm-occurs xs r.0 (λ m. omega (arith, h m, occurs-perm m r.1)) in
    Permᴰ.trans (Permᴰ.cons refl d) (Permᴰ.symm r.1)
