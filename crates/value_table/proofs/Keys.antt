-- A key is new to a list exactly when the list with the key behind it stays distinct.
use mathlib.Core.Path.{◌≡◌, refl}
use mathlib.Core.Bool.{false}
use mathlib.Core.List.{List, [], ◌∷◌, ◌++◌}
use Prim.Native.Nat.{ℕ}
use lib.Dec.{eqb}
use Rattle.value_table.specs.Value.{member, Distinct}
use Rattle.byte_records.proofs.Tests.{or_parts}
use Rattle.value_table.proofs.TableLayout.{member-append, eqb-sym}

pub distinct-new : (k : ℕ) (xs ys : List ℕ) → Distinct (xs ++ (k ∷ ys)) → member k xs ≡ false
unfolding member Distinct
distinct-new k [] ys d = refl
distinct-new k (x ∷ xs) ys d =
    let p = or_parts (member x xs) (member x (k ∷ ys)) (rw (member-append x xs (k ∷ ys)) at d.0) in
    let q = or_parts (eqb x k) (member x ys) p.1 in
    rw (eqb-sym x k q.0, distinct-new k xs ys d.1) refl
