-- Comparisons of pairs, of lists and by a key, and what the code's orderings say.
use Rattle.std.specs.Prelude.{List, [], ◌∷◌}
use Rattle.std.specs.declared.cmp.Ordering as code
use Rattle.std.specs.declared.cmp.Ordering.TheVariants.{Less, Equal, Greater}
use Prim.Native.Nat.Ordering.{eq}
use Prim.Native.Nat.Ordering.{gt}
use Prim.Native.Nat.Ordering.{lt}
use Prim.Native.Nat.{Ordering}

-- the first of two comparisons that tells its arguments apart
unfoldable pub then : Ordering → Ordering → Ordering
then lt o = lt
then eq o = o
then gt o = gt

-- lexicographic: by the first components, then by the second
unfoldable pub compare_pair : {A B : Type 0} → (A → A → Ordering) → (B → B → Ordering) → A × B → A × B → Ordering
compare_pair compare_a compare_b x y = then (compare_a x.0 y.0) (compare_b x.1 y.1)

-- the first elements that differ settle the order; a list that begins the other comes first
unfoldable pub compare_list : {A : Type 0} → (A → A → Ordering) → List A → List A → Ordering
compare_list compare [] [] = eq
compare_list compare [] (y ∷ ys) = lt
compare_list compare (x ∷ xs) [] = gt
compare_list compare (x ∷ xs) (y ∷ ys) = then (compare x y) (compare_list compare xs ys)

unfoldable pub compare_on : {A B : Type 0} → (B → B → Ordering) → (A → B) → A → A → Ordering
compare_on compare key x y = compare (key x) (key y)

abbrev pub ordering_of : code.Ordering → Ordering
ordering_of Less = lt
ordering_of Equal = eq
ordering_of Greater = gt
