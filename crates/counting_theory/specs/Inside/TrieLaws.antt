-- What the generic laws of tries ask of the operations, and the notions that they are stated in.
use Rattle.std.specs.Prelude.{◌≡◌, List, [], ◌∷◌}
use Prim.Native.Nat.Ordering.{eq}
use Prim.Native.Nat.Ordering.{gt}
use Prim.Native.Nat.Ordering.{lt}
use Prim.Native.Nat.{◌+◌, ◌≤◌, Ordering}
use Rattle.counting_theory.specs.Trie.{Forest, nil, node, TrieOps, size, Trie, lookup, total, largest_total}

abbrev pub flip : Ordering → Ordering
flip lt = gt
flip eq = eq
flip gt = lt

-- a strict total order, by its comparison
pub record IsOrder {L : Type 0} (compare : L → L → Ordering) : Type 0 where
  pub compare_refl : (x : L) → compare x x ≡ eq
  pub compare-eq : {x y : L} → compare x y ≡ eq → x ≡ y
  pub compare-flip : (x y : L) → compare y x ≡ flip (compare x y)
  pub compare-trans : {x y z : L} → compare x y ≡ lt → compare y z ≡ lt → compare x z ≡ lt

-- what is asked of these operations
pub record TrieLaws (T : TrieOps) : Type 0 where
  pub order : IsOrder T.compare
  pub join-comm : (a b : T.Payload) → T.join a b ≡ T.join b a
  pub join-assoc : (a b c : T.Payload) → T.join (T.join a b) c ≡ T.join a (T.join b c)
  pub weight-join : (l : T.Label) (a b : T.Payload) → T.weight l (T.join a b) ≡ T.weight l a + T.weight l b

module _ {L P : Type 0} where
  unfoldable pub append : Forest L P → Forest L P → Forest L P
  append nil g = g
  append (node l a c s) g = node l a c (append s g)

  -- a collection of forests as one
  unfoldable pub concat : List (Forest L P) → Forest L P
  concat [] = nil
  concat (r ∷ rs) = append r (concat rs)

module _ (T : TrieOps) where
  open T use {Label}

  abbrev pub SameMap : Trie T → Trie T → Type 0
  SameMap f g = (q : List Label) → lookup T f q ≡ lookup T g q

  -- whatever limits g keeps, f keeps too
  pub record NoLarger (f g : Trie T) : Type 0 where
    pub sizes : size f ≤ size g
    pub totals : total T f ≤ total T g
    pub largest : largest_total T f ≤ largest_total T g
