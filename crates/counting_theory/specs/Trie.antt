-- Counting tries: finite maps from paths of labels to payloads, as sorted lists of siblings. Definitions only, over any order
-- of labels and any payload.
use Rattle.std.specs.Prelude.{◌≡◌, List, [], ◌∷◌}
use Rattle.std.proofs.Math.Option.{Option, none, some}
use Prim.Native.Nat.Ordering.{eq}
use Prim.Native.Nat.Ordering.{gt}
use Prim.Native.Nat.Ordering.{lt}
use Prim.Native.Nat.{ℕ, ◌+◌, max, Ordering}

-- a list of siblings, each with its children
pub data Forest (L P : Type 0) : Type 0 where
  nil : Forest L P
  node : (label : L) (payload : P) (children next : Forest L P) → Forest L P

-- What a trie is made over. A node adds its weight to the total of its siblings: 0 for a label that is no union member.
pub record TrieOps : Type 1 where
  pub Label : Type 0
  pub Payload : Type 0
  pub compare : Label → Label → Ordering
  pub join : Payload → Payload → Payload
  pub weight : Label → Payload → ℕ

module _ {L P : Type 0} where
  unfoldable pub size : Forest L P → ℕ
  size nil = 0
  size (node l a c s) = 1 + (size c + size s)

  -- a node's payload where the path ends, else what its children give
  unfoldable pub at_end : P → Option P → List L → Option P
  at_end a below [] = some a
  at_end a below (x ∷ q) = below

-- o where the labels compared are equal, else nothing
unfoldable pub when_equal : {P : Type 0} → Ordering → Option P → Option P
when_equal lt o = none
when_equal eq o = o
when_equal gt o = none

module _ (T : TrieOps) where
  open T use {Label, Payload, compare, join as ◌⊕◌, weight}

  infixr 66 ◌⊕◌
  infixr 66 ◌⊞◌
  abbrev pub Trie : Type 0
  Trie = Forest Label Payload

  -- join, with none as its unit
  unfoldable pub ◌⊞◌ : Option Payload → Option Payload → Option Payload
  none ⊞ y = y
  some a ⊞ none = some a
  some a ⊞ some b = some (a ⊕ b)

  -- what one node gives at a path; `below` is what its children give
  unfoldable pub lookup_node : Label → Payload → (List Label → Option Payload) → List Label → Option Payload
  lookup_node l a below [] = none
  lookup_node l a below (x ∷ q) = when_equal (compare x l) (at_end a (below q) q)

  -- the join over all siblings with the path's first label, so that it has a meaning on raw forests too
  unfoldable pub lookup : Trie → List Label → Option Payload
  lookup nil q = none
  lookup (node l a c s) q = lookup_node l a (lookup c) q ⊞ lookup s q

  -- insert at a first node with label k, by the comparison of l with k; r is what insert makes of its siblings s
  unfoldable pub insert_step : Ordering → Label → Payload → (Trie → Trie) → Label → Payload → Trie → Trie → Trie → Trie
  insert_step lt l a g k b d s r = node l a (g nil) (node k b d s)
  insert_step eq l a g k b d s r = node k (b ⊕ a) (g d) s
  insert_step gt l a g k b d s r = node k b d r

  -- find or insert l among sorted siblings, join a to its payload, and apply g to its children
  unfoldable pub insert : Label → Payload → (Trie → Trie) → Trie → Trie
  insert l a g nil = node l a (g nil) nil
  insert l a g (node k b d s) = insert_step (compare l k) l a g k b d s (insert l a g s)

  -- add the raw forest r to the trie f
  unfoldable pub add : Trie → Trie → Trie
  add nil f = f
  add (node l a c s) f = add s (insert l a (add c) f)

  abbrev pub profile : Trie → Trie
  profile r = add r nil

  -- reduce_node at a node with label k, by the comparison of l with k; r is what it makes of the siblings t
  unfoldable pub reduce_step : Ordering → Label → Payload → Trie → (Trie → Trie) → (Trie → Trie) → Label → Payload → Trie → Trie → Trie → Trie
  reduce_step lt l a c reduce_c reduce_s k b d t r = node l a c (reduce_s (node k b d t))
  reduce_step eq l a c reduce_c reduce_s k b d t r = node l (a ⊕ b) (reduce_c d) (reduce_s t)
  reduce_step gt l a c reduce_c reduce_s k b d t r = node k b d r

  -- the merge of a node, whose children and siblings merge by reduce_c and reduce_s, with a second trie
  unfoldable pub reduce_node : Label → Payload → Trie → (Trie → Trie) → (Trie → Trie) → Trie → Trie
  reduce_node l a c reduce_c reduce_s nil = node l a c (reduce_s nil)
  reduce_node l a c reduce_c reduce_s (node k b d t) = reduce_step (compare l k) l a c reduce_c reduce_s k b d t (reduce_node l a c reduce_c reduce_s t)

  -- Reduce of document 000, as the merge of two sorted lists of siblings
  unfoldable pub reduce : Trie → Trie → Trie
  reduce nil g = g
  reduce (node l a c s) g = reduce_node l a c (reduce c) (reduce s) g

  -- x comes before the first label of f
  abbrev pub Before : Label → Trie → Type 0
  Before x nil = Unit {0}
  Before x (node k b d s) = compare x k ≡ lt

  -- siblings ascend strictly by label, at every level
  abbrev pub Sorted : Trie → Type 0
  Sorted nil = Unit {0}
  Sorted (node l a c s) = Before l s × Sorted c × Sorted s

  -- the weights of a list of siblings together
  unfoldable pub total : Trie → ℕ
  total nil = 0
  total (node l a c s) = weight l a + total s

  -- the largest total of any list of children
  unfoldable pub largest_below : Trie → ℕ
  largest_below nil = 0
  largest_below (node l a c s) = max (max (total c) (largest_below c)) (largest_below s)

  -- the largest total of any union
  unfoldable pub largest_total : Trie → ℕ
  largest_total f = max (total f) (largest_below f)
