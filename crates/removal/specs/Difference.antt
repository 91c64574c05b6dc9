-- The difference of two tries: a part is taken out of a whole. Definitions only, over any order of labels and any payload.
use Rattle.std.proofs.Math.Option.{Option, none, some}
use Prim.Native.Nat.Ordering.{eq}
use Prim.Native.Nat.Ordering.{gt}
use Prim.Native.Nat.Ordering.{lt}
use Prim.Native.Nat.{Ordering}
use Rattle.counting_theory.specs.Trie.{Forest, nil, node, TrieOps, Trie}

-- What is left of a payload from which another is taken: there is less than is to be taken, or just as much, or more.
pub data Taken (P : Type 0) : Type 0 where
  short gone : Taken P
  left : P → Taken P

module _ {L P : Type 0} where
  -- a node, where its children and its siblings give something
  unfoldable pub kept : L → P → Option (Forest L P) → Option (Forest L P) → Option (Forest L P)
  kept l a none s = none
  kept l a (some c) none = none
  kept l a (some c) (some s) = some (node l a c s)

  -- the siblings alone, where nothing is left of the children
  unfoldable pub emptied : Option (Forest L P) → Option (Forest L P) → Option (Forest L P)
  emptied none s = none
  emptied (some nil) s = s
  emptied (some (node l a c t)) s = none

  -- a node by what is left of its payload: one that falls to nothing goes, and so must all that is below it
  unfoldable pub taken_node : Taken P → L → Option (Forest L P) → Option (Forest L P) → Option (Forest L P)
  taken_node short l c s = none
  taken_node gone l c s = emptied c s
  taken_node (left a) l c s = kept l a c s

module _ (T : TrieOps) (take : T.Payload → T.Payload → Taken T.Payload) where
  open T use {Label, Payload, compare}

  -- at a first node k of the part, by the comparison of the whole's first label l with k: the part has nothing at l; or both have
  -- the label; or the whole lacks k
  unfoldable pub difference_step : Ordering → Label → Payload → Trie T → (Trie T → Option (Trie T)) → (Trie T → Option (Trie T)) →
      Label → Payload → Trie T → Trie T → Option (Trie T)
  difference_step lt l a c difference_c difference_s k b d t = kept l a (some c) (difference_s (node k b d t))
  difference_step eq l a c difference_c difference_s k b d t = taken_node (take a b) l (difference_c d) (difference_s t)
  difference_step gt l a c difference_c difference_s k b d t = none

  -- the difference of a node, whose children and siblings have theirs by difference_c and difference_s, and a part
  unfoldable pub difference_node : Label → Payload → Trie T → Trie T → (Trie T → Option (Trie T)) → (Trie T → Option (Trie T)) → Trie T → Option (Trie T)
  difference_node l a c s difference_c difference_s nil = some (node l a c s)
  difference_node l a c s difference_c difference_s (node k b d t) = difference_step (compare l k) l a c difference_c difference_s k b d t

  -- what is left of the whole when the part is taken out, if the whole has it all
  unfoldable pub difference : (whole part : Trie T) → Option (Trie T)
  difference nil nil = some nil
  difference nil (node k b d t) = none
  difference (node l a c s) part = difference_node l a c s (difference c) (difference s) part
