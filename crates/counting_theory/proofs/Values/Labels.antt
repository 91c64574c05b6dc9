-- Labels told apart, and lookup at a node by whether the labels are the same.
use mathlib.Core.Path.{◌≡◌, refl, sym, ◌∙◌, ap}
use mathlib.Core.Bool.{Bool, true, false, true≢false}
use mathlib.Core.List.{List, ◌∷◌}
use Prim.Native.Nat.Ordering.{eq}
use Prim.Native.Nat.Ordering.{gt}
use Prim.Native.Nat.Ordering.{lt}
use Prim.Native.Nat.{Ordering}
use lib.Dec.{compare_is_eq}
use Rattle.counting_theory.specs.Payload.{Payload}
use Rattle.counting_theory.specs.Trie.{node, at_end, when_equal, ◌⊞◌ as join_option, lookup_node, lookup}
use Rattle.counting_theory.specs.Label.{Label, compare_label, Counting, CountingType}
use Rattle.counting_theory.specs.Place.{same_label}
use Rattle.counting_theory.proofs.Label.{label-order}

pub same_refl : (l : Label) → same_label l l ≡ true
same_refl l = ap compare_is_eq (label-order.compare_refl l)

module _ (l m : Label) where
  pub same-label : same_label l m ≡ true → l ≡ m
  same-label = go (compare_label l m) refl
    where
      go : (o : Ordering) → compare_label l m ≡ o → compare_is_eq o ≡ true → l ≡ m
      go lt e h = cc
      go eq e h = label-order.compare-eq e
      go gt e h = cc

  pub other-label : ¬ (l ≡ m) → same_label l m ≡ false
  other-label h = go (same_label l m) refl
    where
      go : (b : Bool) → same_label l m ≡ b → b ≡ false
      go true e = absurd (h (same-label e))
      go false e = refl

  pub labels-differ : same_label l m ≡ false → ¬ (l ≡ m)
  labels-differ h z = true≢false (sym (rw z (same_refl m)) ∙ h)

  -- a node with another label gives nothing
  pub lookup-other : (a : Payload) (c s : CountingType) (q : List Label) → same_label l m ≡ false →
      lookup Counting (node m a c s) (l ∷ q) ≡ lookup Counting s (l ∷ q)
  unfolding lookup lookup_node when_equal join_option
  lookup-other a c s q = go (compare_label l m)
    where
      go : (o : Ordering) → compare_is_eq o ≡ false → join_option Counting (when_equal o (at_end a (lookup Counting c q) q)) (lookup Counting s (l ∷ q)) ≡ lookup Counting s (l ∷ q)
      go lt h = refl
      go eq h = absurd (true≢false h)
      go gt h = refl
