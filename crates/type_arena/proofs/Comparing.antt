-- The code's orders by early answers: what differs first decides, and what is told stays.
use mathlib.Core.Path.{◌≡◌, refl}
use mathlib.Core.Bool.{true, false}
use Prim.Native.Nat.{ℕ, ◌<◌, compare, Ordering}
use Rattle.std.specs.declared.cmp.Ordering as code
use Rattle.std.specs.declared.cmp.Ordering.TheVariants.{Less, Equal, Greater}
use Rattle.std.specs.Ordering.{MatchOrdering, nat_cmp, ordering_then, is_eq, is_ne}
use Rattle.std.specs.Cmp.{ranks, nat_cmp_is}
use Rattle.counting_theory.specs.Label.{Label, compare_label}
use Rattle.counting_theory.specs.Order.{then, ordering_of}
use Rattle.counting_theory.proofs.LabelOrder.{kind-less, kind-more, heads-differ}
use Rattle.counting_theory.proofs.Order.{number-refl, ordering-compare}

-- labels of two kinds, or of one kind and two keys
module _ (l m : Label) where
  pub kinds-differ : (l.kind ≡ m.kind → ⊥) → ordering_of (nat_cmp l.kind m.kind) ≡ compare_label l m
  kinds-differ n = go (nat_cmp l.kind m.kind) (ranks l.kind m.kind)
    where
      go : (o : code.Ordering) → MatchOrdering o (l.kind < m.kind) (l.kind ≡ m.kind) (m.kind < l.kind) → ordering_of o ≡ compare_label l m
      go Less h = kind-less l m h
      go Equal h = absurd (n h)
      go Greater h = kind-more l m h

  pub keys_differ : l.kind ≡ m.kind → (l.key ≡ m.key → ⊥) → ordering_of (nat_cmp l.key m.key) ≡ compare_label l m
  keys_differ e n = heads-differ l m head (go (nat_cmp l.key m.key) (ranks l.key m.key))
    where
      head : nat_cmp l.key m.key ≡ ordering_then (nat_cmp l.kind m.kind) (nat_cmp l.key m.key)
      head = rw (← nat_cmp_is l.kind m.kind Equal e) refl

      go : (o : code.Ordering) → MatchOrdering o (l.key < m.key) (l.key ≡ m.key) (m.key < l.key) → is_ne o ≡ true
      go Less h = refl
      go Equal h = absurd (n h)
      go Greater h = refl

-- what is left of two lists tells their lengths apart, or nothing is told
module _ (a b : ℕ) where
  pub rests-differ : {u : code.Ordering} → (a ≡ b → ⊥) → u ≡ nat_cmp a b → (o : Ordering) → ordering_of u ≡ then (compare a b) o
  unfolding then
  rests-differ n e o = rw e (go (nat_cmp a b) (ranks a b) (ordering-compare a b))
    where
      go : (u : code.Ordering) → MatchOrdering u (a < b) (a ≡ b) (b < a) → ordering_of u ≡ compare a b → ordering_of u ≡ then (compare a b) o
      go Less h z = rw (← z) refl
      go Equal h z = absurd (n h)
      go Greater h z = rw (← z) refl

  pub rests-same : a ≡ b → (o : Ordering) → o ≡ then (compare a b) o
  unfolding then
  rests-same e o = rw (e, number-refl b) refl

-- the first keys that differ tell lists of one length apart
pub then-told : (o : code.Ordering) (x : Ordering) → is_eq o ≡ true → x ≡ then (ordering_of o) x
unfolding then
then-told Less x e = cc
then-told Equal x e = refl
then-told Greater x e = cc

pub then-kept : (o : code.Ordering) (x : Ordering) → is_eq o ≡ false → ordering_of o ≡ then (ordering_of o) x
unfolding then
then-kept Less x e = refl
then-kept Equal x e = cc
then-kept Greater x e = refl
