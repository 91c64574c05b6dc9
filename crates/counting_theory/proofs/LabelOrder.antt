-- Labels by their parts: by kind, then by key, then by key list, which only records under label have.
use mathlib.Core.Path.{◌≡◌, refl, sym, ap, ◌∙◌}
use mathlib.Core.List.{List, []}
use Prim.Native.Nat.Ordering.{eq}
use Prim.Native.Nat.Ordering.{gt}
use Prim.Native.Nat.Ordering.{lt}
use mathlib.Core.Bool.{true, false}
use Prim.Native.Nat.{ℕ, ◌<◌, compare, Ordering}
use borrow.Author.Tests.{eq-eqb, ne_eqb}
use Rattle.value_table.specs.Value.{record_kind}
use Rattle.counting_theory.specs.Order.{then, compare_pair, compare_on, ordering_of}
use Rattle.counting_theory.specs.Label.{Label, listed, label_of, compare_keys, compare_label}
use Rattle.counting_theory.specs.declared.equivalence.Equivalence.{Equivalence}
use Rattle.counting_theory.specs.declared.equivalence.Equivalence.TheVariants.{Kind as by_kind, Label as by_label}
use Rattle.std.specs.declared.cmp.Ordering as code
use Rattle.std.specs.declared.cmp.Ordering.TheVariants.{Less, Equal, Greater}
use Rattle.std.specs.Ordering.{is_ne, nat_cmp, ordering_then}
use denote.Enum.Bare.{sameb}
use Rattle.counting_theory.specs.contracts.equivalence.Equivalence.{the_type}
use Rattle.counting_theory.proofs.Order.{number-refl, less-compare, more-compare, number-order, then-eq, then-assoc, ordering-compare, ordering-then}
use Rattle.counting_theory.proofs.KeyOrder.{keys-order}

module _ (l m : Label) where
  by_parts : compare_label l m ≡ then (compare l.kind m.kind) (then (compare l.key m.key) (compare_keys l.keys m.keys))
  unfolding compare_on compare_pair
  by_parts = refl

  pub kind-less : l.kind < m.kind → lt ≡ compare_label l m
  unfolding then
  kind-less h = sym (by_parts ∙ rw (less-compare l.kind m.kind h) refl)

  pub kind-more : m.kind < l.kind → gt ≡ compare_label l m
  unfolding then
  kind-more h = sym (by_parts ∙ rw (more-compare l.kind m.kind h) refl)

  module _ (kinds : l.kind ≡ m.kind) where
    pub key_more : m.key < l.key → gt ≡ compare_label l m
    unfolding then
    key_more h = sym (by_parts ∙ rw (kinds, number-refl, more-compare l.key m.key h) refl)

    by-keys : l.key ≡ m.key → compare_label l m ≡ compare_keys l.keys m.keys
    unfolding then
    by-keys keys = by_parts ∙ rw (kinds, keys, number-refl, number-refl) refl

    unlisted : l.key ≡ m.key → l.keys ≡ [] → m.keys ≡ [] → eq ≡ compare_label l m
    unlisted keys p q = sym (by-keys keys ∙ rw (p, q) (keys-order.compare_refl []))

no-list : (e : Equivalence) (kind : ℕ) (ks : List ℕ) → (kind ≡ record_kind → ⊥) → listed e kind ks ≡ []
unfolding listed
no-list by_kind kind ks h = refl
no-list by_label kind ks h = rw (ne_eqb kind record_kind h) refl

-- one kind and one key
module _ (e : Equivalence) {k j x y : ℕ} (kinds : k ≡ j) (keys : x ≡ y) (ks js : List ℕ) where
  abbrev order : Ordering
  order = compare_label (label_of e k x ks) (label_of e j y js)

  pub under-kind : e ≡ by_kind → eq ≡ order
  unfolding listed
  under-kind z = unlisted (label_of e k x ks) (label_of e j y js) kinds keys (rw z refl) (rw z refl)

  pub no_record : (k ≡ record_kind → ⊥) → eq ≡ order
  no_record h = unlisted (label_of e k x ks) (label_of e j y js) kinds keys (no-list e k ks h) (no-list e j js (λ z. h (kinds ∙ z)))

  pub by-lists : e ≡ by_label → k ≡ record_kind → compare_keys ks js ≡ order
  unfolding listed
  by-lists z h = sym (by-keys (label_of e k x ks) (label_of e j y js) kinds keys ∙ rw (z, ← kinds, eq-eqb k record_kind h) refl)

-- the code's test for an equivalence
pub tested-kind : (e : Equivalence) → sameb the_type e by_kind ≡ true → e ≡ by_kind
tested-kind by_kind h = refl
tested-kind by_label h = cc

pub tested-label : (e : Equivalence) → sameb the_type e by_kind ≡ false → e ≡ by_label
tested-label by_kind h = cc
tested-label by_label h = refl

pub not-ne : (o : code.Ordering) → is_ne o ≡ false → ordering_of o ≡ eq
not-ne Less z = cc
not-ne Equal z = refl
not-ne Greater z = cc

-- how the code compares two labels by kind and key
module _ (l m : Label) where
  abbrev pub Heads : code.Ordering → Type 0
  Heads o = o ≡ ordering_then (nat_cmp l.kind m.kind) (nat_cmp l.key m.key)

  module _ {o : code.Ordering} (h : Heads o) where
    heads : ordering_of o ≡ then (compare l.kind m.kind) (compare l.key m.key)
    heads = ap ordering_of h ∙ ordering-then (nat_cmp l.kind m.kind) (nat_cmp l.key m.key) ∙ rw (ordering-compare, ordering-compare) refl

    pub heads-differ : is_ne o ≡ true → ordering_of o ≡ compare_label l m
    unfolding then
    heads-differ z = go o z heads ∙ sym (by_parts l m)
      where
        go : (u : code.Ordering) → is_ne u ≡ true → ordering_of u ≡ then (compare l.kind m.kind) (compare l.key m.key) →
            ordering_of u ≡ then (compare l.kind m.kind) (then (compare l.key m.key) (compare_keys l.keys m.keys))
        go Less z e = rw (then-assoc, ← e) refl
        go Equal z e = cc
        go Greater z e = rw (then-assoc, ← e) refl

    heads-same : is_ne o ≡ false → (compare l.kind m.kind ≡ eq) × (compare l.key m.key ≡ eq)
    heads-same z = then-eq (compare l.kind m.kind) (compare l.key m.key) (sym heads ∙ not-ne o z)

    pub same-kind : is_ne o ≡ false → l.kind ≡ m.kind
    same-kind z = number-order.compare-eq (heads-same z).0

    pub same-key : is_ne o ≡ false → l.key ≡ m.key
    same-key z = number-order.compare-eq (heads-same z).1
