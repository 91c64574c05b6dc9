-- Well-formed types place by place: what their bytes depend on, and what a merge has at each place.
use mathlib.Core.Path.{◌≡◌, refl, sym, ◌∙◌, ap, subst}
use mathlib.Core.Logic.{◌⊎◌, inl, inr, ◌↔◌}
use mathlib.Core.List.{List}
use mathlib.Core.Option.{Option, none, some}
use Prim.Native.Nat.{◌+◌}
use native.Mathlib.Omega.{arith}
use Rattle.counting_theory.specs.Payload.{Payload, join}
use Rattle.counting_theory.specs.Trie.{◌⊞◌ as join_option, lookup}
use Rattle.counting_theory.specs.Label.{Label, Counting, CountingType}
use Rattle.counting_theory.specs.Place.{◌⊞◌, count_of, Stands}
use Rattle.counting_theory.specs.WellFormed.{OneOrder, MergedPlaces, MergedTwice}
use Rattle.counting_theory.proofs.Payload.{count-join}
use Rattle.counting_theory.proofs.Label.{counting-laws}
use Rattle.counting_theory.proofs.Trie.Lookup.{lookup-reduce}
use Rattle.counting_theory.proofs.Trie.Canonical.{some-none}
use Rattle.counting_theory.proofs.Encoding.Decode.{encode-same-map}

pub one-order : OneOrder
one-order e b c f g t u h = t.bytes ∙ encode-same-map f g t.sorted u.sorted h ∙ sym u.bytes

abbrev IsSome : Option Payload → Type 0
IsSome x = (a : Payload) × (x ≡ some a)

some-join : (x y : Option Payload) → IsSome (x ⊞ y) ↔ (IsSome x ⊎ IsSome y)
unfolding join_option
some-join none y = (λ i. inr i, from)
  where
    from : IsSome none ⊎ IsSome y → IsSome y
    from (inl i) = absurd (some-none (sym i.1))
    from (inr j) = j
some-join (some a) none = (λ i. inl (a, refl), λ i. (a, refl))
some-join (some a) (some b) = (λ i. inl (a, refl), λ i. (join a b, refl))

count-both : (x y : Option Payload) → count_of (x ⊞ y) ≡ count_of x + count_of y
unfolding join_option
count-both none y = omega arith
count-both (some a) none = omega arith
count-both (some a) (some b) = count-join a b

pub merged-places : MergedPlaces
merged-places f g place =
    let e = lookup-reduce counting-laws f g place in
    let x = lookup Counting f place in
    let y = lookup Counting g place in
    record {
      stands = subst (λ (z : Option Payload). IsSome z ↔ (IsSome x ⊎ IsSome y)) (sym e) (some-join x y);
      payload = e;
      count = ap count_of e ∙ count-both x y;
    }

one_of_two : (f : CountingType) (place : List Label) → Stands f place ⊎ Stands f place → Stands f place
one_of_two f place (inl i) = i
one_of_two f place (inr i) = i

pub merged-twice : MergedTwice
merged-twice f place =
    let m = merged-places f f place in
    ((λ i. one_of_two f place (m.stands.0 i), λ i. m.stands.1 (inl i)), omega (arith, m.count))
