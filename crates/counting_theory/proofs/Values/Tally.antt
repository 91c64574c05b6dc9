-- What some values give together, as a trie holds it at the end of a path or below it.
use mathlib.Core.Path.{◌≡◌, refl, sym, ◌∙◌, ap}
use mathlib.Core.List.{List, [], ◌∷◌, ◌++◌}
use mathlib.Core.Logic.{◌↔◌}
use mathlib.Core.Option.{Option, none, some}
use Prim.Native.Nat.{◌≤◌}
use native.Mathlib.Omega.{arith}
use lib.ListN.{length}
use Rattle.counting_theory.specs.Payload.{Payload, one_field, join}
use Rattle.counting_theory.specs.Trie.{at_end, ◌⊞◌ as join_option}
use Rattle.counting_theory.specs.Label.{Label}
use Rattle.counting_theory.specs.Place.{Value, ◌⊞◌, Reached, values, field, reached, having, gathered, value_payload, values_reached, payload_reached, count_of, CountIsNumber}
use Rattle.counting_theory.proofs.Payload.{count-join, count-one, count-field}
use Rattle.counting_theory.proofs.Label.{counting-laws}
use Rattle.counting_theory.proofs.Trie.Join.{⊞-assoc}
use Rattle.counting_theory.proofs.Trie.Canonical.{some-none}

-- x at a path's end, else what stands below
unfoldable pub tally : Option Payload → Option Payload → List Label → Option Payload
tally x below [] = x
tally x below (l ∷ q) = below

pub tally-join : (x x' y y' : Option Payload) (q : List Label) → tally (x ⊞ x') (y ⊞ y') q ≡ tally x y q ⊞ tally x' y' q
unfolding tally
tally-join x x' y y' [] = refl
tally-join x x' y y' (z ∷ q) = refl

-- one more
pub tally-suc : (a : Payload) (x y z : Option Payload) (q : List Label) → tally (some a ⊞ x) (y ⊞ z) q ≡ at_end a y q ⊞ tally x z q
unfolding tally at_end
tally-suc a x y z [] = refl
tally-suc a x y z (l ∷ q) = refl

pub tally-none : (q : List Label) → tally none none q ≡ none
unfolding tally
tally-none [] = refl
tally-none (x ∷ q) = refl

pub some-joined : (a : Payload) (x : Option Payload) → (b : Payload) × (some a ⊞ x ≡ some b)
unfolding join_option
some-joined a none = (a, refl)
some-joined a (some b) = (join a b, refl)

module _ (give : Value → Payload) where
  pub gathered-append : (M N : List Value) → gathered give (M ++ N) ≡ gathered give M ⊞ gathered give N
  unfolding gathered join_option
  gathered-append [] N = refl
  gathered-append (v ∷ M) N = ap (λ x. some (give v) ⊞ x) (gathered-append M N) ∙ sym (⊞-assoc counting-laws (some (give v)) (gathered give M) (gathered give N))

  gathered-some : (M : List Value) → ((a : Payload) × (gathered give M ≡ some a)) ↔ (1 ≤ length M)
  unfolding gathered
  gathered-some [] = (λ h. absurd (some-none (sym h.1)), λ h. absurd (omega arith))
  gathered-some (v ∷ M) = (λ h. omega arith, λ h. some-joined (give v) (gathered give M))

  count-gathered : ((v : Value) → (give v).count ≡ 1) → (M : List Value) → count_of (gathered give M) ≡ length M
  unfolding gathered join_option
  count-gathered h [] = refl
  count-gathered h (v ∷ M) = more (gathered give M) (count-gathered h M)
    where
      more : (x : Option Payload) → count_of x ≡ length M → count_of (some (give v) ⊞ x) ≡ length (v ∷ M)
      more none i = omega (arith, h v)
      more (some b) i = omega (arith, h v, count-join (give v) b)

-- where all give the same, only their number matters
pub gathered-same : (a : Payload) (M N : List Value) → length M ≡ length N → gathered (λ v. a) M ≡ gathered (λ v. a) N
unfolding gathered
gathered-same a [] [] h = refl
gathered-same a [] (w ∷ N) h = absurd (omega arith)
gathered-same a (v ∷ M) [] h = absurd (omega arith)
gathered-same a (v ∷ M) (w ∷ N) h = ap (λ x. some a ⊞ x) (gathered-same a M N (omega arith))

pub length-values : (M : List Value) → count_of (gathered value_payload M) ≡ length M
length-values = count-gathered value_payload (λ v. count-one v.head v.content)

count-reached : (r : Reached) → count_of (payload_reached r) ≡ length (values_reached r)
unfolding payload_reached values_reached
count-reached (values M) = length-values M
count-reached (field k M) = count-gathered (λ v. one_field) (λ v. count-field) (having k M)

pub count-is-number : CountIsNumber
count-is-number e M place = count-reached (reached e M place)

pub some-reached : (r : Reached) → ((a : Payload) × (payload_reached r ≡ some a)) ↔ (1 ≤ length (values_reached r))
unfolding payload_reached values_reached
some-reached (values M) = gathered-some value_payload M
some-reached (field k M) = gathered-some (λ v. one_field) (having k M)
