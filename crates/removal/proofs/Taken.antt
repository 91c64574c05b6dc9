-- Taking a payload from a payload, as removal does.
use mathlib.Core.Path.{◌≡◌, refl, ◌∙◌, ap}
use mathlib.Core.Bool.{true}
use Prim.Native.Nat.Ordering.{eq}
use Prim.Native.Nat.Ordering.{gt}
use Prim.Native.Nat.Ordering.{lt}
use Prim.Native.Nat.{ℕ, ◌+◌, ◌-◌, ◌≤◌, ◌<◌, compare, Ordering}
use native.Mathlib.Omega.{arith}
use borrow.Author.Tests.{le-leb}
use Rattle.removal_theory.specs.Payload.{Payload, join, proper}
use Rattle.counting_theory.specs.Trie.{nil, node}
use Rattle.counting_theory.specs.Inside.TrieLaws.{flip}
use Rattle.removal_theory.specs.Label.{Counting, CountingType}
use Rattle.removal_theory.specs.WellFormed.{counted, measured}
use Rattle.counting_theory.proofs.Order.{number-refl, number-order, compare-less, more-compare}
use Rattle.counting_theory.proofs.WellFormed.Tests.{three}
use Rattle.removal_theory.proofs.WellFormed.Nodes.{counted-parts}
use Rattle.removal.specs.Difference.{gone, left}
use Rattle.removal.specs.Removed.{taken_by, taken}
use Rattle.removal.proofs.Difference.{TakeLaws, Each}

-- the payloads of a type
abbrev pub Positive : Payload → Type 0
Positive a = 1 ≤ a.count

pub same_count : (a b : Payload) → a.count ≡ b.count → a ≡ b
same_count a b h = λ i. record { count = h i }

taken-left : (a b c : Payload) → taken a b ≡ left c → (join c b ≡ a) × Positive c
unfolding taken taken_by join
taken-left a b c h = go (compare a.count b.count) refl h
  where
    go : (o : Ordering) → compare a.count b.count ≡ o → taken_by o (a.count - b.count) ≡ left c → (join c b ≡ a) × Positive c
    go lt e h = (cc, absurd (let z : ◌≡◌ {A = ℕ} 0 1 = cc in omega arith))
    go eq e h = (cc, absurd (let z : ◌≡◌ {A = ℕ} 0 1 = cc in omega arith))
    go gt e h =
        let z : ◌≡◌ {A = Payload} (record { count = a.count - b.count }) c = cc in
        let n : a.count - b.count ≡ c.count = ap (λ (p : Payload). p.count) z in
        let y : b.count < a.count = compare-less b.count a.count (number-order.compare-flip a.count b.count ∙ ap flip e) in
        (same_count (join c b) a (omega arith), omega arith)

taken-gone : (a b : Payload) → taken a b ≡ gone → a ≡ b
unfolding taken taken_by
taken-gone a b h = go (compare a.count b.count) refl h
  where
    go : (o : Ordering) → compare a.count b.count ≡ o → taken_by o (a.count - b.count) ≡ gone → a ≡ b
    go lt e h = cc
    go eq e h = same_count a b (number-order.compare-eq e)
    go gt e h = cc

taken-join : (a b : Payload) → Positive a → taken (join a b) b ≡ left a
unfolding taken taken_by join
taken-join a b h =
    let n : (a.count + b.count) - b.count ≡ a.count = omega arith in
    rw (more-compare (a.count + b.count) b.count (omega arith), n)

taken-self : (b : Payload) → taken b b ≡ gone
unfolding taken taken_by
taken-self b = rw (number-refl b.count)

pub taken-laws : TakeLaws Counting taken Positive
taken-laws =
    record {
      take-join = taken-join;
      take-self = taken-self;
      take_left = λ {a} {b} {c}. taken-left a b c;
      take-gone = λ {a} {b}. taken-gone a b;
    }

-- the rules of a type that look at payloads alone
pub counted-each : (f : CountingType) → counted f ≡ true → Each Counting Positive f
counted-each nil h = tt
counted-each (node l a c s) h = let p = counted-parts l a c s h in (p.0, counted-each c p.1, counted-each s p.2)

pub each-counted : (f : CountingType) → Each Counting Positive f → counted f ≡ true
unfolding counted
each-counted nil h = refl
each-counted (node l a c s) h = three (le-leb 1 a.count h.0) (each-counted c h.1) (each-counted s h.2)

pub all-measured : (f : CountingType) → measured f ≡ true
unfolding measured proper
all-measured nil = refl
all-measured (node l a c s) = three refl (all-measured c) (all-measured s)
