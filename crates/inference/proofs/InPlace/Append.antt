-- InferredSiblings in two parts: their bytes and records, and what holds of the second part; siblings that a label comes behind.
use mathlib.Core.Path.{◌≡◌, refl, ◌∙◌, ap}
use mathlib.Core.Bool.{Bool}
use mathlib.Core.List.{◌++◌, append_assoc}
use Prim.Native.Nat.Ordering.{eq}
use Prim.Native.Nat.Ordering.{gt}
use Prim.Native.Nat.Ordering.{lt}
use Prim.Native.Nat.{◌+◌, Ordering}
use native.Mathlib.Omega.{arith}
use Rattle.counting_theory.specs.Payload.{Payload}
use Rattle.counting_theory.specs.Inside.TrieLaws.{flip, append}
use Rattle.counting_theory.specs.Trie.{nil, node, size, Before, Sorted}
use Rattle.counting_theory.specs.Label.{Label, compare_label, Counting, CountingType}
use Rattle.counting_theory.specs.declared.equivalence.Equivalence.{Equivalence}
use Rattle.counting_theory.specs.Encoding.{encode}
use Rattle.inference.specs.Inside.Inferring.{InferredSiblings}
use Rattle.counting_theory.proofs.Trie.Sorted.{before-trans}
use Rattle.counting_theory.proofs.Label.{label-order, counting-laws}
use Rattle.counting_theory.proofs.Tagged.Parts.{tagged-parts}

pub encode-append : (f g : CountingType) → encode (append f g) ≡ encode f ++ encode g
unfolding encode append
encode-append nil g = refl
encode-append (node l a c s) g = rw (encode-append s g) (simp append_assoc)

pub size-append : (f g : CountingType) → size (append f g) ≡ size f + size g
unfolding size append
size-append nil g = omega arith
size-append (node l a c s) g = omega (arith, size-append s g)

-- the siblings behind the first
pub siblings-next : {e : Equivalence} {field : Bool} {l : Label} {a : Payload} {c s : CountingType} → InferredSiblings e field (node l a c s) → InferredSiblings e field s
siblings-next {e} {field} {l} {a} {c} {s} h =
    record { tagged = (tagged-parts e field l a c s h.tagged).2; sorted = h.sorted.2; numbers = h.numbers.2 }

pub siblings-last : {e : Equivalence} {field : Bool} (f : CountingType) {g : CountingType} → InferredSiblings e field (append f g) → InferredSiblings e field g
unfolding append
siblings-last nil h = h
siblings-last (node l a c s) h = siblings-last s (siblings-next h)

-- every sibling before the label l
abbrev pub AllBefore : Label → CountingType → Type 0
AllBefore l nil = Unit {0}
AllBefore l (node k count c s) = (compare_label l k ≡ gt) × AllBefore l s

-- a label before sorted siblings is before each of them
before-later : (m : Label) (t : CountingType) (k : Label) (a : Payload) (c s : CountingType) → Before Counting m (append t (node k a c s)) →
    Sorted Counting (append t (node k a c s)) → compare_label m k ≡ lt
unfolding append
before-later m nil k a c s h u = h
before-later m (node j x d t) k a c s h u = before-later m t k a c s (before-trans counting-laws m j (append t (node k a c s)) h u.0) u.2

behind : (l m k : Label) → compare_label m k ≡ lt → (o : Ordering) → compare_label l k ≡ o → (o ≡ lt → ⊥) → compare_label l m ≡ gt
behind l m k h lt e n = absurd (n refl)
behind l m k h eq e n = let z : compare_label m l ≡ lt = rw (label-order.compare-eq e) h in label-order.compare-flip m l ∙ ap flip z
behind l m k h gt e n =
    let x : compare_label k l ≡ lt = label-order.compare-flip l k ∙ ap flip e in
    let z : compare_label m l ≡ lt = label-order.compare-trans h x in
    label-order.compare-flip m l ∙ ap flip z

-- a label that does not come before a sibling is behind those before that one
pub all-before : (l : Label) (f : CountingType) (k : Label) (a : Payload) (c s : CountingType) → Sorted Counting (append f (node k a c s)) →
    (compare_label l k ≡ lt → ⊥) → AllBefore l f
unfolding append
all-before l nil k a c s u n = tt
all-before l (node m x d t) k a c s u n =
    (behind l m k (before-later m t k a c s u.0 u.2) (compare_label l k) refl n, all-before l t k a c s u.2 n)
