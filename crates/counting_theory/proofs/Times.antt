-- Raw material that is added with a weight: weights add up, and a weight is as often added.
use mathlib.Core.Path.{◌≡◌, refl, sym, ◌∙◌, ap}
use mathlib.Core.List.{List}
use mathlib.Core.Option.{Option}
use Prim.Native.Nat.{ℕ, zero, suc, ◌+◌, ◌≤◌}
use native.Mathlib.Omega.{arith}
use Rattle.counting_theory.specs.Trie.{nil, node, size, ◌⊞◌ as join_option, lookup_node, lookup, add, Sorted}
use Rattle.counting_theory.specs.Label.{Label, Counting, CountingType}
use Rattle.counting_theory.specs.Payload.{Payload, copies}
use Rattle.counting_theory.specs.Inside.Times.{times}
use Rattle.counting_theory.proofs.Payload.{copies-one, copies-add}
use Rattle.counting_theory.proofs.Label.{counting-laws}
use Rattle.counting_theory.proofs.Trie.Join.{⊞-assoc, ⊞-left-comm}
use Rattle.counting_theory.proofs.Trie.Lookup.{node-join, lookup-add}
use Rattle.counting_theory.proofs.Trie.Sorted.{sorted-add}
use Rattle.counting_theory.proofs.Trie.Canonical.{canonical}
use Rattle.counting_theory.proofs.Trie.Growth.{add-grows}

pub times-one : (r : CountingType) → times 1 r ≡ r
unfolding times
times-one nil = refl
times-one (node l n c s) = rw (copies-one n, times-one c, times-one s) refl

infixr 66 ◌⊞◌
abbrev ◌⊞◌ : Option Payload → Option Payload → Option Payload
x ⊞ y = join_option Counting x y

exchange : (x y z w : Option Payload) → (x ⊞ y) ⊞ (z ⊞ w) ≡ (x ⊞ z) ⊞ (y ⊞ w)
exchange x y z w = simp (⊞-assoc counting-laws) (ap (λ u. x ⊞ u) (⊞-left-comm counting-laws y z w))

pub lookup-times : (a b : ℕ) (r : CountingType) (p : List Label) → lookup Counting (times (a + b) r) p ≡ lookup Counting (times a r) p ⊞ lookup Counting (times b r) p
unfolding times lookup join_option
lookup-times a b nil p = refl
lookup-times a b (node l n c s) p =
    let x = lookup_node Counting l (copies a n) (lookup Counting (times a c)) p in
    let y = lookup_node Counting l (copies b n) (lookup Counting (times b c)) p in
    rw (copies-add a b n, node-join counting-laws l (copies a n) (copies b n) (lookup Counting (times a c)) (lookup Counting (times b c)) (lookup Counting (times (a + b) c)) (lookup-times a b c) p, lookup-times a b s p)
    (exchange x y (lookup Counting (times a s) p) (lookup Counting (times b s) p))

pub add_times : (a b : ℕ) (r f : CountingType) → Sorted Counting f → add Counting (times a r) (add Counting (times b r) f) ≡ add Counting (times (a + b) r) f
add_times a b r f u =
    canonical counting-laws (sorted-add counting-laws (times a r) (add Counting (times b r) f) (sorted-add counting-laws (times b r) f u)) (sorted-add counting-laws (times (a + b) r) f u)
    (λ p.
    lookup-add counting-laws (times a r) (add Counting (times b r) f) p ∙ ap (λ y. lookup Counting (times a r) p ⊞ y) (lookup-add counting-laws (times b r) f p)
    ∙ sym (⊞-assoc counting-laws _ _ _) ∙ ap (λ y. y ⊞ lookup Counting f p) (sym (lookup-times a b r p)) ∙ sym (lookup-add counting-laws (times (a + b) r) f p))

-- one time before the others
pub add_once : (w : ℕ) (r f : CountingType) → Sorted Counting f → add Counting (times (suc w) r) f ≡ add Counting (times w r) (add Counting r f)
add_once w r f u =
    let e : suc w ≡ w + 1 = omega arith in
    ap (λ n. add Counting (times n r) f) e ∙ sym (add_times w 1 r f u) ∙ ap (λ g. add Counting (times w r) (add Counting g f)) (times-one r)

-- no less is there than after adding once
pub times-grows : (w : ℕ) (r f : CountingType) → 1 ≤ w → Sorted Counting f → size (add Counting r f) ≤ size (add Counting (times w r) f)
times-grows zero r f h u = absurd (omega arith)
times-grows (suc w) r f h u = rw (add_once w r f u) (add-grows counting-laws (times w r) (add Counting r f)).sizes

-- what adding once keeps, adding w times keeps
pub times-keeps : (P : CountingType → Type 0) (r : CountingType) → ((f : CountingType) → P f → Sorted Counting f) → ((f : CountingType) → P f → P (add Counting r f)) →
    (w : ℕ) → 1 ≤ w → (f : CountingType) → P f → P (add Counting (times w r) f)
times-keeps P r sorted keep zero h f k = absurd (omega arith)
times-keeps P r sorted keep (suc zero) h f k = rw (times-one r) (keep f k)
times-keeps P r sorted keep (suc (suc w)) h f k =
    rw (add_once (suc w) r f (sorted f k)) (times-keeps P r sorted keep (suc w) (omega arith) (add Counting r f) (keep f k))
