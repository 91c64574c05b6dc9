-- The order of key lists: that it is one, and what a loop over two lists knows of it.
use mathlib.Core.Path.{◌≡◌, refl, sym, ◌∙◌, ap}
use mathlib.Core.List.{List, ◌∷◌}
use mathlib.Core.Logic.{◌⊎◌, inl, inr}
use Prim.Native.Nat.Ordering.{eq}
use Prim.Native.Nat.compare
use Prim.Native.Nat.{ℕ, ◌+◌, ◌-◌, compare, Ordering}
use native.Mathlib.Omega.{arith}
use lib.ListN.{length}
use Rattle.byte_records.specs.Inside.Chain.{Chain, done, next}
use Rattle.byte_records.proofs.Chain.{Sibling, chain-sibling, chain-done}
use Rattle.counting_theory.specs.Order.{then, compare_pair, compare_list, compare_on}
use Rattle.counting_theory.specs.Inside.TrieLaws.{IsOrder}
use Rattle.counting_theory.specs.Label.{compare_keys}
use Rattle.counting_theory.proofs.Order.{number-order, less-compare, more-compare, then_same, then-assoc, pair-order, list-order, order-on}

pub keys-order : IsOrder compare_keys
unfolding compare_keys compare_on compare_pair
keys-order = order-on (pair-order number-order (list-order number-order)) (λ (xs : List ℕ). (length xs, xs)) (λ xs ys e. ap (λ p. p.1) e)

-- how two key lists compare whose first keys, which are as many of both, compare as o, and that go on with xs and with ys
abbrev compare_rest : Ordering → List ℕ → List ℕ → Ordering
compare_rest o xs ys = then (compare (length xs) (length ys)) (then o (compare_list compare xs ys))

-- Two key lists compare as the keys before, by o, and what is left of them: from i to `end` by these spans, and from j to end'.
pub record Comparing (span key : ℕ → ℕ) (end : ℕ) (span' key' : ℕ → ℕ) (end' : ℕ) (xs ys : List ℕ) (o : Ordering) (i j : ℕ) : Type 0 where
  pub left : List ℕ
  pub right : List ℕ
  pub left-chain : Chain span key end i left
  pub right-chain : Chain span' key' end' j right
  pub same : compare_keys xs ys ≡ compare_rest o left right

one_more : (o : Ordering) {x y : ℕ} {xs ys ks js : List ℕ} → ks ≡ x ∷ xs → js ≡ y ∷ ys → compare_rest o ks js ≡ compare_rest (then o (compare x y)) xs ys
unfolding compare_list
one_more o {x = x} {y = y} {xs = xs} {ys = ys} e f = rw (e, f, compare.suc-suc (length xs) (length ys), then-assoc o (compare x y) (compare_list compare xs ys)) refl

-- where one list has ended, what is left of both tells their lengths apart
rest-compares : {span key span' key' : ℕ → ℕ} {end end' i j : ℕ} {xs ys : List ℕ} (o : Ordering) → Chain span key end i xs → Chain span' key' end' j ys →
    (i ≡ end) ⊎ (j ≡ end') → then (compare (end - i) (end' - j)) o ≡ compare_rest o xs ys
unfolding compare_list then
rest-compares {end = end} {end' = end'} o done done e =
    let a : end - end ≡ 0 = omega arith in
    let b : end' - end' ≡ 0 = omega arith in
    rw (a, b, compare.zero-zero) (sym (then_same o))
rest-compares {end = end} {end' = end'} {j = j} o done (next {ks = ys} l s h) e =
    let a : end - end ≡ 0 = omega arith in
    rw (a, less-compare 0 (end' - j) (omega arith), compare.zero-suc (length ys)) refl
rest-compares {end = end} {end' = end'} {i = i} o (next {ks = xs} l s h) done e =
    let b : end' - end' ≡ 0 = omega arith in
    rw (b, more-compare (end - i) 0 (omega arith), compare.suc-zero (length xs)) refl
rest-compares o (next l s h) (next m t g) (inl e) = absurd (omega arith)
rest-compares o (next l s h) (next m t g) (inr e) = absurd (omega arith)

module _ {span key span' key' : ℕ → ℕ} {end end' i j : ℕ} {xs ys : List ℕ} where
  pub comparing-start : Chain span key end i xs → Chain span' key' end' j ys → Comparing span key end span' key' end' xs ys eq i j
  unfolding compare_keys then
  comparing-start h g = record { left = xs; right = ys; left-chain = h; right-chain = g; same = refl }

module _ {span key span' key' : ℕ → ℕ} {end end' i j : ℕ} {xs ys : List ℕ} {o : Ordering} (w : Comparing span key end span' key' end' xs ys o i j) where
  abbrev Whole : Ordering
  Whole = compare_keys xs ys

  pub both_end : i ≡ end → j ≡ end' → o ≡ Whole
  unfolding compare_list then
  both_end e f = sym (w.same ∙ rw (chain-done e w.left-chain, chain-done f w.right-chain) (then_same o))

  -- by what is left of both, u, then by the keys before
  pub one-ends : {u v : Ordering} → (i ≡ end) ⊎ (j ≡ end') → u ≡ compare (end - i) (end' - j) → v ≡ then u o → v ≡ Whole
  one-ends e f g = g ∙ ap (λ x. then x o) f ∙ rest-compares o w.left-chain w.right-chain e ∙ sym w.same

  module _ (m : i ≡ end → ⊥) (n : j ≡ end' → ⊥) where
    abbrev pub left-sibling : Sibling span key end i w.left
    left-sibling = chain-sibling m w.left-chain

    abbrev pub right-sibling : Sibling span' key' end' j w.right
    right-sibling = chain-sibling n w.right-chain

    pub next_keys : Comparing span key end span' key' end' xs ys (then o (compare (key i) (key' j))) (i + span i) (j + span' j)
    next_keys =
        record {
          left = left-sibling.keys;
          right = right-sibling.keys;
          left-chain = left-sibling.chain;
          right-chain = right-sibling.chain;
          same = w.same ∙ one_more o left-sibling.head right-sibling.head;
        }
