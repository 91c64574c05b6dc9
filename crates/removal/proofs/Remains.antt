-- What is left of a whole when a part is taken out: in order, no larger than the whole, and merged with the part the whole again.
use mathlib.Core.Path.{◌≡◌, refl, ◌∙◌, ap}
use Prim.Native.Nat.{◌≤◌}
use native.Mathlib.Nat.{le_refl}
use native.Mathlib.Omega.{arith}
use Rattle.counting_theory.specs.Trie.{nil, node, TrieOps, size, Trie, reduce_step, reduce_node, reduce, Before, Sorted}
use Rattle.counting_theory.specs.Inside.TrieLaws.{flip, TrieLaws, NoLarger}
use Rattle.counting_theory.proofs.Trie.Sorted.{before-trans}
use Rattle.counting_theory.proofs.Trie.Growth.{no_larger-refl, no_larger-trans, no_larger-next, no_larger-node}
use Rattle.counting_theory.proofs.Trie.Sizes.{reduce-nil}
use Rattle.removal.specs.Difference.{Taken}
use Rattle.removal.proofs.Difference.{TakeLaws, Each, Removal, rest, apart, dropped, lessened}

module _ {T : TrieOps} (W : TrieLaws T) {take : T.Payload → T.Payload → Taken T.Payload} {Positive : T.Payload → Type 0}
    (K : TakeLaws T take Positive) where
  open T use {Label, Payload, weight}
  open W use {order, weight-join}
  open K use {take_left, take-gone}

  before-removal : {w g f : Trie T} (x : Label) → Removal T take w g f → Sorted T w → Before T x w → Before T x f
  before-removal x rest u b = b
  before-removal x (apart e r) u b = b
  before-removal x (dropped {l = l} {s = s} e q r) u b = before-removal x r u.2 (before-trans W x l s b u.0)
  before-removal x (lessened e q r) u b = b

  pub sorted-removal : {w g f : Trie T} → Removal T take w g f → Sorted T w → Sorted T f
  sorted-removal rest u = u
  sorted-removal (apart {l = l} e r) u = (before-removal l r u.2 u.0, u.1, sorted-removal r u.2)
  sorted-removal (dropped e q r) u = sorted-removal r u.2
  sorted-removal (lessened {l = l} e q r) u = (before-removal l r u.2 u.0, sorted-removal q u.1, sorted-removal r u.2)

  pub each-removal : {w g f : Trie T} → Removal T take w g f → Each T Positive w → Each T Positive f
  each-removal rest h = h
  each-removal (apart e r) h = (h.0, h.1, each-removal r h.2)
  each-removal (dropped e q r) h = each-removal r h.2
  each-removal (lessened e q r) h = ((take_left e).1, each-removal q h.1, each-removal r h.2)

  pub no_larger-removal : {w g f : Trie T} → Removal T take w g f → NoLarger T f w
  no_larger-removal (rest {f}) = no_larger-refl f
  no_larger-removal (apart {l = l} {a = a} {c = c} {s = s} {x = x} e r) = no_larger-node l a a c c x s (le_refl _) (no_larger-refl c) (no_larger-removal r)
  no_larger-removal (dropped {l = l} {a = a} {c = c} {s = s} e q r) = no_larger-trans (no_larger-removal r) (no_larger-next l a c s)
  no_larger-removal (lessened {l = l} {a = a} {b = b} {e = n} {c = c} {s = s} {x = x} {y = y} e q r) =
      no_larger-node l n a x c y s (omega (arith, weight-join l n b, ap (weight l) (take_left e).0)) (no_larger-removal q) (no_larger-removal r)

  pub size-removal : {w g f : Trie T} → Removal T take w g f → size f ≤ size w
  size-removal r = (no_larger-removal r).sizes

  -- a node that comes before the trie f is its first when merged
  reduce-front : (k : Label) (b : Payload) (f d t : Trie T) → Before T k f → reduce T f (node k b d t) ≡ node k b d (reduce T f t)
  unfolding reduce reduce_node reduce_step
  reduce-front k b nil d t h = refl
  reduce-front k b (node m a c s) d t h = rw (order.compare-flip k m ∙ ap flip h) refl

  pub reduce-removal : {w g f : Trie T} → Removal T take w g f → Sorted T w → reduce T f g ≡ w
  unfolding reduce reduce_node reduce_step
  reduce-removal (rest {f}) u = reduce-nil T f
  reduce-removal (apart {l = l} {a = a} {c = c} e r) u = rw e (ap (node l a c) (reduce-removal r u.2))
  reduce-removal (dropped {l = l} {b = b} {d = d} {t = t} {x = x} e q r) u =
      let p = take-gone e in
      let y = reduce-removal q u.1 in
      let z = reduce-removal r u.2 in
      reduce-front l b x d t (before-removal l r u.2 u.0) ∙ cc
  reduce-removal (lessened {l = l} e q r) u =
      let p = (take_left e).0 in
      let y = reduce-removal q u.1 in
      let z = reduce-removal r u.2 in
      rw (order.compare_refl l) (cc)
