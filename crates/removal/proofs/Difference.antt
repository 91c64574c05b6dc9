-- The difference of two tries, by the steps in which it comes about: it undoes the merge, and leaves nothing only of equals.
use mathlib.Core.Path.{◌≡◌, refl, sym, ◌∙◌, ap}
use mathlib.Core.Option.{Option, none, some}
use Prim.Native.Nat.Ordering.{eq}
use Prim.Native.Nat.Ordering.{gt}
use Prim.Native.Nat.Ordering.{lt}
use Prim.Native.Nat.{Ordering}
use Rattle.counting_theory.specs.Trie.{nil, node, TrieOps, Trie, reduce_step, reduce_node, reduce}
use Rattle.counting_theory.specs.Inside.TrieLaws.{TrieLaws}
use Rattle.counting_theory.proofs.Trie.Canonical.{some-none}
use Rattle.counting_theory.proofs.Trie.Sizes.{reduce-nil}
use Rattle.removal.specs.Difference.{Taken, short, gone, left, kept, emptied, taken_node, difference_step, difference_node, difference}

-- what is asked of the taking away, for payloads that a trie may hold
pub record TakeLaws (T : TrieOps) (take : T.Payload → T.Payload → Taken T.Payload) (Positive : T.Payload → Type 0) : Type 0 where
  pub take-join : (a b : T.Payload) → Positive a → take (T.join a b) b ≡ left a
  pub take-self : (b : T.Payload) → take b b ≡ gone
  pub take_left : {a b c : T.Payload} → take a b ≡ left c → (T.join c b ≡ a) × Positive c
  pub take-gone : {a b : T.Payload} → take a b ≡ gone → a ≡ b

-- each payload is one that a trie may hold
abbrev pub Each : (T : TrieOps) → (T.Payload → Type 0) → Trie T → Type 0
Each T Positive nil = Unit {0}
Each T Positive (node l a c s) = Positive a × Each T Positive c × Each T Positive s

module _ (T : TrieOps) (take : T.Payload → T.Payload → Taken T.Payload) where
  open T use {Label, Payload, compare}

  -- difference whole part ≡ some f, as the steps by which it comes about
  pub data Removal : (whole part f : Trie T) → Type 0 where
    rest : {f : Trie T} → Removal f nil f
    apart : {l k : Label} {a b : Payload} {c s d t x : Trie T} → compare l k ≡ lt → Removal s (node k b d t) x →
        Removal (node l a c s) (node k b d t) (node l a c x)
    dropped : {l : Label} {a b : Payload} {c s d t x : Trie T} → take a b ≡ gone → Removal c d nil → Removal s t x → Removal (node l a c s) (node l b d t) x
    lessened : {l : Label} {a b e : Payload} {c s d t x y : Trie T} → take a b ≡ left e → Removal c d x → Removal s t y →
        Removal (node l a c s) (node l b d t) (node l e x y)

module _ {T : TrieOps} (W : TrieLaws T) {take : T.Payload → T.Payload → Taken T.Payload} {Positive : T.Payload → Type 0}
    (K : TakeLaws T take Positive) where
  open T use {Label, Payload, compare}
  open W use {order}
  open K use {take-join, take-self, take-gone}

  -- the answer, by the steps
  pub removal-difference : {w g f : Trie T} → Removal T take w g f → difference T take w g ≡ some f
  unfolding difference difference_node difference_step taken_node emptied kept
  removal-difference (rest {f = nil}) = refl
  removal-difference (rest {f = node l a c s}) = refl
  removal-difference (apart e r) = rw (e, removal-difference r)
  removal-difference (dropped {l = l} e q r) = rw (order.compare_refl l, e, removal-difference q) (removal-difference r)
  removal-difference (lessened {l = l} e q r) = rw (order.compare_refl l, e, removal-difference q, removal-difference r)

  -- the steps, read off the answer
  kept-parts : {l : Label} {a : Payload} {f : Trie T} (c s : Option (Trie T)) → kept l a c s ≡ some f →
      (x : Trie T) × (y : Trie T) × (c ≡ some x) × (s ≡ some y) × (f ≡ node l a x y)
  unfolding kept
  kept-parts none s h = absurd (some-none (sym h))
  kept-parts (some x) none h = absurd (some-none (sym h))
  kept-parts (some x) (some y) h = (x, y, refl, refl, cc)

  emptied-parts : {f : Trie T} (c s : Option (Trie T)) → emptied c s ≡ some f → (c ≡ some nil) × (s ≡ some f)
  unfolding emptied
  emptied-parts none s h = absurd (some-none (sym h))
  emptied-parts (some nil) s h = (refl, h)
  emptied-parts (some (node l a c t)) s h = absurd (some-none (sym h))

  module _ (l : Label) (a : Payload) (c s : Trie T) (hc : (d x : Trie T) → difference T take c d ≡ some x → Removal T take c d x)
      (hs : (t x : Trie T) → difference T take s t ≡ some x → Removal T take s t x) where
    steps-taken : (b : Payload) (d t f : Trie T) (o : Taken Payload) → take a b ≡ o →
        taken_node o l (difference T take c d) (difference T take s t) ≡ some f → Removal T take (node l a c s) (node l b d t) f
    unfolding taken_node
    steps-taken b d t f short e h = absurd (some-none (sym h))
    steps-taken b d t f gone e h =
        let p = emptied-parts (difference T take c d) (difference T take s t) h in
        dropped e (hc d nil p.0) (hs t f p.1)
    steps-taken b d t f (left r) e h =
        let p = kept-parts (difference T take c d) (difference T take s t) h in
        rw p.4 (lessened e (hc d p.0 p.2) (hs t p.1 p.3))

    steps-node : (g f : Trie T) → difference T take (node l a c s) g ≡ some f → Removal T take (node l a c s) g f
    unfolding difference difference_node difference_step
    steps-node nil f h = let z : node l a c s ≡ f = cc in rw (← z) rest
    steps-node (node k b d t) f h = go (compare l k) refl h
      where
        go : (o : Ordering) → compare l k ≡ o → difference_step T take o l a c (difference T take c) (difference T take s) k b d t ≡ some f →
            Removal T take (node l a c s) (node k b d t) f
        go lt e h =
            let p = kept-parts (some c) (difference T take s (node k b d t)) h in
            let z : c ≡ p.0 = let y : some c ≡ some p.0 = p.2 in cc in
            rw (p.4, ← z) (apart e (hs (node k b d t) p.1 p.3))
        go eq e h = rw (← order.compare-eq e) (steps-taken b d t f (take a b) refl h)
        go gt e h = absurd (some-none (sym h))

  pub steps : (w g f : Trie T) → difference T take w g ≡ some f → Removal T take w g f
  unfolding difference
  steps nil nil f h = let z : nil ≡ f = cc in rw (← z) rest
  steps nil (node k b d t) f h = absurd (some-none (sym h))
  steps (node l a c s) g f h = steps-node l a c s (steps c) (steps s) g f h

  -- nothing is left of a trie less itself, and only of that
  pub removal-self : (f : Trie T) → Removal T take f f nil
  removal-self nil = rest
  removal-self (node l a c s) = dropped (take-self a) (removal-self c) (removal-self s)

  pub difference-self : (f : Trie T) → difference T take f f ≡ some nil
  difference-self f = removal-difference (removal-self f)

  pub removal-nil : {w g f : Trie T} → Removal T take w g f → f ≡ nil → w ≡ g
  removal-nil rest h = h
  removal-nil (apart e r) h = cc
  removal-nil (dropped e q r) h = let x = take-gone e in let y = removal-nil q refl in let z = removal-nil r h in cc
  removal-nil (lessened e q r) h = cc

  module _ (l : Label) (a : Payload) (c s : Trie T) (p : Positive a)
      (hc : (d : Trie T) → Removal T take (reduce T c d) d c) (hs : (t : Trie T) → Removal T take (reduce T s t) t s) where
    abbrev merge : Trie T → Trie T
    merge = reduce_node T l a c (reduce T c) (reduce T s)

    removal-node : (g : Trie T) → Removal T take (merge g) g (node l a c s)
    unfolding reduce_node reduce_step
    removal-node nil = rw (reduce-nil T s) rest
    removal-node (node k b d t) = go (compare l k) refl (removal-node t)
      where
        go : (o : Ordering) → compare l k ≡ o → Removal T take (merge t) t (node l a c s) →
            Removal T take (reduce_step T o l a c (reduce T c) (reduce T s) k b d t (merge t)) (node k b d t) (node l a c s)
        go lt e i = apart e (hs (node k b d t))
        go eq e i = rw (← order.compare-eq e) (lessened (take-join a b p) (hc d) (hs t))
        go gt e i = dropped (take-self b) (removal-self d) i

  -- a merged part, taken out again, leaves the other
  removal-reduce : (f g : Trie T) → Each T Positive f → Removal T take (reduce T f g) g f
  unfolding reduce
  removal-reduce nil g h = removal-self g
  removal-reduce (node l a c s) g h = removal-node l a c s h.0 (λ d. removal-reduce c d h.1) (λ t. removal-reduce s t h.2) g

  pub difference-reduce : (f g : Trie T) → Each T Positive f → difference T take (reduce T f g) g ≡ some f
  difference-reduce f g h = removal-difference (removal-reduce f g h)

  -- so there is at most one trie which, merged with h, gives a whole
  pub reduce-cancel : (f g h : Trie T) → Each T Positive f → Each T Positive g → reduce T f h ≡ reduce T g h → f ≡ g
  reduce-cancel f g h p q e =
      let x : some f ≡ some g = sym (difference-reduce f h p) ∙ ap (λ w. difference T take w h) e ∙ difference-reduce g h q in
      cc
