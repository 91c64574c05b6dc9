-- Equations between tries, by their maps: reduce is add, order makes no difference to a profile, and the merge of two is the profile of both.
use mathlib.Core.Path.{◌≡◌, refl, sym, ◌∙◌, ap}
use mathlib.Core.List.{List, Permᴰ}
use Rattle.counting_theory.specs.Trie.{Forest, nil, node, TrieOps, Trie, lookup, add, profile, reduce, Sorted}
use Rattle.counting_theory.specs.Inside.TrieLaws.{TrieLaws, append, concat, SameMap}
use Rattle.counting_theory.proofs.Trie.Join.{⊞-none, ⊞-comm, ⊞-left-comm}
use Rattle.counting_theory.proofs.Trie.Lookup.{lookup-add, lookup-append, lookup-reduce}
use Rattle.counting_theory.proofs.Trie.Sorted.{sorted-add, sorted-profile, sorted-reduce}
use Rattle.counting_theory.proofs.Trie.Canonical.{canonical}

pub append_assoc : {L P : Type 0} (r s t : Forest L P) → append (append r s) t ≡ append r (append s t)
unfolding append
append_assoc nil s t = refl
append_assoc (node l a c r) s t = ap (node l a c) (append_assoc r s t)

module _ {T : TrieOps} (W : TrieLaws T) where
  pub reduce-add : (f g : Trie T) → Sorted T f → Sorted T g → reduce T f g ≡ add T f g
  reduce-add f g u v = canonical W (sorted-reduce W f g u v) (sorted-add W f g v) (λ p. lookup-reduce W f g p ∙ sym (lookup-add W f g p))

  pub reduce-comm : (f g : Trie T) → Sorted T f → Sorted T g → reduce T f g ≡ reduce T g f
  reduce-comm f g u v = canonical W (sorted-reduce W f g u v) (sorted-reduce W g f v u) (λ p. simp (lookup-reduce W) (⊞-comm W _ _))

  pub lookup-profile : (r : Trie T) → SameMap T (profile T r) r
  unfolding lookup
  lookup-profile r p = lookup-add W r nil p ∙ ⊞-none W (lookup T r p)

  -- a raw forest counts only by its map
  pub profile-cong : (r s : Trie T) → SameMap T r s → profile T r ≡ profile T s
  profile-cong r s h = canonical W (sorted-profile W r) (sorted-profile W s) (λ p. lookup-profile r p ∙ h p ∙ sym (lookup-profile s p))

  pub profile-append-comm : (r s : Trie T) → profile T (append r s) ≡ profile T (append s r)
  profile-append-comm r s = profile-cong (append r s) (append s r) (λ p. simp (lookup-append W) (⊞-comm W _ _))

  lookup-perm : {rs qs : List (Trie T)} → Permᴰ rs qs → SameMap T (concat rs) (concat qs)
  unfolding concat
  lookup-perm Permᴰ.nil p = refl
  lookup-perm (Permᴰ.cons e d) p = simp (lookup-append W) (rw (e, lookup-perm d p))
  lookup-perm (Permᴰ.swap e h) p = simp (lookup-append W, e, h) (⊞-left-comm W _ _ _)
  lookup-perm (Permᴰ.trans d e) p = lookup-perm d p ∙ lookup-perm e p

  -- the order of a collection makes no difference
  pub profile-perm : {rs qs : List (Trie T)} → Permᴰ rs qs → profile T (concat rs) ≡ profile T (concat qs)
  profile-perm {rs} {qs} d = profile-cong (concat rs) (concat qs) (lookup-perm d)

  -- the merge of two profiles is the profile of both
  pub reduce-profile : (r s : Trie T) → reduce T (profile T r) (profile T s) ≡ profile T (append r s)
  reduce-profile r s =
      canonical W (sorted-reduce W (profile T r) (profile T s) (sorted-profile W r) (sorted-profile W s)) (sorted-profile W (append r s))
      (λ p. simp (lookup-reduce W, lookup-profile, lookup-append W))

  pub add_comm : (r f : Trie T) → Sorted T f → add T r f ≡ add T f (profile T r)
  add_comm r f u =
      canonical W (sorted-add W r f u) (sorted-add W f (profile T r) (sorted-profile W r))
      (λ p. simp (lookup-add W r f p, lookup-add W f (profile T r) p, lookup-profile r p) (⊞-comm W _ _))
