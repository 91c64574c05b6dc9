-- Collections of raw forests: two of them as one, and a part, whose profile is no larger.
use mathlib.Core.Path.{◌≡◌, refl}
use mathlib.Core.List.Permᴰ
use mathlib.Core.List.{List, ◌∷◌}
use Rattle.counting_theory.specs.Trie.{Forest, TrieOps, Trie, profile}
use Rattle.counting_theory.specs.Inside.TrieLaws.{TrieLaws, append, concat, NoLarger}
use Rattle.counting_theory.proofs.Trie.Sorted.{sorted-profile}
use Rattle.counting_theory.proofs.Trie.Profile.{append_assoc, reduce-add, profile-perm, profile-append-comm, reduce-profile}
use Rattle.counting_theory.proofs.Trie.Growth.{add-grows}

pub concat-pair : {L P : Type 0} (r s : Forest L P) (rs : List (Forest L P)) → concat (append r s ∷ rs) ≡ concat (r ∷ s ∷ rs)
unfolding concat
concat-pair r s rs = append_assoc r s (concat rs)

module _ {T : TrieOps} (W : TrieLaws T) where
  pub profile-swap : (r s : Trie T) (rs : List (Trie T)) → profile T (concat (r ∷ s ∷ rs)) ≡ profile T (concat (s ∷ r ∷ rs))
  profile-swap r s rs = profile-perm W (Permᴰ.swap refl refl)

  pub part-no_larger : (r s : Trie T) (rs : List (Trie T)) → NoLarger T (profile T s) (profile T (concat (r ∷ s ∷ rs)))
  unfolding concat
  part-no_larger r s rs =
      let others = append r (concat rs) in
      rw (profile-swap r s rs, profile-append-comm W s others, ← reduce-profile W others s, reduce-add W (profile T others) (profile T s) (sorted-profile W others) (sorted-profile W s))
      (add-grows W (profile T others) (profile T s))
