-- The messages still to be read and those that went into the types at hand are all the messages of a way.
use mathlib.Core.Path.{◌≡◌, refl, sym, ◌∙◌, ap}
use mathlib.Core.Bool.{false}
use mathlib.Core.List.Permᴰ
use mathlib.Core.List.{List, [], ◌∷◌, Permᴰ}
use Rattle.value_table.specs.Value.{Values, none, join_values}
use Rattle.counting_theory.specs.Trie.{nil, profile}
use Rattle.counting_theory.specs.Inside.TrieLaws.{append, concat, NoLarger}
use Rattle.counting_theory.specs.Label.{Counting, CountingType}
use Rattle.counting_theory.specs.declared.equivalence.Equivalence.{Equivalence}
use Rattle.counting_theory.specs.Raw.{raw, profile_of}
use Rattle.counting_theory.proofs.Label.{counting-laws}
use Rattle.counting_theory.proofs.Trie.Profile.{profile-perm, profile-append-comm}
use Rattle.counting_theory.proofs.Ways.Parts.{concat-pair, profile-swap, part-no_larger}
use Rattle.counting_theory.proofs.Values.Join.{raw-join}

pub profile-only : (e : Equivalence) (ms : Values) → profile Counting (concat (raw e false ms ∷ [])) ≡ profile_of e ms
unfolding concat append profile_of
profile-only e ms = profile-append-comm counting-laws (raw e false ms) nil

module _ (e : Equivalence) (t : CountingType) where
  -- t is the profile of the messages still to be read and of the raw forests at hand
  abbrev pub Whole : Values → List CountingType → Type 0
  Whole rest rs = profile Counting (concat (raw e false rest ∷ rs)) ≡ t

  pub whole-read : (ms rest : Values) (rs : List CountingType) → Whole (join_values ms rest) rs → Whole rest (raw e false ms ∷ rs)
  whole-read ms rest rs h =
      rw (profile-swap counting-laws (raw e false rest) (raw e false ms) rs, ← concat-pair (raw e false ms) (raw e false rest) rs, ← raw-join e false ms rest) h

  pub whole-merged : (rest x y : Values) (rs qs : List CountingType) → Permᴰ rs (raw e false x ∷ raw e false y ∷ qs) →
      Whole rest rs → Whole rest (raw e false (join_values x y) ∷ qs)
  unfolding concat
  whole-merged rest x y rs qs p h =
      ap (λ r. profile Counting (append (raw e false rest) r)) (rw (raw-join e false x y) (concat-pair (raw e false x) (raw e false y) qs))
      ∙ profile-perm counting-laws (Permᴰ.cons refl (Permᴰ.symm p)) ∙ h

  pub whole-last : (x : Values) → Whole none (raw e false x ∷ []) → profile_of e x ≡ t
  unfolding raw concat append
  whole-last x h = sym (profile-only e x) ∙ h

  pub whole_part : (rest ms : Values) (rs : List CountingType) → Whole rest (raw e false ms ∷ rs) → NoLarger Counting (profile_of e ms) t
  unfolding profile_of
  whole_part rest ms rs h = rw (← h) (part-no_larger counting-laws (raw e false rest) (raw e false ms) rs)
