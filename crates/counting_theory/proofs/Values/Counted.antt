-- The profile has at each place what the values there give together.
use mathlib.Core.Path.{◌≡◌, refl, ◌∙◌, ap}
use mathlib.Core.Bool.{Bool, true, false, cond}
use mathlib.Core.List.{List, [], ◌∷◌}
use Rattle.counting_theory.specs.Payload.{one_field}
use Rattle.counting_theory.specs.Trie.{lookup}
use Rattle.counting_theory.specs.Label.{Label, field_label, Counting, CountingType}
use Rattle.counting_theory.specs.declared.equivalence.Equivalence.{Equivalence}
use Rattle.counting_theory.specs.Raw.{raw, profile_of}
use Rattle.counting_theory.specs.Place.{Value, values_of, elements, field_values, same_label, of_class, Reached, values, field, follow, having, follow_all, reached, gathered, payload_reached, payload_at, Counts, StandsExactly}
use Rattle.counting_theory.proofs.Label.{counting-laws}
use Rattle.counting_theory.proofs.Trie.Canonical.{lookup-root}
use Rattle.counting_theory.proofs.Trie.Profile.{lookup-profile}
use Rattle.counting_theory.proofs.Values.Every.{EachValid, valid-class, valid-values, valid-elements, valid-under}
use Rattle.counting_theory.proofs.Values.Labels.{same-label}
use Rattle.counting_theory.proofs.Values.Tally.{tally, gathered-same, some-reached}
use Rattle.counting_theory.proofs.Values.Raw.{contents, raw_of, raw-values, lookup_class}
use Rattle.counting_theory.proofs.Values.Contents.{contents-field, contents-element}
use Rattle.counting_theory.proofs.Values.Having.{length-having}

-- the values that a path has led to
abbrev ValidReached : Reached → Type 0
ValidReached (values M) = EachValid M
ValidReached (field k M) = EachValid M

module _ (e : Equivalence) where
  -- the raw forest there
  abbrev below : Reached → CountingType
  below (values M) = contents e M
  below (field k M) = raw_of e (field_values k M)

  abbrev Step : Reached → Reached → Label → Type 0
  Step r s l = ValidReached s × ((q : List Label) → lookup Counting (below r) (l ∷ q) ≡ tally (payload_reached s) (lookup Counting (below s) q) q)

  step : (r : Reached) (l : Label) → ValidReached r → Step r (follow e r l) l
  unfolding follow payload_reached
  step (field k M) l h = (valid-class e l (field_values k M) (valid-under k M h), λ q. lookup_class e l q (field_values k M))
  step (values M) l h = go (same_label l (field_label l.key)) refl
    where
      go : (b : Bool) → same_label l (field_label l.key) ≡ b → Step (values M) (cond b (field l.key M) (values (of_class e l (elements M)))) l
      go true i = (
        h,
        λ q. ap (λ (m : Label). lookup Counting (contents e M) (m ∷ q)) (same-label l (field_label l.key) i)
            ∙ rw (← gathered-same one_field (field_values l.key M) (having l.key M) (length-having l.key M h)) (contents-field e l.key q M h),
      )
      go false i = (valid-class e l (elements M) (valid-elements M h), λ q. contents-element e l q M h i ∙ lookup_class e l q (elements M))

  counts-from : (q : List Label) (r : Reached) → ValidReached r → tally (payload_reached r) (lookup Counting (below r) q) q ≡ payload_reached (follow_all e r q)
  unfolding tally follow_all
  counts-from [] r h = refl
  counts-from (l ∷ q) r h = let s = step r l h in s.1 q ∙ counts-from q (follow e r l) s.0

  counts-raw : (M : List Value) → EachValid M → (q : List Label) → lookup Counting (raw_of e M) q ≡ payload_at e M q
  unfolding reached payload_reached gathered
  counts-raw M h [] = lookup-root counting-laws (raw_of e M)
  counts-raw M h (l ∷ q) = lookup_class e l q M ∙ counts-from q (values (of_class e l M)) (valid-class e l M h)

pub counts : Counts
unfolding profile_of
counts e messages h q =
    lookup-profile counting-laws (raw e false messages) q ∙ rw (raw-values e messages) (counts-raw e (values_of messages) (valid-values false 1 messages h) q)

pub stands-exactly : StandsExactly
stands-exactly e messages h q = rw (counts e messages h q) (some-reached (reached e (values_of messages) q))
