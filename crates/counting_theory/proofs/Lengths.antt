-- What values give together has the two ends of their lengths.
use mathlib.Core.Path.{◌≡◌, refl, sym, ◌∙◌}
use mathlib.Core.Bool.{Bool, true, false, cond, ◌&&◌}
use mathlib.Core.List.{List, [], ◌∷◌}
use mathlib.Core.Logic.{inl, inr}
use mathlib.Core.Option.{Option, none, some}
use Prim.Native.Nat.{ℕ, ◌≤◌, min, max}
use native.Mathlib.Omega.{arith}
use native.Mathlib.Decide.{dec_le}
use lib.Dec.{eqb}
use lib.ListN.{length}
use borrow.Author.Tests.{eqb-true}
use Rattle.byte_records.proofs.Tests.{and_parts}
use Rattle.value_table.specs.Value.{record_kind, array_kind, Values, keys, member}
use Rattle.value_table.specs.Value as table
use Rattle.counting_theory.specs.Payload.{Payload, one, one_field, join}
use Rattle.counting_theory.specs.Trie.{◌⊞◌ as join_option}
use Rattle.counting_theory.specs.Place.{Value, values_of, select, having, ◌⊞◌, gathered, value_payload, Reached, values, field, reached, values_reached, payload_reached}
use Rattle.counting_theory.specs.Lengths.{Each, Some, elements_in, LengthsOf, LengthsAt}
use Rattle.counting_theory.proofs.Trie.Canonical.{some-none}
use Rattle.counting_theory.proofs.Values.Tally.{some-joined}

abbrev Within : ℕ → ℕ → Value → Type 0
Within s l v = (s ≤ elements_in v) × (elements_in v ≤ l)

wider : (s l s' l' : ℕ) → s' ≤ s → l ≤ l' → (M : List Value) → Each (Within s l) M → Each (Within s' l') M
wider s l s' l' h i [] m = tt
wider s l s' l' h i (v ∷ M) m = ((omega (arith, m.0), omega (arith, m.0)), wider s l s' l' h i M m.1)

some-map : (P Q : Value → Type 0) → ((v : Value) → P v → Q v) → (M : List Value) → Some P M → Some Q M
some-map P Q h [] m = m
some-map P Q h (v ∷ M) (inl m) = inl (h v m)
some-map P Q h (v ∷ M) (inr m) = inr (some-map P Q h M m)

-- each value gives its own length
module _ (give : Value → Payload) where
  abbrev Gives : Value → Type 0
  Gives v = ((give v).shortest ≡ elements_in v) × ((give v).longest ≡ elements_in v)

  lengths-first : (v : Value) → Gives v → LengthsOf (v ∷ []) (give v)
  lengths-first v g =
      record { within = ((omega (arith, g), omega (arith, g)), tt); shortest-occurs = inl (sym g.0); longest-occurs = inl (sym g.1) }

  lengths-more : (v : Value) (M : List Value) (b : Payload) → Gives v → LengthsOf M b → LengthsOf (v ∷ M) (join (give v) b)
  unfolding join
  lengths-more v M b g h =
      let s = (give v).shortest in
      let l = (give v).longest in
      record {
        within = (
          (omega (arith, g), omega (arith, g)),
          wider b.shortest b.longest (min s b.shortest) (max l b.longest) (omega arith) (omega arith) M h.within,
        );
        shortest-occurs = low (dec_le s b.shortest);
        longest-occurs = high (dec_le b.longest l);
      }
    where
      low : Dec ((give v).shortest ≤ b.shortest) → Some (λ w. elements_in w ≡ min (give v).shortest b.shortest) (v ∷ M)
      low (yes z) = inl (omega (arith, g))
      low (no z) = inr (some-map _ _ (λ w e. omega arith) M h.shortest-occurs)

      high : Dec (b.longest ≤ (give v).longest) → Some (λ w. elements_in w ≡ max (give v).longest b.longest) (v ∷ M)
      high (yes z) = inl (omega (arith, g))
      high (no z) = inr (some-map _ _ (λ w e. omega arith) M h.longest-occurs)

  gathered-empty : (M : List Value) → gathered give M ≡ none → M ≡ []
  unfolding gathered
  gathered-empty [] h = refl
  gathered-empty (v ∷ M) h = absurd (some-none (sym (some-joined (give v) (gathered give M)).1 ∙ h))

  -- the others give x, and v gives a with them
  step : (v : Value) (M : List Value) (x : Option Payload) (a : Payload) → Gives v → gathered give M ≡ x → ((b : Payload) → gathered give M ≡ some b → LengthsOf M b) →
      some (give v) ⊞ x ≡ some a → LengthsOf (v ∷ M) a
  unfolding join_option
  step v M none a g e i h = let z : give v ≡ a = cc in rw (gathered-empty M e, ← z) (lengths-first v g)
  step v M (some b) a g e i h = let z : join (give v) b ≡ a = cc in rw z at (lengths-more v M b g (i b e))

  lengths-gathered : (M : List Value) (a : Payload) → Each Gives M → gathered give M ≡ some a → LengthsOf M a
  unfolding gathered
  lengths-gathered [] a g h = absurd (some-none (sym h))
  lengths-gathered (v ∷ M) a g h = step v M (gathered give M) a g.0 refl (λ b. lengths-gathered M b g.1) h

count-values : (vs : Values) → table.count vs ≡ length (values_of vs)
unfolding table.count values_of
count-values table.none = refl
count-values (table.value head key content next) = omega (arith, count-values next)

values-give : (M : List Value) → Each (Gives value_payload) M
unfolding one
values-give [] = tt
values-give (v ∷ M) = (go (eqb v.head.kind array_kind), values-give M)
  where
    go : (t : Bool) → let n = cond t (table.count v.content) 0 in let m = length (cond t (values_of v.content) []) in (n ≡ m) × (n ≡ m)
    go true = (count-values v.content, count-values v.content)
    go false = (refl, refl)

-- the records that have a field are no arrays
fields_give : (k : ℕ) (M : List Value) → Each (Gives (λ v. one_field)) (having k M)
unfolding having select one_field
fields_give k [] = tt
fields_give k (v ∷ M) = go (eqb v.head.kind record_kind && member k (keys v.content)) refl (fields_give k M)
  where
    go : (t : Bool) → (eqb v.head.kind record_kind && member k (keys v.content)) ≡ t → Each (Gives (λ w. one_field)) (having k M) →
        Each (Gives (λ w. one_field)) (cond t (v ∷ having k M) (having k M))
    go true e r =
        let z = eqb-true v.head.kind record_kind (and_parts (eqb v.head.kind record_kind) (member k (keys v.content)) e).0 in
        (rw z (refl, refl), r)
    go false e r = r

lengths-reached : (r : Reached) (a : Payload) → payload_reached r ≡ some a → LengthsOf (values_reached r) a
unfolding payload_reached values_reached
lengths-reached (values M) a h = lengths-gathered value_payload M a (values-give M) h
lengths-reached (field k M) a h = lengths-gathered (λ v. one_field) (having k M) a (fields_give k M) h

pub lengths-at : LengthsAt
lengths-at e M place a h = lengths-reached (reached e M place) a h
