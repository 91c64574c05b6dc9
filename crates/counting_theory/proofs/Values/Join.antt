-- Two collections of values together: their raw forest, their type, and that both are valid exactly if the whole is.
use mathlib.Core.Path.{◌≡◌, refl, sym, ◌∙◌, ap}
use mathlib.Core.Bool.{Bool, true, false}
use Prim.Native.Nat.{ℕ}
use lib.Dec.{eqb}
use Rattle.value_table.specs.Value.{record_kind, Values, none, value, ValidAt, Valid, join_values}
use Rattle.counting_theory.specs.Payload.{Payload, one}
use Rattle.counting_theory.specs.Trie.{profile, reduce}
use Rattle.counting_theory.specs.Inside.TrieLaws.{append}
use Rattle.counting_theory.specs.Label.{Label, Counting, CountingType}
use Rattle.counting_theory.specs.declared.equivalence.Equivalence.{Equivalence}
use Rattle.counting_theory.specs.Raw.{class_of, addend, raw, profile_of}
use Rattle.counting_theory.specs.Inferred.{ProfileOfBoth}
use Rattle.counting_theory.proofs.Label.{counting-laws}
use Rattle.counting_theory.proofs.Trie.Profile.{reduce-profile}

addend-append : (field : Bool) (key : ℕ) (class : Label) (a : Payload) (inside next g : CountingType) →
    addend field key class a inside (append next g) ≡ append (addend field key class a inside next) g
unfolding append
addend-append true key class a inside next g = refl
addend-append false key class a inside next g = refl

module _ (e : Equivalence) where
  pub raw-join : (field : Bool) (vs ws : Values) → raw e field (join_values vs ws) ≡ append (raw e field vs) (raw e field ws)
  unfolding raw join_values append
  raw-join field none ws = refl
  raw-join field (value head key content next) ws =
      let class = class_of e head.kind content in
      let inside = raw e (eqb head.kind record_kind) content in
      ap (addend field key class (one head content) inside) (raw-join field next ws)
      ∙ addend-append field key class (one head content) inside (raw e field next) (raw e field ws)

  pub reduce_runs : (field : Bool) (vs ws : Values) →
      reduce Counting (profile Counting (raw e field vs)) (profile Counting (raw e field ws)) ≡ profile Counting (raw e field (join_values vs ws))
  reduce_runs field vs ws = reduce-profile counting-laws (raw e field vs) (raw e field ws) ∙ ap (profile Counting) (sym (raw-join field vs ws))

  pub reduce-join : (vs ws : Values) → reduce Counting (profile_of e vs) (profile_of e ws) ≡ profile_of e (join_values vs ws)
  unfolding profile_of
  reduce-join vs ws = reduce_runs false vs ws

pub profile-both : ProfileOfBoth
profile-both e vs ws = sym (reduce-join e vs ws)

pub valid-join : (vs ws : Values) → Valid vs → Valid ws → Valid (join_values vs ws)
unfolding ValidAt join_values
valid-join none ws h i = i
valid-join (value head key content next) ws h i = (h.0, h.1, valid-join next ws h.2 i)

pub valid-parts : (field : Bool) (depth : ℕ) (vs ws : Values) → ValidAt field depth (join_values vs ws) → ValidAt field depth vs × ValidAt field depth ws
unfolding ValidAt join_values
valid-parts field depth none ws h = (tt, h)
valid-parts field depth (value head key content next) ws h =
    let p = valid-parts field depth next ws h.2 in
    ((h.0, h.1, p.0), p.1)
