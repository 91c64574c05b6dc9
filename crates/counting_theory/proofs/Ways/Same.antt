-- The same messages, by the bytes of their records, have one profile.
use mathlib.Core.Path.{◌≡◌, refl, sym}
use mathlib.Core.Bool.{false}
use mathlib.Core.List.Permᴰ
use mathlib.Core.List.{List, [], ◌∷◌, map}
use Prim.Native.Nat.{ℕ}
use native.Mathlib.Omega.{arith}
use Rattle.value_table.specs.Value.{Head, Values, none, value, ValidAt, Valid, join_values}
use Rattle.value_table.specs.Value as table
use Rattle.value_table.specs.Judged.{messages}
use Rattle.value_table.proofs.Acceptance.{unique}
use Rattle.counting_theory.specs.Inside.TrieLaws.{append, concat}
use Rattle.counting_theory.specs.Label.{CountingType}
use Rattle.counting_theory.specs.declared.equivalence.Equivalence.{Equivalence}
use Rattle.counting_theory.specs.Raw.{raw, profile_of}
use Rattle.counting_theory.specs.WellFormed.{EachFits}
use Rattle.counting_theory.specs.Ways.{Call, infer, infer_default, merge, AllAllowed, plan_messages, message_bytes, occurrences, Accepted}
use Rattle.counting_theory.proofs.Label.{counting-laws}
use Rattle.counting_theory.proofs.Trie.Profile.{profile-perm}
use Rattle.counting_theory.proofs.WellFormed.Profile.{fits-run}
use Rattle.counting_theory.proofs.Values.Join.{valid-join}
use Rattle.counting_theory.proofs.Ways.Calls.{accepted-table}
use Rattle.counting_theory.proofs.Ways.Occurrences.{perm-occurs}

pub fits-join : (vs ws : Values) → EachFits vs → EachFits ws → EachFits (join_values vs ws)
unfolding join_values
fits-join none ws h i = i
fits-join (value head key content next) ws h i = (h.0, fits-join next ws h.1 i)

-- messages that come from accepted tables
pub record FromTables (ms : Values) : Type 0 where
  pub valid : Valid ms
  pub fits : EachFits ms

from-join : (b : List ℕ) (rest : Values) → Accepted b → FromTables rest → FromTables (join_values (messages b) rest)
from-join b rest a h =
    let t = accepted-table b a in
    record {
      valid = valid-join (messages b) rest t.valid h.valid;
      fits = fits-join (messages b) rest (fits-run (messages b) t.room) h.fits;
    }

pub plan-messages : (e : Equivalence) (n : ℕ) (plan : List Call) → AllAllowed e n plan → FromTables (plan_messages plan)
unfolding plan_messages ValidAt
plan-messages e n [] h = record { valid = tt; fits = tt }
plan-messages e n (infer source arena work ∷ calls) h = from-join source (plan_messages calls) h.0.0 (plan-messages e n calls h.1)
plan-messages e n (infer_default source arena work ∷ calls) h = from-join source (plan_messages calls) h.0.1 (plan-messages e n calls h.1)
plan-messages e n (merge i j arena ∷ calls) h = plan-messages e n calls h.1

-- a message is read back from its bytes
read-message : (head : Head) (key : ℕ) (content next : Values) → Valid (value head key content next) → EachFits (value head key content next) →
    messages (table.encode (value head key content none)) ≡ value head key content none
unfolding ValidAt table.size
read-message head key content next h i =
    sym (unique _ _ _ (record { bytes = refl; valid = (h.0, h.1, tt); room = omega (arith, i.0); counted = refl }))

module _ (e : Equivalence) where
  abbrev raw_of_bytes : List ℕ → CountingType
  raw_of_bytes b = raw e false (messages b)

  raw-messages : (ms : Values) → Valid ms → EachFits ms → concat (map raw_of_bytes (message_bytes ms)) ≡ raw e false ms
  unfolding ValidAt message_bytes concat
  raw-messages none h i = unfold raw in refl
  raw-messages (value head key content next) h i =
      rw (read-message head key content next h i, raw-messages next h.2 i.1) (unfold raw append in refl)

  pub same-profile : (vs ws : Values) → FromTables vs → FromTables ws → ((m : List ℕ) → occurrences m (message_bytes vs) ≡ occurrences m (message_bytes ws)) →
      profile_of e vs ≡ profile_of e ws
  unfolding profile_of
  same-profile vs ws h i same =
      rw (← raw-messages vs h.valid h.fits, ← raw-messages ws i.valid i.fits)
      (profile-perm counting-laws (Permᴰ.map raw_of_bytes (perm-occurs (message_bytes vs) (message_bytes ws) same)))
