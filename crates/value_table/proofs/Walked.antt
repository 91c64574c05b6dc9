-- The walk over the records accepts exactly what the open values around them can go on with.
use mathlib.Core.Path.{◌≡◌, refl, ap}
use mathlib.Core.Logic.Iff
use mathlib.Core.Logic.{◌↔◌}
use mathlib.Core.List.{List}
use Prim.Native.Nat.{ℕ, zero, suc, ◌+◌, ◌≤◌, ◌<◌}
use native.Mathlib.Omega.{arith}
use lib.ListN.{length}
use Rattle.byte_records.specs.Number.{Bytes}
use Rattle.value_table.specs.Value.{max_length, max_key, records}
use Rattle.value_table.specs.Outcome.{Outcome, accepted}
use Rattle.value_table.specs.Judged.{Open, fault_in, close, enter, messages_in, decide, walk}
use Rattle.value_table.proofs.Header.{key_at-below}
use Rattle.value_table.proofs.Faultless.{FaultlessIn, faultless, faultless-zero}
use Rattle.value_table.proofs.Nested.{Nested, nested-close, nested-enter}
use Rattle.value_table.proofs.Rest.{Rest, rest-close, rest-done, rest-enter, rest-first}

module _ (b : List ℕ) (bytes : Bytes b) (short : length b ≤ max_length) where
  -- one record, with the outcome o of the walk behind it
  step : (i c m : ℕ) (around : List Open) (o : Outcome) → Nested (records b) (i + 1) around → i < records b →
      (Nested (records b) (i + 1) (enter b i around) → (o ≡ accepted m) ↔ Rest b (i + 1) (enter b i around) (c + messages_in around) m) →
      (f : ℕ) → fault_in max_key b i around ≡ f → (decide f i o ≡ accepted m) ↔ Rest b i around c m
  unfolding fault_in
  step i c m around o h some ih zero e =
      let f : FaultlessIn b i around = (faultless max_key b i _ _ _ _ (key_at-below b i bytes (omega arith)) e).0 in
      Iff.trans (ih (nested-enter b i around f h)) (rest-enter b c m i around bytes some f, λ r. (rest-first b c m i around short h r).1)
  step i c m around o h some ih (suc g) e = (
    λ q. absurd (omega (arith, ap (λ x. x.number) q)),
    λ r. absurd (omega (arith, faultless-zero max_key b i _ _ _ _ (rest-first b c m i around short h r).0 (omega (arith, key_at-below b i bytes (omega arith))))),
  )

  pub walked : (k i c m : ℕ) (around : List Open) → i + k ≡ records b → Nested (records b) i around →
      (walk max_key b k i around c ≡ accepted m) ↔ Rest b i around c m
  unfolding walk
  walked zero i c m around e h =
      let last : i ≡ records b = omega arith in
      Iff.trans (λ q. ap (λ x. x.count) q, λ q. ap accepted q) (rw last (rest-done b c m around (rw last at h)))
  walked (suc k) i c m around e h =
      Iff.trans
      (step i c m (close i around) _ (nested-close _ i around (omega arith) h) (omega arith) (walked k (i + 1) _ m _ (omega arith)) _ refl)
      (rest-close b c m i around h)
