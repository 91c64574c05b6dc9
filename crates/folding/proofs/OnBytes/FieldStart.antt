-- A field that was looked for by its key: a search by the whole label may begin where it stands, or where it was given up.
use mathlib.Core.Path.{◌≡◌}
use mathlib.Core.Bool.{Bool, true}
use mathlib.Core.List.{List}
use mathlib.Core.Logic.{◌⊎◌, inl, inr}
use Prim.Native.Nat.{ℕ}
use native.Mathlib.Omega.{arith}
use Rattle.std.proofs.Common.{Ok, Err}
use Rattle.counting_theory.specs.Label.{Label, CountingType}
use Rattle.counting_theory.specs.declared.equivalence.Equivalence.TheVariants.{Kind as by_kind}
use Rattle.inference.specs.Inside.Inferring.{Found, ArenaHolds, Starts, StandsAt}
use Rattle.inference.specs.Inside.ScalarFields.{SoughtIn}
use Rattle.inference.proofs.InPlace.Splits.{here-at}

pub as_fields_lem : {field : Bool} {a : List ℕ} {n rest : ℕ} {f : CountingType} {q free : List ℕ} → field ≡ true → ArenaHolds by_kind field a n rest f q free →
    ArenaHolds by_kind true a n rest f q free
as_fields_lem e h = rw e at h

stands-start : (l : Label) (f : CountingType) (p : ℕ) → StandsAt l f p → Starts p f
stands-start l f p h = let v = here-at l 0 p f h in record { first = _; last = _; whole = v.whole; count = omega (arith, v.spot_is) }

pub sought-start : (l : Label) (f : CountingType) (r : Found) → SoughtIn l f r → (p : ℕ) → (r ≡ Ok p) ⊎ (r ≡ Err p) → Starts p f
sought-start l f r h p (inl e) = stands-start l f p (rw e at h)
sought-start l f r h p (inr e) = rw e at h
