-- Compound tests that hold, and their parts.
use mathlib.Core.Path.{◌≡◌, refl}
use mathlib.Core.Bool.{Bool, true, false, not, ◌&&◌, ◌||◌}
use Rattle.byte_records.proofs.Tests.{and_parts}

pub both : {s t : Bool} → s ≡ true → t ≡ true → (s && t) ≡ true
both {s} {t} h i = rw (h, i)

pub three-parts : (s t u : Bool) → (s && t && u) ≡ true → (s ≡ true) × (t ≡ true) × (u ≡ true)
three-parts s t u h =
    let p = and_parts (s && t) u h in
    let q = and_parts s t p.0 in
    (q.0, q.1, p.1)

pub three : {s t u : Bool} → s ≡ true → t ≡ true → u ≡ true → (s && t && u) ≡ true
three h i j = both (both h i) j

-- a rule that is asked under a condition
pub implied : (s t : Bool) → (not s || t) ≡ true → s ≡ true → t ≡ true
implied true t h i = h
implied false t h i = cc

pub implies : (s t : Bool) → (s ≡ true → t ≡ true) → (not s || t) ≡ true
implies true t h = h refl
implies false t h = refl
