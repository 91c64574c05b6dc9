-- A value behind its first byte: which one is open, and what a scan of a scalar says.
use mathlib.Core.Path.{◌≡◌, refl}
use mathlib.Core.Bool.{Bool, true, false, cond}
use mathlib.Core.List.{List, [], ◌∷◌}
use Prim.Native.Nat.{ℕ, ◌≤◌}
use native.Mathlib.Omega.{arith}
use lib.Dec.{eqb}
use lib.ListN.{length}
use Rattle.json_theory.specs.Rx.{within}
use Rattle.json_theory.specs.Grammar.{Container, array, object}
use Rattle.json_theory.specs.Parts.{minus, nought, whole, Start, letters, number, string, open', nothing, start}
use Rattle.json_theory.specs.Steps.{Stack}
use Rattle.json_items.specs.Inside.Items.{ScalarIs}
use Rattle.std.proofs.Common.{Ok, Err}
use Rattle.json_tokens.specs.declared.scan.BadByte.{BadByte}
use Rattle.text_reader.specs.Inside.Progress.{kind_started}
use Rattle.text_reader.specs.Inside.Items.{kind_number, BegunIs}
use Rattle.text_reader.specs.declared.value.Kind.{Kind}
use Rattle.text_reader.specs.declared.value.Kind.TheVariants.{Null, Boolean, Number, String, Record, Array}
use Rattle.text_reader.specs.Faults.{bad_byte}
use Rattle.text_reader.specs.declared.value.Begun.TheVariants.{Scalar}

-- words are null, false and true
abbrev Told : Start → Type 0
Told (letters kind l ls) = (1 ≤ kind) × (kind ≤ 2)
Told (number part) = Unit {0}
Told string = Unit {0}
Told (open' o) = Unit {0}
Told nothing = Unit {0}

told : (c : ℕ) → Told (start c)
unfolding start
told c = go (eqb c 0x22) (eqb c 0x2D) (eqb c 0x30) (within 0x31 0x39 c) (eqb c 0x5B) (eqb c 0x7B) (eqb c 0x6E) (eqb c 0x66) (eqb c 0x74)
  where
    go : (a b d e f g h i j : Bool) → Told (cond a string (cond b (number minus) (cond d (number nought) (cond e (number whole) (cond f (open' array) (cond g (open' object)
        (cond h (letters 1 0x75 (0x6C ∷ 0x6C ∷ [])) (cond i (letters 2 0x61 (0x6C ∷ 0x73 ∷ 0x65 ∷ [])) (cond j (letters 2 0x72 (0x75 ∷ 0x65 ∷ [])) nothing)))))))))
    go true b d e f g h i j = tt
    go false true d e f g h i j = tt
    go false false true e f g h i j = tt
    go false false false true f g h i j = tt
    go false false false false true g h i j = tt
    go false false false false false true h i j = tt
    go false false false false false false true i j = (omega arith, omega arith)
    go false false false false false false false true j = (omega arith, omega arith)
    go false false false false false false false false true = (omega arith, omega arith)
    go false false false false false false false false false = tt

opens : (s : Start) → Told s → (o : Container) → kind_started s ≡ kind_started (open' o) → s ≡ open' o
opens (letters kind l ls) t array e = absurd (omega arith)
opens (letters kind l ls) t object e = absurd (omega arith)
opens (number part) t array e = absurd (omega arith)
opens (number part) t object e = absurd (omega arith)
opens string t array e = absurd (omega arith)
opens string t object e = absurd (omega arith)
opens (open' array) t array e = refl
opens (open' array) t object e = absurd (omega arith)
opens (open' object) t array e = absurd (omega arith)
opens (open' object) t object e = refl
opens nothing t array e = absurd (omega arith)
opens nothing t object e = absurd (omega arith)

pub starts-open : (c : ℕ) (o : Container) → kind_started (start c) ≡ kind_started (open' o) → start c ≡ open' o
starts-open c o e = opens (start c) (told c) o e

none-starts : (s : Start) → Told s → kind_started s ≡ 0 → s ≡ nothing
none-starts (letters kind l ls) t e = absurd (omega arith)
none-starts (number part) t e = absurd (omega arith)
none-starts string t e = absurd (omega arith)
none-starts (open' array) t e = absurd (omega arith)
none-starts (open' object) t e = absurd (omega arith)
none-starts nothing t e = refl

pub starts-nothing : (c : ℕ) → kind_started (start c) ≡ 0 → start c ≡ nothing
starts-nothing c e = none-starts (start c) (told c) e

-- the kinds of scalars
abbrev ScalarKind : ℕ → Type 0
ScalarKind n = (1 ≤ n) × (n ≤ 4)

pub scalar-kind : (kind : Kind) (s : Start) → kind_number kind ≡ kind_started s → (kind ≡ Record → ⊥) → (kind ≡ Array → ⊥) → ScalarKind (kind_started s)
scalar-kind Null s e n m = (omega arith, omega arith)
scalar-kind Boolean s e n m = (omega arith, omega arith)
scalar-kind Number s e n m = (omega arith, omega arith)
scalar-kind String s e n m = (omega arith, omega arith)
scalar-kind Record s e n m = absurd (n refl)
scalar-kind Array s e n m = absurd (m refl)

-- a scan of a scalar that has been begun
module _ (text : List ℕ) (p : ℕ) where
  pub scalar-to : (s : Start) (q : ℕ) → ScalarKind (kind_started s) → (key : ℕ) (around : Stack) →
      ScalarIs text p s key around (Ok q) → BegunIs text s p key around (Ok (Scalar q)) × (p ≤ q) × (q ≤ length text)
  scalar-to (letters kind l ls) q k key around h = (h.0, h.1, h.2)
  scalar-to (number part) q k key around h = (h.0, h.1, h.2)
  scalar-to string q k key around h = (h.0, h.1, h.2)
  scalar-to (open' array) q k key around h = absurd (omega arith)
  scalar-to (open' object) q k key around h = absurd (omega arith)
  scalar-to nothing q k key around h = absurd (omega arith)

  pub scalar-bad : (s : Start) (q : BadByte) → ScalarKind (kind_started s) → (key : ℕ) (around : Stack) →
      ScalarIs text p s key around (Err q) → BegunIs text s p key around (Err (bad_byte q))
  scalar-bad (letters kind l ls) q k key around h = (refl, h)
  scalar-bad (number part) q k key around h = (refl, h)
  scalar-bad string q k key around h = (refl, h)
  scalar-bad (open' array) q k key around h = absurd (omega arith)
  scalar-bad (open' object) q k key around h = absurd (omega arith)
  scalar-bad nothing q k key around h = absurd (omega arith)
