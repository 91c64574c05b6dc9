-- Which bytes begin a value, and of which kind.
use mathlib.Core.Path.{◌≡◌, refl}
use mathlib.Core.Bool.{Bool, true, false, ◌&&◌}
use Prim.Native.Nat.{ℕ, ◌≤◌, ◌<◌}
use native.Mathlib.Omega.{arith}
use lib.Dec.{eqb, leb}
use borrow.Author.Tests.{eqb-false, ne_eqb, leb-true, le-leb}
use Rattle.byte_records.proofs.Tests.{and-false}
use Rattle.json_theory.specs.Parts.{start}
use Rattle.text_reader.specs.Inside.Progress.{kind_started}

-- digits
pub digit-kind : (c : ℕ) → 0x30 ≤ c → c ≤ 0x39 → kind_started (start c) ≡ 3
unfolding start
digit-kind c a b = go (eqb c 0x30) refl
  where
    other : (k : ℕ) → (k < 0x30) → eqb c k ≡ false
    other k l = ne_eqb c k (λ e. omega arith)

    go : (t : Bool) → eqb c 0x30 ≡ t → kind_started (start c) ≡ 3
    go true e = rw (other 0x22 (omega arith), other 0x2D (omega arith), e) refl
    go false e =
        let n : 0x31 ≤ c = omega (arith, eqb-false c 0x30 e) in
        rw (other 0x22 (omega arith), other 0x2D (omega arith), e, le-leb 0x31 c n, le-leb c 0x39 b) refl

-- a byte that is none of those
pub other-kind : (c : ℕ) → (c ≡ 0x22 → ⊥) → (c ≡ 0x2D → ⊥) → (c ≡ 0x5B → ⊥) → (c ≡ 0x66 → ⊥) → (c ≡ 0x6E → ⊥) → (c ≡ 0x74 → ⊥) → (c ≡ 0x7B → ⊥) →
    (0x30 ≤ c → c ≤ 0x39 → ⊥) → kind_started (start c) ≡ 0
unfolding start
other-kind c quote minus square f n t curly digit =
    let nought : eqb c 0x30 ≡ false = ne_eqb c 0x30 (λ e. digit (omega arith) (omega arith)) in
    let digits : (leb 0x31 c && leb c 0x39) ≡ false = and-false _ _ (λ l. outside (leb-true 0x31 c l)) in
    rw (
      ne_eqb c 0x22 quote,
      ne_eqb c 0x2D minus,
      nought,
      digits,
      ne_eqb c 0x5B square,
      ne_eqb c 0x7B curly,
      ne_eqb c 0x6E n,
      ne_eqb c 0x66 f,
      ne_eqb c 0x74 t,
    ) refl
  where
    outside : 0x31 ≤ c → leb c 0x39 ≡ false
    outside l = go (leb c 0x39) refl
      where
        go : (b : Bool) → leb c 0x39 ≡ b → b ≡ false
        go true e = absurd (digit (omega arith) (leb-true c 0x39 e))
        go false e = refl
