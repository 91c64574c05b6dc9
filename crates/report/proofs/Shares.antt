-- Shares: what the rounding gives, and that no share of a count from 1 to its whole has a false end.
use mathlib.Core.Path.{◌≡◌, refl, ap, ◌∙◌}
use mathlib.Core.Bool.{Bool, true, false}
use Prim.Native.Nat.{ℕ, ◌+◌, ◌*◌, ◌/◌, ◌≤◌, ◌<◌}
use native.Mathlib.Nat.{div-lt_iff_lt-mul, div-eq_of_lt-le}
use native.Mathlib.Omega.{arith}
use lib.Dec.{eqb, ltb}
use borrow.Author.Tests.{ltb-true, ltb-false, eqb-false, lt-ltb, le-ltb, ne_eqb}
use Rattle.report.specs.Line.{rounded, without_false_end, share, NoFalseEnd, NoFalseEnds}

pub rounded-below : (count whole : ℕ) → 1 ≤ whole → count ≤ whole → rounded count whole ≤ 1000
unfolding rounded
rounded-below count whole h i =
    let j : (2000 * count + whole) / (2 * whole) < 1001 = (div-lt_iff_lt-mul {k = 2 * whole} {x = 2000 * count + whole} {y = 1001} (omega arith)).1 (omega arith) in omega arith

rounded-whole : (whole : ℕ) → 1 ≤ whole → rounded whole whole ≡ 1000
unfolding rounded
rounded-whole whole h = div-eq_of_lt-le {k = 1000} (2 * whole) {m = 2000 * whole + whole} (omega arith) (omega arith)

module _ (r : ℕ) where
  pub neither-end : r ≤ 1000 → (1 ≤ without_false_end r) × (without_false_end r ≤ 999)
  unfolding without_false_end
  neither-end h = go (eqb r 1000) (eqb r 0) refl refl
    where
      go : (t u : Bool) → eqb r 1000 ≡ t → eqb r 0 ≡ u → (1 ≤ without_false_end r) × (without_false_end r ≤ 999)
      go true u p q = rw p (omega arith, omega arith)
      go false true p q = rw (p, q) (omega arith, omega arith)
      go false false p q = rw (p, q) (omega (arith, eqb-false r 0 q), omega (arith, eqb-false r 1000 p))

  pub no_end : (r ≡ 1000 → ⊥) → (r ≡ 0 → ⊥) → without_false_end r ≡ r
  unfolding without_false_end
  no_end not-all not_None = rw (ne_eqb r 1000 not-all, ne_eqb r 0 not_None) refl

module _ (count whole : ℕ) where
  pub share_part : count < whole → share count whole ≡ without_false_end (rounded count whole)
  unfolding share
  share_part h = rw (lt-ltb count whole h) refl

  pub share-rest : whole ≤ count → share count whole ≡ rounded count whole
  unfolding share
  share-rest h = rw (le-ltb count whole h) refl

pub no-false-ends : NoFalseEnds
unfolding without_false_end
no-false-ends count whole low high = go (ltb count whole) refl
  where
    go : (t : Bool) → ltb count whole ≡ t → NoFalseEnd count whole
    go true b =
        let below = ltb-true count whole b in
        let part = share_part count whole below in
        let between = neither-end (rounded count whole) (rounded-below count whole (omega arith) high) in
        record {
          all = (λ e. absurd (omega arith), λ e. absurd (omega arith));
          some = omega arith;
          kept = λ l h. part ∙ no_end (rounded count whole) (λ e. omega arith) (λ e. omega arith);
          nearly-all = λ h e. part ∙ ap without_false_end e;
          nearly-none = λ h e. part ∙ ap without_false_end e;
        }
    go false b =
        let reached = ltb-false count whole b in
        let full : count ≡ whole = omega arith in
        let thousand : rounded count whole ≡ 1000 = ap (λ n. rounded n whole) full ∙ rounded-whole whole (omega arith) in
        let rest = share-rest count whole reached in
        record {
          all = (λ e. full, λ e. rest ∙ thousand);
          some = omega arith;
          kept = λ l h. rest;
          nearly-all = λ h e. absurd (omega arith);
          nearly-none = λ h e. absurd (omega arith);
        }
