-- `kind_of` meets its contract.
use mathlib.Core.Path.{◌≡◌, refl, sym}
use Rattle.std.proofs.Common.{inl, inr}
use Prim.Native.Nat.{ℕ, ◌≤◌, ◌<◌}
use native.Mathlib.Omega.{arith}
use Rattle.json_theory.specs.Parts.{start}
use Rattle.text_reader.proofs.Starts.{digit-kind, other-kind}
use Rattle.text_reader.proofs.value.kind_of.Goals as goal

below : (c : ℕ) → c < 0x30 → 0x30 ≤ c → ⊥
below c a b = omega arith

above : (c : ℕ) → 0x3A ≤ c → c ≤ 0x39 → ⊥
above c a b = omega arith

pub returns-in-34 : goal.returns-in-34
unfolding start
returns-in-34 c = let e : c.args.c ≡ 0x22 = omega arith in rw e refl

pub returns-in-91 : goal.returns-in-91
unfolding start
returns-in-91 c = let e : c.args.c ≡ 0x5B = omega arith in rw e refl

pub returns-in-102 : goal.returns-in-102
unfolding start
returns-in-102 c = elim c.in-102.is [ inl e ↦ rw e refl | inr e ↦ rw e refl ]

pub returns-in-110 : goal.returns-in-110
unfolding start
returns-in-110 c = let e : c.args.c ≡ 0x6E = omega arith in rw e refl

pub returns-in-123 : goal.returns-in-123
unfolding start
returns-in-123 c = let e : c.args.c ≡ 0x7B = omega arith in rw e refl

pub returns-in-45 : goal.returns-in-45
unfolding start
returns-in-45 c = let e : c.args.c ≡ 0x2D = omega arith in rw e refl

pub returns-in-45-2 : goal.returns-in-45-2
returns-in-45-2 c = sym (digit-kind c.args.c (omega arith) (omega arith))

pub returns-in_default : goal.returns-in_default
returns-in_default c =
    sym (other-kind c.args.c (λ e. absurd (omega arith)) (λ e. absurd (omega arith)) (λ e. absurd (omega arith)) (λ e. absurd (omega arith)) (λ e. absurd (omega arith)) (λ e. absurd (omega arith)) (λ e. absurd (omega arith)) (λ l h. below _ (omega arith) l))

pub returns-in_default-2 : goal.returns-in_default-2
returns-in_default-2 c =
    sym (other-kind c.args.c (λ e. absurd (omega arith)) (λ e. absurd (omega arith)) (λ e. absurd (omega arith)) (λ e. absurd (grind arith)) (λ e. absurd (omega arith)) (λ e. absurd (grind arith)) (λ e. absurd (omega arith)) (λ l h. above _ (omega arith) h))
