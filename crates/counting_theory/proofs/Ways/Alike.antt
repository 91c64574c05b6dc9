-- The last call of a run that ends as a profile says: two such runs are alike, and within the limits every call was accepted.
use mathlib.Core.Path.{◌≡◌, sym, ◌∙◌, ap}
use mathlib.Core.List.{List, [], ◌∷◌}
use mathlib.Core.Logic.{◌⊎◌, inl, inr}
use Prim.Native.Nat.{ℕ, ◌≤◌}
use native.Mathlib.Omega.{arith}
use Rattle.value_table.specs.Outcome.{Outcome, refused}
use Rattle.counting_theory.specs.Label.{CountingType}
use Rattle.counting_theory.specs.Answers.{Left}
use Rattle.counting_theory.specs.Ways.{WithinLimits, Final, Ends, AtLast, Alike}

refused-number : {A B : Type 0} (o : Outcome) → ((o ≡ refused 10 0) × A) ⊎ ((o ≡ refused 11 0) × B) → 1 ≤ o.number
refused-number o (inl h) = omega (arith, ap (λ p. p.number) h.0)
refused-number o (inr h) = omega (arith, ap (λ p. p.number) h.0)

abbrev pub AllAccepted : List Left → Type 0
AllAccepted [] = Unit {0}
AllAccepted (l ∷ ls) = (l.outcome.number ≡ 0) × AllAccepted ls

module _ (n : ℕ) (t : CountingType) where
  -- how the last call ends
  abbrev Last : Left → Type 0
  Last l = Ends n t (l ∷ [])

  at_last : (P : Left → Type 0) → ((l : Left) → Last l → P l) → (ls : List Left) → Ends n t ls → AtLast P ls
  at_last P f [] h = absurd h
  at_last P f (l ∷ []) h = f l h
  at_last P f (l ∷ (k ∷ ls)) h = at_last P f (k ∷ ls) h.1

  last-alike : (l m : Left) → Last l → Last m → Alike l m
  last-alike l m (inl x) (inl y) = inl (x.1.0 ∙ sym y.1.0, x.1.1 ∙ sym y.1.1)
  last-alike l m (inl x) (inr y) = absurd (y.0 x.0)
  last-alike l m (inr x) (inl y) = absurd (x.0 y.0)
  last-alike l m (inr x) (inr y) = inr (refused-number l.outcome x.1.0, refused-number m.outcome y.1.0)

  pub ends-alike : (ls ms : List Left) → Ends n t ls → Ends n t ms → AtLast (λ l. AtLast (Alike l) ms) ls
  ends-alike ls ms h i = at_last _ (λ l x. at_last (Alike l) (λ m y. last-alike l m x y) ms i) ls h

  module _ (within : WithinLimits n t) where
    last-final : (l : Left) → Last l → Final n t l
    last-final l (inl x) = x.1
    last-final l (inr x) = absurd (x.0 within)

    pub ends-final : (P : Left → Type 0) → ((l : Left) → Final n t l → P l) → (ls : List Left) → Ends n t ls → AtLast P ls
    ends-final P f ls h = at_last P (λ l x. f l (last-final l x)) ls h

    pub all-accepted : (ls : List Left) → Ends n t ls → AllAccepted ls
    all-accepted [] h = tt
    all-accepted (l ∷ []) h = (ap (λ o. o.number) (last-final l h).0, tt)
    all-accepted (l ∷ (k ∷ ls)) h = (h.0, all-accepted (k ∷ ls) h.1)
