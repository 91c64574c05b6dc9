-- What waits in slots, by what it gives at each path: a slot that grows or is replaced.
use mathlib.Core.Path.{◌≡◌, refl, sym, ◌∙◌, ap}
use mathlib.Core.Bool.{false}
use mathlib.Core.List.{List, [], ◌∷◌}
use mathlib.Core.Option.{Option, none}
use Prim.Native.Nat.{ℕ, zero, suc, ◌+◌, ◌/◌, ◌%◌, ◌<◌}
use native.Mathlib.Numerals.{add-one}
use native.Mathlib.Omega.{arith}
use lib.ListN.{length, get_or, set}
use Rattle.counting_theory.specs.Payload.{Payload}
use Rattle.counting_theory.specs.Trie.{◌⊞◌ as join_option, lookup}
use Rattle.counting_theory.specs.Label.{Label, Counting}
use Rattle.counting_theory.specs.declared.equivalence.Equivalence.{Equivalence}
use Rattle.counting_theory.specs.Raw.{raw}
use Rattle.counting_theory.proofs.Label.{counting-laws}
use Rattle.counting_theory.proofs.Trie.Join.{⊞-comm, ⊞-assoc, ⊞-left-comm}
use Rattle.counting_theory.proofs.Trie.Lookup.{lookup-append}
use Rattle.counting_theory.specs.Inside.Times.{times}
use Rattle.gathering.specs.Inside.Gathering.{slot_start, slot_count, message_at, message_raw, slot_raw, waiting}
use Rattle.counting_theory.proofs.Times.{times-one, lookup-times}

infixr 66 ◌⊞◌
abbrev ◌⊞◌ : Option Payload → Option Payload → Option Payload
x ⊞ y = join_option Counting x y

module _ (e : Equivalence) (t : List ℕ) (p : List Label) where
  -- what a slot gives, what all of them give, and what one message gives
  abbrev pub slot-gives : ℕ → Option Payload
  slot-gives v = lookup Counting (slot_raw e t v) p

  abbrev pub waiting-gives : List ℕ → Option Payload
  waiting-gives slots = lookup Counting (waiting e t slots) p

  abbrev pub message-gives : ℕ → Option Payload
  message-gives i = lookup Counting (raw e false (message_at t i)) p

  pub waiting-cons : (v : ℕ) (slots : List ℕ) → waiting-gives (v ∷ slots) ≡ slot-gives v ⊞ waiting-gives slots
  unfolding waiting
  waiting-cons v slots = lookup-append counting-laws (slot_raw e t v) (waiting e t slots) p

  -- a slot that gives z more
  pub waiting-more : (slots : List ℕ) (k v : ℕ) (z : Option Payload) → k < length slots → slot-gives v ≡ slot-gives (get_or slots k 0) ⊞ z →
      waiting-gives (set slots k v) ≡ z ⊞ waiting-gives slots
  waiting-more [] k v z h f = absurd (omega arith)
  waiting-more (u ∷ slots) zero v z h f =
      waiting-cons v slots ∙ ap (λ x. x ⊞ waiting-gives slots) (f ∙ ⊞-comm counting-laws (slot-gives u) z)
      ∙ ⊞-assoc counting-laws z (slot-gives u) (waiting-gives slots) ∙ ap (λ x. z ⊞ x) (sym (waiting-cons u slots))
  waiting-more (u ∷ slots) (suc k) v z h f =
      waiting-cons u (set slots k v) ∙ ap (λ x. slot-gives u ⊞ x) (waiting-more slots k v z (omega arith) f)
      ∙ ⊞-left-comm counting-laws (slot-gives u) z (waiting-gives slots) ∙ ap (λ x. z ⊞ x) (sym (waiting-cons u slots))

  -- a slot that is replaced
  pub waiting-replaced : (slots : List ℕ) (k v : ℕ) → k < length slots → slot-gives (get_or slots k 0) ⊞ waiting-gives (set slots k v) ≡ slot-gives v ⊞ waiting-gives slots
  waiting-replaced [] k v h = absurd (omega arith)
  waiting-replaced (u ∷ slots) zero v h =
      ap (λ x. slot-gives u ⊞ x) (waiting-cons v slots) ∙ ⊞-left-comm counting-laws (slot-gives u) (slot-gives v) (waiting-gives slots)
      ∙ ap (λ x. slot-gives v ⊞ x) (sym (waiting-cons u slots))
  waiting-replaced (u ∷ slots) (suc k) v h =
      ap (λ x. slot-gives (get_or slots k 0) ⊞ x) (waiting-cons u (set slots k v)) ∙ ⊞-left-comm counting-laws (slot-gives (get_or slots k 0)) (slot-gives u) (waiting-gives (set slots k v))
      ∙ ap (λ x. slot-gives u ⊞ x) (waiting-replaced slots k v (omega arith)) ∙ ⊞-left-comm counting-laws (slot-gives u) (slot-gives v) (waiting-gives slots)
      ∙ ap (λ x. slot-gives v ⊞ x) (sym (waiting-cons u slots))

  -- one message more, or the first
  pub gathered-more : (i n : ℕ) → lookup Counting (message_raw e t i (suc n)) p ≡ lookup Counting (message_raw e t i n) p ⊞ message-gives i
  unfolding message_raw lookup join_option
  gathered-more i zero = ap (λ r. lookup Counting r p) (times-one (raw e false (message_at t i)))
  gathered-more i (suc n) =
      ap (λ k. lookup Counting (times k (raw e false (message_at t i))) p) (sym (add-one (suc n))) ∙ lookup-times (suc n) 1 (raw e false (message_at t i)) p
      ∙ ap (λ r. lookup Counting (times (suc n) (raw e false (message_at t i))) p ⊞ lookup Counting r p) (times-one (raw e false (message_at t i)))

  -- the slot of a message gets one more of them
  pub slot-more : (v : ℕ) → slot-gives (v + 8192) ≡ slot-gives v ⊞ message-gives (slot_start v)
  slot-more v =
      let s : (v + 8192) % 8192 ≡ v % 8192 = omega arith in
      let c : (v + 8192) / 8192 ≡ suc (v / 8192) = omega arith in
      rw (s, c) (gathered-more (slot_start v) (slot_count v))

  -- a new slot
  pub slot-first : (i : ℕ) → i < 8192 → slot-gives (i + 8192) ≡ message-gives i
  unfolding message_raw
  slot-first i h =
      let s : (i + 8192) % 8192 ≡ i = omega arith in
      let c : (i + 8192) / 8192 ≡ 1 = omega arith in
      rw (s, c) (ap (λ r. lookup Counting r p) (times-one (raw e false (message_at t i))))

  pub slot-empty : (v : ℕ) → v < 8192 → slot-gives v ≡ none
  unfolding message_raw lookup
  slot-empty v h =
      let c : v / 8192 ≡ 0 = omega arith in
      rw c refl
