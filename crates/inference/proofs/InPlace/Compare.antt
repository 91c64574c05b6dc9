-- The key list in the working buffer, key by key, and beside that of a record.
use mathlib.Core.Path.{◌≡◌, refl, ◌∙◌, ap}
use mathlib.Core.Bool.{true, false}
use mathlib.Core.List.{List, ◌∷◌}
use Prim.Native.Nat.Ordering.{eq}
use Prim.Native.Nat.{ℕ, zero, suc, ◌+◌, ◌*◌, ◌≤◌, ◌<◌, compare, Ordering}
use native.Mathlib.Numerals.{add-one}
use native.Mathlib.Omega.{arith}
use lib.ListN.{length, drop, drop_of_length-le}
use lib.Seq.{drop-cons}
use Rattle.byte_records.specs.Number.{number_at}
use Rattle.byte_records.specs.Inside.Chain.{Chain, done, next}
use Rattle.byte_records.proofs.Chain.{chain-le}
use Rattle.std.specs.declared.cmp.Ordering as code
use Rattle.std.specs.Ordering.{nat_cmp, is_eq}
use Rattle.counting_theory.specs.Order.{then, ordering_of}
use Rattle.counting_theory.specs.Encoding.{type_size, type_key, type_span}
use Rattle.counting_theory.proofs.Order.{number-refl, ordering-compare}
use Rattle.counting_theory.proofs.KeyOrder.{Comparing, comparing-start, left-sibling, right-sibling, next_keys}
use Rattle.type_arena.specs.Inside.Arena.{keys_in, FieldsInside}
use Rattle.type_arena.proofs.Fields.{inside-chain}
use Rattle.type_arena.proofs.Comparing.{then-told, then-kept}
use Rattle.inference.specs.Inside.Inferring.{keys_of}
use Rattle.byte_records.proofs.Numbers.{length-numbers, numbers-at}

-- the span of a key, and key i of w
abbrev pub one_key : ℕ → ℕ
one_key i = 1

abbrev pub key_in : List ℕ → ℕ → ℕ
key_in w i = number_at 2 w (2 * i)

module _ (w : List ℕ) (n : ℕ) where
  chain-from : (k i : ℕ) → i + k ≡ n → Chain one_key (key_in w) n i (drop i (keys_of n w))
  chain-from zero i e =
      let z : i ≡ n = omega arith in
      rw (drop_of_length-le (keys_of n w) {i = i} (omega (arith, length-numbers 2 n w)), z) done
  chain-from (suc k) i e =
      let head : drop i (keys_of n w) ≡ key_in w i ∷ drop (i + 1) (keys_of n w) =
      rw (add-one i) (drop-cons (keys_of n w) i 0 (omega (arith, length-numbers 2 n w)) ∙ ap (λ x. x ∷ drop (suc i) (keys_of n w)) (numbers-at 2 n i w (omega arith))) in
      rw head (next {p = i} (omega arith) (omega arith) (chain-from k (i + 1) (omega arith)))

  keys-chain : Chain one_key (key_in w) n 0 (keys_of n w)
  keys-chain = chain-from n 0 (omega arith)

-- the first n keys of w and the key list of record p of b compare as the keys before, by o, and what is left of them, from key i and from
-- record j on
pub record KeysLeft (b : List ℕ) (p : ℕ) (w : List ℕ) (n end : ℕ) (o : Ordering) (i j : ℕ) : Type 0 where
  pub comparing : Comparing one_key (key_in w) n (type_span b) (type_key b) end (keys_of n w) (keys_in b p) o i j
  pub most : i ≤ n
  pub upto : j ≤ end
  pub within : type_size * end ≤ length b

module _ {b : List ℕ} {p : ℕ} {w : List ℕ} {n : ℕ} where
  pub left-start : FieldsInside b p → KeysLeft b p w n (p + type_span b p) eq 0 (p + 1)
  left-start h =
      record { comparing = comparing-start (keys-chain w n) (inside-chain h); most = omega arith; upto = chain-le h.chain; within = h.within }

  pub left-room : {end i j : ℕ} {o : Ordering} → KeysLeft b p w n end o i j → (j ≡ end → ⊥) → type_size * j + type_size ≤ length b
  left-room s f = omega (arith, s.upto, s.within)

  pub left-next : {end i j : ℕ} {o : Ordering} → KeysLeft b p w n end o i j → (i ≡ n → ⊥) → (j ≡ end → ⊥) →
      KeysLeft b p w n end (then o (compare (key_in w i) (type_key b j))) (i + 1) (j + type_span b j)
  left-next s f g =
      let x = left-sibling s.comparing f g in
      let y = right-sibling s.comparing f g in
      record { comparing = next_keys s.comparing f g; most = omega arith; upto = omega arith; within = s.within }

  pub left-told : {end i j : ℕ} (o u : code.Ordering) → KeysLeft b p w n end (ordering_of o) i j → (i ≡ n → ⊥) → (j ≡ end → ⊥) → is_eq o ≡ true →
      u ≡ nat_cmp (key_in w i) (type_key b j) → KeysLeft b p w n end (ordering_of u) (i + 1) (j + type_span b j)
  left-told {i = i} {j = j} o u s f g e z =
      rw (z, ordering-compare (key_in w i) (type_key b j), then-told o (compare (key_in w i) (type_key b j)) e) (left-next s f g)

  pub left-kept : {end i j : ℕ} (o : code.Ordering) → KeysLeft b p w n end (ordering_of o) i j → (i ≡ n → ⊥) → (j ≡ end → ⊥) → is_eq o ≡ false →
      KeysLeft b p w n end (ordering_of o) (i + 1) (j + type_span b j)
  left-kept {i = i} {j = j} o s f g e = rw (← then-kept o (compare (key_in w i) (type_key b j)) e) at (left-next s f g)

  pub left-same : {end i j : ℕ} → KeysLeft b p w n end eq i j → (i ≡ n → ⊥) → (j ≡ end → ⊥) → key_in w i ≡ type_key b j → KeysLeft b p w n end eq (i + 1) (j + type_span b j)
  unfolding then
  left-same {j = j} s f g k = rw (k, number-refl (type_key b j)) at (left-next s f g)
