-- The texts of the grammar are made of bytes.
use mathlib.Core.Path.{◌≡◌, refl}
use mathlib.Core.Bool.{Bool, true, ◌&&◌, ◌||◌}
use mathlib.Core.Logic.{◌⊎◌, inl, inr}
use mathlib.Core.List.{List, [], ◌∷◌, ◌++◌}
use Prim.Native.Nat.{ℕ, ◌<◌}
use native.Mathlib.Omega.{arith}
use lib.Dec.{eqb, leb, lit<}
use borrow.Author.Tests.{leb-true, eqb-true}
use Rattle.value_table.specs.Value.{Head, Values}
use Rattle.byte_records.proofs.Tests.{and_parts}
use Rattle.json_theory.specs.Rx.{Rx, never, empty, range, then, either, star, Star, stop, more, Word}
use Rattle.json_theory.specs.Grammar
use Rattle.json_theory.specs.Grammar.{quote, is_space, Ws, tight, space, Scalar, null, is_false, is_true, is_number, Container, array, object, opener, closer, Value, scalar, container, Messages, Text}
use Rattle.json_theory.proofs.Rx.{or-out}
use Rattle.json_theory.proofs.Whole.{AllBytes}

pub append-bytes : (a b : List ℕ) → AllBytes a → AllBytes b → AllBytes (a ++ b)
append-bytes [] b h k = k
append-bytes (c ∷ a) b h k = (h.0, append-bytes a b h.1 k)

-- no range goes beyond the bytes
bounded : Rx → Bool
bounded never = true
bounded empty = true
bounded (range low high) = leb high 255
bounded (then a b) = bounded a && bounded b
bounded (either a b) = bounded a && bounded b
bounded (star a) = bounded a

star-bytes : {P : List ℕ → Type 0} {w : List ℕ} → ((u : List ℕ) → P u → AllBytes u) → Star P w → AllBytes w
star-bytes f stop = tt
star-bytes f (more {u} {v} p t) = append-bytes u v (f u p) (star-bytes f t)

word_bytes : (r : Rx) → bounded r ≡ true → (w : List ℕ) → Word r w → AllBytes w
unfolding bounded
word_bytes never b w h = absurd h
word_bytes empty b w h = rw h tt
word_bytes (range low high) b w h = rw h.3 (omega (arith, leb-true high 255 b, h.2), tt)
word_bytes (then a b) x w h =
    let p = and_parts (bounded a) (bounded b) x in
    rw h.4 (append-bytes h.0 h.1 (word_bytes a p.0 h.0 h.2) (word_bytes b p.1 h.1 h.3))
word_bytes (either a b) x w (inl h) = word_bytes a (and_parts (bounded a) (bounded b) x).0 w h
word_bytes (either a b) x w (inr h) = word_bytes b (and_parts (bounded a) (bounded b) x).1 w h
word_bytes (star a) x w h = star-bytes (word_bytes a x) h

number-bytes : (w : List ℕ) → Word Grammar.number w → AllBytes w
unfolding bounded
number-bytes = word_bytes Grammar.number refl

chars-bytes : (w : List ℕ) → Word Grammar.chars w → AllBytes w
unfolding bounded
chars-bytes = word_bytes Grammar.chars refl

space-byte : (c : ℕ) → is_space c ≡ true → c < 256
space-byte c h = go (or-out (eqb c 0x20 || eqb c 0x09 || eqb c 0x0A) (eqb c 0x0D) h)
  where
    two : (eqb c 0x20 ≡ true) ⊎ (eqb c 0x09 ≡ true) → c < 256
    two (inl e) = omega (arith, eqb-true c 0x20 e)
    two (inr e) = omega (arith, eqb-true c 0x09 e)

    three : ((eqb c 0x20 || eqb c 0x09) ≡ true) ⊎ (eqb c 0x0A ≡ true) → c < 256
    three (inl e) = two (or-out (eqb c 0x20) (eqb c 0x09) e)
    three (inr e) = omega (arith, eqb-true c 0x0A e)

    go : ((eqb c 0x20 || eqb c 0x09 || eqb c 0x0A) ≡ true) ⊎ (eqb c 0x0D ≡ true) → c < 256
    go (inl e) = three (or-out (eqb c 0x20 || eqb c 0x09) (eqb c 0x0A) e)
    go (inr e) = omega (arith, eqb-true c 0x0D e)

ws-bytes : {s m : List ℕ} → Ws s m → AllBytes m → AllBytes s
ws-bytes tight h = h
ws-bytes (space {c} e w) h = (space-byte c e, ws-bytes w h)

scalar-bytes : {s m : List ℕ} {head : Head} → Scalar s head m → AllBytes m → AllBytes s
scalar-bytes null h = (lit< tt, (lit< tt, (lit< tt, (lit< tt, h))))
scalar-bytes is_false h = (lit< tt, (lit< tt, (lit< tt, (lit< tt, (lit< tt, h)))))
scalar-bytes is_true h = (lit< tt, (lit< tt, (lit< tt, (lit< tt, h))))
scalar-bytes (is_number {w} {m} n) h = append-bytes w m (number-bytes w n) h
scalar-bytes (Grammar.string {w} {m} n) h = (lit< tt, append-bytes w (quote ∷ m) (chars-bytes w n) (lit< tt, h))

opener-byte : (o : Container) → opener o < 256
opener-byte array = lit< tt
opener-byte object = lit< tt

closer-byte : (o : Container) → closer o < 256
closer-byte array = lit< tt
closer-byte object = lit< tt

module _ (name : List ℕ → ℕ) where
  value-bytes : {s m : List ℕ} {head : Head} {c : Values} → Value name s head c m → AllBytes m → AllBytes s
  value-bytes v =
      elim v as (λ s head c m v. AllBytes m → AllBytes s) (λ o s vs m v. AllBytes m → AllBytes s)
      (λ o s head key c m v. AllBytes m → AllBytes s) (λ o s vs m v. AllBytes m → AllBytes s) [
        | scalar x ↦ λ h. scalar-bytes x h
        | container {o} (x → f) ↦ λ h. (opener-byte o, f h)
        | Grammar.nothing {o} w ↦ λ h. ws-bytes w (closer-byte o, h)
        | Grammar.some w (i → f) (r → g) ↦ λ h. ws-bytes w (f (g h))
        | Grammar.element (x → f) ↦ f
        | Grammar.member {w} {s} x a b (y → f) ↦ λ h. (lit< tt, append-bytes w (quote ∷ s) (chars-bytes w x) (lit< tt, ws-bytes a (lit< tt, ws-bytes b (f h))))
        | Grammar.closed {o} w ↦ λ h. ws-bytes w (closer-byte o, h)
        | Grammar.next w x (i → f) (r → g) ↦ λ h. ws-bytes w (lit< tt, ws-bytes x (f (g h)))
      ]

  messages-bytes : {s : List ℕ} {vs : Values} → Messages name s vs → AllBytes s
  messages-bytes Grammar.done = tt
  messages-bytes (Grammar.message {b} v e w r) = value-bytes v (space-byte b e, ws-bytes w (messages-bytes r))

  pub text-bytes : {s : List ℕ} {ms : Values} → Text name s ms → AllBytes s
  text-bytes (Grammar.text w h) = ws-bytes w (messages-bytes h)
