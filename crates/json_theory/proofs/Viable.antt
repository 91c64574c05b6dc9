-- Every state but the wrong one is completed by some text.
use mathlib.Core.Path.{◌≡◌, refl, sym}
use mathlib.Core.Bool.{Bool, true, false, ◌&&◌, ◌||◌}
use mathlib.Core.Logic.{◌⊎◌, inl, inr}
use mathlib.Core.List.{List, [], ◌∷◌, ◌++◌}
use Prim.Native.Nat.{ℕ}
use lib.Dec.{leb}
use borrow.Author.Tests.{leb-true}
use native.Mathlib.Omega.{arith}
use Rattle.value_table.specs.Value.{Values, none, value, join_values}
use Rattle.byte_records.proofs.Tests.{and_parts}
use Rattle.json_theory.specs.Rx.{Rx, never, empty, range, then, either, star, stop, Word}
use Rattle.json_theory.specs.Inside.Derivative.{nullable, rest, seq, alt, or_never}
use Rattle.json_theory.specs.Grammar
use Rattle.json_theory.specs.Grammar.{quote, tight, is_number, head_of, kind_of, closer, Value, scalar, nothing, member, closed, done as no_message}
use Rattle.json_theory.specs.Parts.{StringPart, plain, escape, hexes4, hexes3, hexes2, hexes1, tails3, tails2, tails1, behind_e0, behind_ed, behind_f0, behind_f4, NumberPart, minus, nought, whole, point, decimal, e, signed, power}
use Rattle.json_theory.specs.Inside.Remaining.{string_rest, number_rest}
use Rattle.json_theory.specs.Steps.{Stack, base, level, State, gap, after, need, first, next_key, in_key, colon, in_string, in_number, in_literal, wrong}
use Rattle.json_theory.specs.Reader.{is_wrong}
use Rattle.json_theory.proofs.Rx.{false-true, or-out, nullable-word, rest-word}
use Rattle.json_theory.proofs.ToCome.{Spaced, join-none, After, Behind, Needed, Colon, ToCome}

-- whether an expression has a word
alive : Rx → Bool
alive never = false
alive empty = true
alive (range low high) = leb low high
alive (then a b) = alive a && alive b
alive (either a b) = alive a || alive b
alive (star a) = true

alive-word : (r : Rx) → alive r ≡ true → (w : List ℕ) × Word r w
unfolding alive
alive-word never h = false-true h
alive-word empty h = ([], refl)
alive-word (range low high) h = (low ∷ [], (low, omega arith, leb-true low high h, refl))
alive-word (then a b) h =
    let p = and_parts (alive a) (alive b) h in
    let x = alive-word a p.0 in
    let y = alive-word b p.1 in
    (x.0 ++ y.0, (x.0, y.0, x.1, y.1, refl))
alive-word (either a b) h = go (or-out (alive a) (alive b) h) (alive-word a) (alive-word b)
  where
    go : (alive a ≡ true) ⊎ (alive b ≡ true) → (alive a ≡ true → (w : List ℕ) × Word a w) → (alive b ≡ true → (w : List ℕ) × Word b w) → (w : List ℕ) × Word (either a b) w
    go (inl p) f g = let x = f p in (x.0, inl x.1)
    go (inr p) f g = let x = g p in (x.0, inr x.1)
alive-word (star a) h = ([], stop)

string-alive : (part : StringPart) → alive (string_rest part) ≡ true
unfolding alive string_rest
string-alive plain = refl
string-alive escape = refl
string-alive hexes4 = refl
string-alive hexes3 = refl
string-alive hexes2 = refl
string-alive hexes1 = refl
string-alive tails3 = refl
string-alive tails2 = refl
string-alive tails1 = refl
string-alive behind_e0 = refl
string-alive behind_ed = refl
string-alive behind_f0 = refl
string-alive behind_f4 = refl

number-alive : (part : NumberPart) → alive (number_rest part) ≡ true
unfolding alive number_rest
number-alive minus = refl
number-alive nought = refl
number-alive whole = refl
number-alive point = refl
number-alive decimal = refl
number-alive e = refl
number-alive signed = refl
number-alive power = refl

-- the number 0
nought-word : Word Grammar.number (0x30 ∷ [])
unfolding nullable rest seq alt or_never
nought-word = rest-word Grammar.number 0x30 [] (nullable-word (rest Grammar.number 0x30) refl)

module _ (name : List ℕ → ℕ) where
  after-some : (around : Stack) (v : Values) → (u : List ℕ) × (T : Values) × After name around v u T
  after-some (base ms) v = (0x20 ∷ [], join_values ms v, (0x20, [], refl, refl, ([], tight, (none, no_message, sym (join-none (join_values ms v))))))
  after-some (level o key done outer) v =
      let x = after-some outer (value (head_of (kind_of o)) key (join_values (join_values done v) none) none) in
      (closer o ∷ x.0, x.1, (none, x.0, closed tight, x.2))

  behind-some : (around : Stack) → (u : List ℕ) × (T : Values) × Behind name around u T
  behind-some (base ms) = (0x20 ∷ [], ms, (0x20, [], refl, refl, ([], tight, (none, no_message, sym (join-none ms)))))
  behind-some (level o key done outer) =
      let x = after-some outer (value (head_of (kind_of o)) key (join_values done none) none) in
      (closer o ∷ x.0, x.1, (none, x.0, closed tight, x.2))

  need-some : (key : ℕ) (around : Stack) → (u : List ℕ) × (T : Values) × Spaced (Needed name key around T) u
  need-some key around =
      let x = after-some around (value (head_of 3) key none none) in
      (0x30 ∷ x.0, x.1, (0x30 ∷ x.0, tight, (head_of 3, none, x.0, scalar (is_number {w = 0x30 ∷ []} nought-word), x.2)))

  colon-some : (key : ℕ) (around : Stack) → (u : List ℕ) × (T : Values) × Spaced (Colon name key around T) u
  colon-some key around = let x = need-some key around in (0x3A ∷ x.0, x.1, (0x3A ∷ x.0, tight, (x.0, refl, x.2)))

  pub viable : (σ : State) → is_wrong σ ≡ false → (u : List ℕ) × (T : Values) × ToCome name σ u T
  viable (gap ms) a = ([], ms, ([], tight, (none, no_message, sym (join-none ms))))
  viable (after around) a = behind-some around
  viable (need key around) a = need-some key around
  viable (first o key outer) a =
      let x = after-some outer (value (head_of (kind_of o)) key none none) in
      (closer o ∷ x.0, x.1, (none, x.0, nothing tight, x.2))
  viable (next_key around) a =
      let x = after-some around (value (head_of 3) (name []) none none) in
      let v : Value name (0x30 ∷ x.0) (head_of 3) none x.0 = scalar (is_number {w = 0x30 ∷ []} nought-word) in
      (quote ∷ quote ∷ 0x3A ∷ 0x30 ∷ x.0, x.1, (quote ∷ quote ∷ 0x3A ∷ 0x30 ∷ x.0, tight, (head_of 3, name [], none, x.0, member {w = []} stop tight tight v, x.2)))
  viable (in_key part spelled around) a =
      let w = alive-word (string_rest part) (string-alive part) in
      let x = colon-some (name (spelled ++ w.0)) around in
      (w.0 ++ (quote ∷ x.0), x.1, (w.0, x.0, w.1, refl, x.2))
  viable (colon key around) a = colon-some key around
  viable (in_string part around) a =
      let w = alive-word (string_rest part) (string-alive part) in
      let x = behind-some around in
      (w.0 ++ (quote ∷ x.0), x.1, (w.0, x.0, w.1, refl, x.2))
  viable (in_number part around) a =
      let w = alive-word (number_rest part) (number-alive part) in
      let x = behind-some around in
      (w.0 ++ x.0, x.1, (w.0, x.0, w.1, refl, x.2))
  viable (in_literal l ls around) a = let x = behind-some around in (l ∷ (ls ++ x.0), x.1, (x.0, refl, x.2))
  viable wrong a = false-true (sym a)
