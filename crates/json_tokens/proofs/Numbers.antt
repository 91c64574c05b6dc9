-- The laws of numbers and words.
use mathlib.Core.Path.{◌≡◌, refl, sym, ◌∙◌, ap}
use mathlib.Core.Bool.{Bool, true, false, cond, ◌||◌}
use mathlib.Core.Logic.{◌⊎◌, inl, inr}
use mathlib.Core.List.{List}
use Prim.Native.Nat.{ℕ, ◌+◌, ◌≤◌, ◌<◌}
use native.Mathlib.Numerals.{add-one}
use native.Mathlib.Omega.{arith}
use lib.Dec.{eqb}
use lib.ListN.{length, get_or, drop}
use lib.Seq.{drop-cons}
use borrow.Author.Tests.{eqb-true, eq-eqb, ne_eqb, le-leb}
use Rattle.json_theory.specs.Rx.{within}
use Rattle.json_theory.specs.Grammar.{quote, array, object}
use Rattle.json_theory.specs.Parts.{Turn, go, stuck, go_if, is_digit, is_e, NumberPart, minus, nought, whole, point, decimal, e, signed, power, next_in_number, may_end, Start, letters, number, string, open', nothing, start}
use Rattle.json_theory.specs.Inside.Scanning.{byte_at, Running, RunTo, Goes, here, Stops}
use Rattle.json_tokens.specs.Inside.Tokens.{after_int, after_frac, after_sign, no_more, PartTo, NumberTo, PartIs, NumberIs, BehindIs}
use Rattle.json_tokens.specs.Inside.Tokens.{DigitsIs, next_letter}
use Rattle.std.specs.Prelude.{Result, Ok, Err}
use Rattle.json_tokens.specs.declared.scan.BadByte.{BadByte}
use Rattle.json_theory.proofs.Rx.{false-true}
use Rattle.json_theory.proofs.Scanning.{goes_one, goes_on, goes-run, stops-here, stops-on}
use Rattle.json_tokens.proofs.Tokens.{test-inside, goes-inside, goes-upto}
use Rattle.json_tokens.proofs.Strings.{go-if, stuck-if}

-- no part goes on with 0
number-zero : (a : NumberPart) → next_in_number a 0 ≡ stuck
unfolding next_in_number
number-zero minus = refl
number-zero nought = refl
number-zero whole = refl
number-zero point = refl
number-zero decimal = refl
number-zero e = refl
number-zero signed = refl
number-zero power = refl

pub number-inside : (text : List ℕ) (a b : NumberPart) (p : ℕ) → next_in_number a (byte_at text p) ≡ go b → p < length text
number-inside = goes-inside next_in_number number-zero

pub number-upto : {text : List ℕ} {a b : NumberPart} {p q : ℕ} → Goes next_in_number text a p b q → p ≤ length text → q ≤ length text
number-upto = goes-upto next_in_number number-zero

abbrev is_sign : ℕ → Bool
is_sign c = eqb c 0x2B || eqb c 0x2D

-- a sign is no digit
sign-digit : (c : ℕ) → is_sign c ≡ true → is_digit c ≡ false
sign-digit c h = look (eqb c 0x2B) refl h
  where
    look : (t : Bool) → eqb c 0x2B ≡ t → (t || eqb c 0x2D) ≡ true → is_digit c ≡ false
    look true q r = rw (eqb-true c 0x2B q) refl
    look false q r = rw (eqb-true c 0x2D r) refl

or-true : (t : Bool) → (t || true) ≡ true
or-true true = refl
or-true false = refl

-- a byte that is one of two, or none of them
pub either-byte : (k j x c : ℕ) → x ≡ c → (x ≡ k) ⊎ (x ≡ j) → (eqb c k || eqb c j) ≡ true
either-byte k j x c f (inl h) = rw (← f, eq-eqb x k h) refl
either-byte k j x c f (inr h) = rw (← f, eq-eqb x j h) (or-true (eqb x k))

pub neither-byte : (k j x c : ℕ) → x ≡ c → ((x ≡ k) ⊎ (x ≡ j) → ⊥) → (eqb c k || eqb c j) ≡ false
neither-byte k j x c f h = rw (← f, ne_eqb x k (λ z. h (inl z)), ne_eqb x j (λ z. h (inr z))) refl

-- the byte that an int begins with
pub nought-first : (x c : ℕ) → x ≡ c → x ≡ 0x30 → next_in_number minus c ≡ go nought
unfolding next_in_number
nought-first x c f h = rw (← f, h) refl

pub whole-first : (x c : ℕ) → x ≡ c → 0x31 ≤ x → x ≤ 0x39 → next_in_number minus c ≡ go whole
unfolding next_in_number
whole-first x c f l m = rw (← f, ne_eqb x 0x30 (λ z. omega arith), le-leb 0x31 x l, le-leb x 0x39 m) refl

pub none_first : (x c : ℕ) → x ≡ c → (x ≡ 0x30 → ⊥) → within 0x31 0x39 x ≡ false → next_in_number minus c ≡ stuck
unfolding next_in_number
none_first x c f h i = rw (← f, ne_eqb x 0x30 h, i) refl

pub no-first : (c : ℕ) (a : NumberPart) {A : Type 0} → next_in_number minus c ≡ stuck → next_in_number minus c ≡ go a → A
no-first c a h k = absurd (let x : ◌≡◌ {A = ℕ} 0 1 = cc in omega arith)

module _ {text : List ℕ} {turn : ℕ → Turn NumberPart} where
  pub part-here : {a : NumberPart} {p : ℕ} {t : Bool} → may_end a ≡ t → next_in_number a (byte_at text p) ≡ turn (byte_at text p) → PartTo turn text a p p t
  part-here {a = a} m h = record { part = a; goes = here; stays = h; end = m }

  to-on : {a b : NumberPart} {p q r : ℕ} {t : Bool} → Goes next_in_number text a p b q → PartTo turn text b q r t → PartTo turn text a p r t
  to-on g h = record { part = h.part; goes = goes_on g h.goes; stays = h.stays; end = h.end }

module _ (text : List ℕ) (turn : ℕ → Turn NumberPart) where
  part-on : {a b : NumberPart} {p q : ℕ} → Goes next_in_number text a p b q → (r : Result ℕ BadByte) → PartIs turn text b q r → PartIs turn text a p r
  part-on g (Ok r) h = to-on g h
  part-on g (Err r) h = to-on g h

  -- one part of a number, then the next
  pub part_then : (next : ℕ → Turn NumberPart) {a : NumberPart} {p q : ℕ} → PartTo next text a p q true → (r : Result ℕ BadByte) → BehindIs next turn text q r →
      PartIs turn text a p r
  part_then next h r k = part-on h.goes r (k h.part h.end h.stays)

  -- digits from part b, which they keep; and from part a, which needs one, to part b
  module _ (b : NumberPart) (keeps : (c : ℕ) → next_in_number b c ≡ cond (is_digit c) (go b) (turn c)) (end : may_end b ≡ true) where
    digits-to : {p q : ℕ} → RunTo is_digit text p q → PartTo turn text b p q true
    digits-to {p} {q} r =
        record { part = b; goes = goes-run b (λ c h. keeps c ∙ rw h refl) r.running; stays = keeps (byte_at text q) ∙ rw r.fails refl; end = end }

    some-digits : (a : NumberPart) (p : ℕ) → next_in_number a (byte_at text p) ≡ go_if (is_digit (byte_at text p)) b → may_end a ≡ false →
        (r : Result ℕ BadByte) → DigitsIs text p r → PartIs turn text a p r
    some-digits a p h m (Ok q) d =
        let r = d.0.running in
        let k : Running is_digit text (p + 1) q = record { from = omega arith; upto = r.upto; passes = λ i l n. r.passes i (omega arith) n } in
        to-on (goes_one (h ∙ go-if (is_digit (byte_at text p)) b (r.passes p (omega arith) d.1))) (digits-to (record { running = k; fails = d.0.fails }))
    some-digits a p h m (Err q) d = rw d.0 (part-here m (h ∙ stuck-if (is_digit (byte_at text p)) b d.1))

module _ (text : List ℕ) where
  -- exponents
  pub with-sign : (p : ℕ) → is_sign (byte_at text p) ≡ true → PartTo after_sign text e p (p + 1) false
  unfolding next_in_number may_end
  with-sign p s = to-on (goes_one {b = signed} (rw (sign-digit (byte_at text p) s, s) refl)) (part-here refl refl)

  pub without_sign : (p : ℕ) → is_sign (byte_at text p) ≡ false → PartTo after_sign text e p p false
  unfolding next_in_number may_end
  without_sign p s = part-here refl (rw s refl)

  pub exponent : (a : NumberPart) (p q : ℕ) → next_in_number a (byte_at text p) ≡ after_frac (byte_at text p) → is_e (byte_at text p) ≡ true →
      PartTo after_sign text e (p + 1) q false → (r : Result ℕ BadByte) → DigitsIs text q r → NumberIs text a p r
  unfolding next_in_number may_end
  exponent a p q h n s r d =
      part-on text no_more (goes_on (goes_one (h ∙ go-if (is_e (byte_at text p)) e n)) s.goes) r
      (some-digits text no_more power (λ c. refl) refl s.part q s.stays s.end r d)

  -- fractions
  pub fraction : (a : NumberPart) (p : ℕ) → next_in_number a (byte_at text p) ≡ after_int (byte_at text p) → byte_at text p ≡ 0x2E →
      (r : Result ℕ BadByte) → DigitsIs text (p + 1) r → PartIs after_frac text a p r
  unfolding next_in_number may_end
  fraction a p h n r d =
      part-on text after_frac (goes_one (rw (eq-eqb (byte_at text p) 0x2E n) at h)) r
      (some-digits text after_frac decimal (λ c. refl) refl point (p + 1) refl refl r d)

  -- ints
  pub after-nought : (p : ℕ) → PartTo after_int text nought p p true
  unfolding next_in_number may_end
  after-nought p = part-here refl refl

  pub after-whole : {p q : ℕ} → RunTo is_digit text p q → PartTo after_int text whole p q true
  unfolding next_in_number may_end
  after-whole r = digits-to text after_int whole (λ c. refl) refl r

  pub no-int : (p : ℕ) → next_in_number minus (byte_at text p) ≡ stuck → NumberTo text minus p p false
  unfolding may_end
  no-int p h = part-here refl h

  -- an int that begins with part b
  module _ {b : NumberPart} (p : ℕ) (g : next_in_number minus (byte_at text p) ≡ go b) {q : ℕ} (h : PartTo after_int text b (p + 1) q true) where
    pub behind-minus : PartTo after_int text minus p q true
    behind-minus = to-on (goes_one g) h

    pub first-part : (a : NumberPart) → next_in_number minus (byte_at text p) ≡ go a → PartTo after_int text a (p + 1) q true
    first-part a k = let z : a ≡ b = cc in rw z h

-- the first byte
is_number : Start → Bool
is_number (letters kind l ls) = false
is_number (number part) = true
is_number string = false
is_number (open' o) = false
is_number nothing = false

others : (s t u v w : Bool) (x y z : Start) → is_number x ≡ false → is_number y ≡ false → is_number z ≡ false →
    is_number (cond s (open' array) (cond t (open' object) (cond u x (cond v y (cond w z nothing))))) ≡ false
unfolding is_number
others true t u v w x y z a b d = refl
others false true u v w x y z a b d = refl
others false false true v w x y z a b d = a
others false false false true w x y z a b d = b
others false false false false true x y z a b d = d
others false false false false false x y z a b d = refl

pub start-inside : (text : List ℕ) (p : ℕ) (a : NumberPart) → start (byte_at text p) ≡ number a → p < length text
unfolding start is_number
start-inside text p a h = test-inside (λ c. is_number (start c)) text p refl (ap is_number h)

pub start-minus : (c : ℕ) (a : NumberPart) → c ≡ 0x2D → start c ≡ number a → a ≡ minus
unfolding start
start-minus c a q h = let z : start 0x2D ≡ number a = rw q at h in cc

-- any other part that a number starts with follows a minus too
pub start-int : (c : ℕ) (a : NumberPart) → (c ≡ 0x2D → ⊥) → start c ≡ number a → next_in_number minus c ≡ go a
unfolding start next_in_number is_number
start-int c a m h =
    look (eqb c quote) (eqb c 0x30) (within 0x31 0x39 c) _ (others (eqb c 0x5B) (eqb c 0x7B) (eqb c 0x6E) (eqb c 0x66) (eqb c 0x74) _ _ _ refl refl refl)
    (rw (ne_eqb c 0x2D m) at h)
  where
    look : (q n w : Bool) (s : Start) → is_number s ≡ false → cond q string (cond n (number nought) (cond w (number whole) s)) ≡ number a →
        cond n (go nought) (go_if w whole) ≡ go a
    look true n w s f k = absurd (let x : ◌≡◌ {A = ℕ} 0 1 = cc in omega arith)
    look false true w s f k = cc
    look false false true s f k = cc
    look false false false s f k = false-true (sym f ∙ ap is_number k)

-- words
pub word-start : (text word : List ℕ) (p : ℕ) → Goes next_letter text word p (drop 0 word) (p + 0)
word-start text word p = let z : p + 0 ≡ p = omega arith in rw z here

module _ (text word : List ℕ) (p k : ℕ) (g : Goes next_letter text word p (drop k word) (p + k)) where
  word-turn : (c : ℕ) → k < length word → next_letter (drop k word) c ≡ go_if (eqb c (get_or word k 0)) (drop (k + 1) word)
  unfolding next_letter
  word-turn c l = rw (drop-cons word k 0 l, add-one) refl

  pub word_on : k < length word → byte_at text (p + k) ≡ get_or word k 0 → Goes next_letter text word p (drop (k + 1) word) (p + (k + 1))
  word_on l h =
      let z : p + (k + 1) ≡ p + k + 1 = omega arith in
      rw z (goes_on g (goes_one (word-turn (byte_at text (p + k)) l ∙ go-if (eqb (byte_at text (p + k)) (get_or word k 0)) (drop (k + 1) word) (eq-eqb (byte_at text (p + k)) (get_or word k 0) h))))

  pub word-stop : k < length word → (byte_at text (p + k) ≡ get_or word k 0 → ⊥) → Stops next_letter text word p (p + k)
  word-stop l h =
      stops-on g (stops-here (word-turn (byte_at text (p + k)) l ∙ stuck-if (eqb (byte_at text (p + k)) (get_or word k 0)) (drop (k + 1) word) (ne_eqb (byte_at text (p + k)) (get_or word k 0) h)))
