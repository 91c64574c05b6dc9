-- The laws of strings.
use mathlib.Core.Path.{◌≡◌, refl, sym, ◌∙◌, ap}
use mathlib.Core.Bool.{Bool, true, false, cond, not, ◌&&◌, ◌||◌}
use mathlib.Core.List.{List, [], ◌∷◌}
use Prim.Native.Nat.{ℕ, zero, suc, ◌+◌, ◌-◌, ◌≤◌, ◌<◌}
use native.Mathlib.Omega.{arith}
use lib.Dec.{eqb, leb, ltb}
use lib.ListN.{length}
use borrow.Author.Tests.{eqb-true, eqb-false, eq-eqb, ne_eqb, ltb-true, ltb-false, le-ltb, leb-true, leb-false, le-leb, not-true}
use types.Run.{OneOf}
use Rattle.json_theory.specs.Rx.{within}
use Rattle.json_theory.specs.Grammar.{quote}
use Rattle.json_theory.specs.Parts.{Turn, go, ended, stuck, go_if, StringPart, plain, escape, hexes4, hexes3, hexes2, hexes1, tails3, tails2, tails1, behind_e0, behind_ed, behind_f0, behind_f4, is_hex, is_escape, next_in_string}
use Rattle.json_theory.specs.Inside.Scanning.{byte_at, Running, Goes, here, on, Stops}
use Rattle.json_tokens.specs.Inside.Tokens.{is_plain, is_other, lowest_behind, highest_behind, width_of, TailFits, ScanIs, CharTo, CharIs, CharsTo}
use Rattle.std.specs.Prelude.{Result, Ok, Err}
use Rattle.json_tokens.specs.declared.scan.BadByte.{BadByte}
use Rattle.byte_records.proofs.Tests.{and_parts}
use Rattle.json_theory.proofs.Parts.{every, every-at}
use Rattle.json_theory.proofs.Scanning.{byte_inside, running-on, running-one, running-to, running-weaker, goes_one, goes_on, goes-run, stops-here, stops-on, goes-up}
use Rattle.json_tokens.proofs.Tokens.{goes-inside, goes-upto, or-second, all_of, one_of, escapes, no-escape}

-- the parts of a string as numbers
abbrev part_code : StringPart → ℕ
part_code plain = 0
part_code escape = 1
part_code hexes4 = 2
part_code hexes3 = 3
part_code hexes2 = 4
part_code hexes1 = 5
part_code tails3 = 6
part_code tails2 = 7
part_code tails1 = 8
part_code behind_e0 = 9
part_code behind_ed = 10
part_code behind_f0 = 11
part_code behind_f4 = 12

abbrev turn_code : Turn StringPart → ℕ
turn_code (go part) = part_code part
turn_code ended = 13
turn_code stuck = 14

-- a turn by its code
turn_of : ℕ → Turn StringPart
turn_of n =
    cond (eqb n 0) (go plain)
    (cond (eqb n 1) (go escape)
    (cond (eqb n 2) (go hexes4)
    (cond (eqb n 3) (go hexes3)
    (cond (eqb n 4) (go hexes2)
    (cond (eqb n 5) (go hexes1)
    (cond (eqb n 6) (go tails3)
    (cond (eqb n 7) (go tails2)
    (cond (eqb n 8) (go tails1)
    (cond (eqb n 9) (go behind_e0)
    (cond (eqb n 10) (go behind_ed)
    (cond (eqb n 11) (go behind_f0)
    (cond (eqb n 12) (go behind_f4)
    (cond (eqb n 13) ended stuck)))))))))))))

turn-back : (t : Turn StringPart) → turn_of (turn_code t) ≡ t
unfolding turn_of
turn-back (go plain) = refl
turn-back (go escape) = refl
turn-back (go hexes4) = refl
turn-back (go hexes3) = refl
turn-back (go hexes2) = refl
turn-back (go hexes1) = refl
turn-back (go tails3) = refl
turn-back (go tails2) = refl
turn-back (go tails1) = refl
turn-back (go behind_e0) = refl
turn-back (go behind_ed) = refl
turn-back (go behind_f0) = refl
turn-back (go behind_f4) = refl
turn-back ended = refl
turn-back stuck = refl

same_turn : (t u : Turn StringPart) → eqb (turn_code t) (turn_code u) ≡ true → t ≡ u
same_turn t u h = sym (turn-back t) ∙ ap turn_of (eqb-true (turn_code t) (turn_code u) h) ∙ turn-back u

-- from low to high the first byte of a char gives t
first_byte : (t : ℕ → Turn StringPart) (low high : ℕ) → every (λ c. ltb c low || eqb (turn_code (next_in_string plain c)) (turn_code (t c))) (suc high) ≡ true →
    (c : ℕ) → low ≤ c → c ≤ high → next_in_string plain c ≡ t c
first_byte t low high h c l m =
    same_turn (next_in_string plain c) (t c)
    (or-second (ltb c low) (eqb (turn_code (next_in_string plain c)) (turn_code (t c))) (le-ltb c low l)
    (every-at (λ c. ltb c low || eqb (turn_code (next_in_string plain c)) (turn_code (t c))) (suc high) c h (omega arith)))

pub plain-goes : (c : ℕ) → is_plain c ≡ true → next_in_string plain c ≡ go plain
unfolding next_in_string
plain-goes c h =
    let a = and_parts (not (eqb c quote)) (not (eqb c 0x5C) && within 0x20 0x7F c) h in
    let b = and_parts (not (eqb c 0x5C)) (within 0x20 0x7F c) a.1 in
    rw (not-true (eqb c quote) a.0, not-true (eqb c 0x5C) b.0, b.1) refl

pub plain_other : (c : ℕ) → is_plain c ≡ true → is_other c ≡ true
plain_other c h =
    let a = and_parts (not (eqb c quote)) (not (eqb c 0x5C) && within 0x20 0x7F c) h in
    (and_parts (not (eqb c 0x5C)) (within 0x20 0x7F c) a.1).0

high-other : (c : ℕ) → 0x80 ≤ c → is_other c ≡ true
high-other c l = rw (ne_eqb c 0x5C (λ e. omega arith)) refl

-- no part goes on with 0
zero-stuck : (a : StringPart) → next_in_string a 0 ≡ stuck
unfolding next_in_string
zero-stuck plain = refl
zero-stuck escape = refl
zero-stuck hexes4 = refl
zero-stuck hexes3 = refl
zero-stuck hexes2 = refl
zero-stuck hexes1 = refl
zero-stuck tails3 = refl
zero-stuck tails2 = refl
zero-stuck tails1 = refl
zero-stuck behind_e0 = refl
zero-stuck behind_ed = refl
zero-stuck behind_f0 = refl
zero-stuck behind_f4 = refl

pub string-inside : (text : List ℕ) (a b : StringPart) (p : ℕ) → next_in_string a (byte_at text p) ≡ go b → p < length text
string-inside = goes-inside next_in_string zero-stuck

pub string-upto : {text : List ℕ} {a b : StringPart} {p q : ℕ} → Goes next_in_string text a p b q → p ≤ length text → q ≤ length text
string-upto = goes-upto next_in_string zero-stuck

-- hexadecimal digits
unfoldable pub hex_after : ℕ → StringPart
hex_after zero = hexes4
hex_after (suc zero) = hexes3
hex_after (suc (suc zero)) = hexes2
hex_after (suc (suc (suc zero))) = hexes1
hex_after (suc (suc (suc (suc k)))) = plain

pub hex-turn : (k c : ℕ) → k < 4 → next_in_string (hex_after k) c ≡ go_if (is_hex c) (hex_after (k + 1))
unfolding next_in_string hex_after
hex-turn zero c l = refl
hex-turn (suc zero) c l = refl
hex-turn (suc (suc zero)) c l = refl
hex-turn (suc (suc (suc zero))) c l = refl
hex-turn (suc (suc (suc (suc k)))) c l = absurd (omega arith)

pub go-if : {P : Type 0} (t : Bool) (b : P) → t ≡ true → go_if t b ≡ go b
go-if t b h = rw h refl

pub stuck-if : {P : Type 0} (t : Bool) (b : P) → t ≡ false → go_if t b ≡ stuck
stuck-if t b h = rw h refl

-- escapes
pub escape-u : (c : ℕ) → c ≡ 0x75 → next_in_string escape c ≡ go hexes4
unfolding next_in_string
escape-u c h = rw (eq-eqb c 0x75 h) refl

pub escape-goes : (x c : ℕ) → x ≡ c → OneOf escapes x → next_in_string escape c ≡ go plain
unfolding next_in_string all_of
escape-goes x c e h =
    let f : ℕ → Bool = λ x. eqb (turn_code (next_in_string escape x)) (turn_code (go plain)) in
    rw (← e) (same_turn (next_in_string escape x) (go plain) (sym (one_of f 0x22 (0x2F ∷ 0x5C ∷ 0x62 ∷ 0x66 ∷ 0x6E ∷ 0x72 ∷ 0x74 ∷ []) x h refl)))

pub escape-stuck : (x c : ℕ) → x ≡ c → (x ≡ 0x75 → ⊥) → (OneOf escapes x → ⊥) → next_in_string escape c ≡ stuck
unfolding next_in_string
escape-stuck x c e h k = rw (← e, ne_eqb x 0x75 h) (stuck-if (is_escape x) plain (sym (no-escape x k)))

-- tails
pub within-inside : (text : List ℕ) (p low high : ℕ) → 0x80 ≤ low → within low high (byte_at text p) ≡ true → (0x80 ≤ byte_at text p) × (p < length text)
within-inside text p low high l h =
    let a = and_parts (leb low (byte_at text p)) (leb (byte_at text p) high) h in
    let b : 0x80 ≤ byte_at text p = omega (arith, leb-true low (byte_at text p) a.0) in
    (b, byte_inside text p (omega arith))

module _ (text : List ℕ) where
  pub escaped-char : (p : ℕ) → byte_at text p ≡ 0x5C → (r : Result ℕ BadByte) → ScanIs next_in_string text escape (p + 1) plain r → CharIs text p r
  unfolding next_in_string
  escaped-char p e (Ok q) h = record { goes = on (ap (next_in_string plain) e) h; some = omega (arith, goes-up h); clean = λ n. absurd (n e) }
  escaped-char p e (Err q) h = stops-on (goes_one (ap (next_in_string plain) e)) h

  pub plain-char : (p : ℕ) → is_plain (byte_at text p) ≡ true → CharTo text p (p + 1)
  plain-char p e =
      let g = plain-goes (byte_at text p) e in
      record { goes = goes_one g; some = omega arith; clean = λ n. running-one (string-inside text plain plain p g) (plain_other (byte_at text p) e) }

-- chars in a row
module _ {text : List ℕ} where
  pub chars-on : (p q r c : ℕ) (t : Bool) → c ≡ byte_at text q → CharsTo text p q t → CharTo text q r → CharsTo text p r (t || eqb c 0x5C)
  chars-on p q r c true e h k =
      let z = h.escapes in
      record { goes = goes_on h.goes k.goes; escapes = record { place = z.place; low = z.low; high = omega (arith, z.high, k.some); is = z.is } }
  chars-on p q r c false e h k = look (eqb c 0x5C) refl
    where
      look : (u : Bool) → eqb c 0x5C ≡ u → CharsTo text p r u
      look true f =
          record {
            goes = goes_on h.goes k.goes;
            escapes = record { place = q; low = h.escapes.from; high = k.some; is = sym e ∙ eqb-true c 0x5C f };
          }
      look false f = record { goes = goes_on h.goes k.goes; escapes = running-to h.escapes (k.clean (λ z. eqb-false c 0x5C f (e ∙ z))) }

  -- a run of plain chars
  pub chars-plain : {p q : ℕ} → Running is_plain text p q → CharsTo text p q false
  chars-plain r = record { goes = goes-run plain plain-goes r; escapes = running-weaker plain_other r }

-- the parts of a char, as its functions go
pub hex-start : (text : List ℕ) (p : ℕ) → Goes next_in_string text hexes4 p (hex_after (p - p)) p
unfolding hex_after
hex-start text p = let z : p - p ≡ 0 = omega arith in rw z here

module _ {text : List ℕ} {p q : ℕ} (h : Goes next_in_string text hexes4 p (hex_after (q - p)) q) where
  pub hex-on : p ≤ q → q < p + 4 → is_hex (byte_at text q) ≡ true → Goes next_in_string text hexes4 p (hex_after (q + 1 - p)) (q + 1)
  hex-on l m e =
      let z : q + 1 - p ≡ q - p + 1 = omega arith in
      rw z (goes_on h (goes_one (hex-turn (q - p) (byte_at text q) (omega arith) ∙ go-if (is_hex (byte_at text q)) (hex_after (q - p + 1)) e)))

  pub hex-stop : q < p + 4 → is_hex (byte_at text q) ≡ false → Stops next_in_string text hexes4 p q
  hex-stop m e = stops-on h (stops-here (hex-turn (q - p) (byte_at text q) (omega arith) ∙ stuck-if (is_hex (byte_at text q)) (hex_after (q - p + 1)) e))

  pub hex-done : q ≡ p + 4 → Goes next_in_string text hexes4 p plain (p + 4)
  unfolding hex_after
  hex-done e =
      let z : q - p ≡ 4 = omega arith in
      let g : Goes next_in_string text hexes4 p (hex_after 4) q = rw z at h in rw e at g

-- no char begins so
pub low-stuck : (c : ℕ) → c < 0xC2 → (0x20 ≤ c → 0x80 ≤ c) → next_in_string plain c ≡ stuck
unfolding every next_in_string
low-stuck c l h = look (ltb c 0x20) refl
  where
    look : (t : Bool) → ltb c 0x20 ≡ t → next_in_string plain c ≡ stuck
    look true e = first_byte (λ c. stuck) 0x00 0x1F refl c (omega arith) (omega (arith, ltb-true c 0x20 e))
    look false e = first_byte (λ c. stuck) 0x80 0xC1 refl c (h (ltb-false c 0x20 e)) (omega arith)

pub high-stuck : (c : ℕ) → 0xF5 ≤ c → c < 0x100 → next_in_string plain c ≡ stuck
unfolding every next_in_string
high-stuck c l m = first_byte (λ c. stuck) 0xF5 0xFF refl c l (omega arith)

-- in a match of ranges: neither the quote nor a \, from 20 to 7F
pub in-plain : (c : ℕ) → (c ≡ quote → ⊥) → (c ≡ 0x5C → ⊥) → 0x20 ≤ c → c ≤ 0x7F → is_plain c ≡ true
in-plain c h k l m = rw (ne_eqb c quote h, ne_eqb c 0x5C k, le-leb 0x20 c l, le-leb c 0x7F m) refl

-- the bytes behind a lead byte and the one after it
unfoldable pub tails_left : ℕ → StringPart
tails_left zero = plain
tails_left (suc zero) = tails1
tails_left (suc (suc n)) = tails2

tails-turn : (n c : ℕ) → n < 2 → next_in_string (tails_left (n + 1)) c ≡ go_if (within 0x80 0xBF c) (tails_left n)
unfolding next_in_string tails_left
tails-turn zero c l = refl
tails-turn (suc zero) c l = refl
tails-turn (suc (suc n)) c l = absurd (omega arith)

record Lead (c : ℕ) : Type 0 where
  pub part : StringPart
  pub leads : next_in_string plain c ≡ go part
  pub goes : (x : ℕ) → next_in_string part x ≡ go_if (within (lowest_behind c) (highest_behind c) x) (tails_left (width_of c - 2))

lead : (c : ℕ) → 0xC2 ≤ c → c ≤ 0xF4 → Lead c
unfolding every next_in_string tails_left
lead c l m = look (eqb c 0xE0) (eqb c 0xED) (eqb c 0xF0) (eqb c 0xF4) (leb c 0xDF) (leb c 0xEF) refl refl refl refl refl refl
  where
    three : leb c 0xDF ≡ false → leb c 0xEF ≡ true → next_in_string plain c ≡ cond (eqb c 0xE0) (go behind_e0) (cond (eqb c 0xED) (go behind_ed) (go tails2))
    three h i = first_byte (λ c. cond (eqb c 0xE0) (go behind_e0) (cond (eqb c 0xED) (go behind_ed) (go tails2))) 0xE0 0xEF refl c (leb-false c 0xDF h) (leb-true c 0xEF i)

    four : leb c 0xEF ≡ false → next_in_string plain c ≡ cond (eqb c 0xF0) (go behind_f0) (cond (eqb c 0xF4) (go behind_f4) (go tails3))
    four i = first_byte (λ c. cond (eqb c 0xF0) (go behind_f0) (cond (eqb c 0xF4) (go behind_f4) (go tails3))) 0xF0 0xF4 refl c (leb-false c 0xEF i) m

    look : (s t u v w z : Bool) → eqb c 0xE0 ≡ s → eqb c 0xED ≡ t → eqb c 0xF0 ≡ u → eqb c 0xF4 ≡ v → leb c 0xDF ≡ w → leb c 0xEF ≡ z → Lead c
    look true t u v w z e f g h i j = rw (eqb-true c 0xE0 e) (record { part = behind_e0; leads = refl; goes = λ x. refl })
    look false true u v w z e f g h i j = rw (eqb-true c 0xED f) (record { part = behind_ed; leads = refl; goes = λ x. refl })
    look false false true v w z e f g h i j = rw (eqb-true c 0xF0 g) (record { part = behind_f0; leads = refl; goes = λ x. refl })
    look false false false true w z e f g h i j = rw (eqb-true c 0xF4 h) (record { part = behind_f4; leads = refl; goes = λ x. refl })
    look false false false false true z e f g h i j =
        record { part = tails1; leads = first_byte (λ c. go tails1) 0xC2 0xDF refl c l (leb-true c 0xDF i); goes = λ x. rw (e, f, g, h, i) refl }
    look false false false false false true e f g h i j = record { part = tails2; leads = three i j ∙ rw (e, f) refl; goes = λ x. rw (e, f, g, h, i, j) refl }
    look false false false false false false e f g h i j = record { part = tails3; leads = four j ∙ rw (g, h) refl; goes = λ x. rw (e, f, g, h, i, j) refl }

low-behind : (c : ℕ) → 0x80 ≤ lowest_behind c
low-behind c = look (eqb c 0xE0) (eqb c 0xF0)
  where
    look : (s t : Bool) → 0x80 ≤ cond s 0xA0 (cond t 0x90 0x80)
    look true t = omega arith
    look false true = omega arith
    look false false = omega arith

-- a char from p to q, of which n bytes are to come
pub record TailsTo (text : List ℕ) (p q n : ℕ) : Type 0 where
  pub goes : Goes next_in_string text plain p (tails_left n) q
  pub some : p < q
  pub clean : Running is_other text p q

module _ (text : List ℕ) (p : ℕ) where
  -- up to its end, m
  module _ (q m : ℕ) (l : q < m) (k : m ≤ q + 2) (h : TailsTo text p q (m - q)) where
    left : m - q ≡ m - (q + 1) + 1
    left = omega arith

    step : next_in_string (tails_left (m - q)) (byte_at text q) ≡ go_if (within 0x80 0xBF (byte_at text q)) (tails_left (m - (q + 1)))
    step = rw left (tails-turn (m - (q + 1)) (byte_at text q) (omega arith))

    pub tails-on : within 0x80 0xBF (byte_at text q) ≡ true → TailsTo text p (q + 1) (m - (q + 1))
    tails-on e =
        let i = within-inside text q 0x80 0xBF (omega arith) e in
        record {
          goes = goes_on h.goes (goes_one (step ∙ go-if (within 0x80 0xBF (byte_at text q)) (tails_left (m - (q + 1))) e));
          some = omega (arith, h.some);
          clean = running-on h.clean i.1 (high-other (byte_at text q) i.0);
        }

    pub tails-stop : within 0x80 0xBF (byte_at text q) ≡ false → Stops next_in_string text plain p q
    tails-stop e = stops-on h.goes (stops-here (step ∙ stuck-if (within 0x80 0xBF (byte_at text q)) (tails_left (m - (q + 1))) e))

  pub tails-done : (q m : ℕ) → q ≡ m → TailsTo text p q (m - q) → CharTo text p m
  unfolding tails_left
  tails-done q m e h =
      let z : m - q ≡ 0 = omega arith in
      let g : TailsTo text p q 0 = rw z at h in
      let c : CharTo text p q = record { goes = g.goes; some = g.some; clean = λ n. g.clean } in rw e at c

  -- a lead byte and the byte behind it
  module _ (c : ℕ) (e : c ≡ byte_at text p) (l : 0xC2 ≤ c) (m : c ≤ 0xF4) where
    leads : Goes next_in_string text plain p (lead c l m).part (p + 1)
    leads = goes_one (ap (next_in_string plain) (sym e) ∙ (lead c l m).leads)

    pub tails-start : (w : ℕ) → w ≡ width_of c → within (lowest_behind c) (highest_behind c) (byte_at text (p + 1)) ≡ true → TailsTo text p (p + 2) (p + w - (p + 2))
    tails-start w f h =
        let i = within-inside text (p + 1) (lowest_behind c) (highest_behind c) (low-behind c) h in
        let y : p + w - (p + 2) ≡ w - 2 = omega arith in
        let z : p + 1 + 1 ≡ p + 2 = omega arith in
        let first : Running is_other text p (p + 1) = running-one (byte_inside text p (omega arith)) (high-other (byte_at text p) (omega arith)) in
        let g : TailsTo text p (p + 1 + 1) (width_of c - 2) =
        record {
          goes = goes_on leads (goes_one ((lead c l m).goes (byte_at text (p + 1)) ∙ go-if (within (lowest_behind c) (highest_behind c) (byte_at text (p + 1))) (tails_left (width_of c - 2)) h));
          some = omega arith;
          clean = running-on first i.1 (high-other (byte_at text (p + 1)) i.0);
        } in rw (y, f) (rw z at g)

    pub tails-none : within (lowest_behind c) (highest_behind c) (byte_at text (p + 1)) ≡ false → Stops next_in_string text plain p (p + 1)
    tails-none h =
        stops-on leads
        (stops-here ((lead c l m).goes (byte_at text (p + 1)) ∙ stuck-if (within (lowest_behind c) (highest_behind c) (byte_at text (p + 1))) (tails_left (width_of c - 2)) h))

    pub whole-char : TailFits text p c → CharTo text p (p + width_of c)
    whole-char t = look (leb c 0xDF) (leb c 0xEF) refl refl (tails-start (width_of c) refl t.second)
      where
        third : leb c 0xDF ≡ false → within 0x80 0xBF (byte_at text (p + 2)) ≡ true
        third f = t.third (omega (arith, leb-false c 0xDF f))

        fourth : leb c 0xEF ≡ false → within 0x80 0xBF (byte_at text (p + 2 + 1)) ≡ true
        fourth g = let z : p + 2 + 1 ≡ p + 3 = omega arith in rw z (t.fourth (omega (arith, leb-false c 0xEF g)))

        look : (s u : Bool) → leb c 0xDF ≡ s → leb c 0xEF ≡ u → TailsTo text p (p + 2) (p + cond s 2 (cond u 3 4) - (p + 2)) → CharTo text p (p + cond s 2 (cond u 3 4))
        look true u f g h = tails-done (p + 2) (p + 2) refl h
        look false true f g h = tails-done (p + 2 + 1) (p + 3) (omega arith) (tails-on (p + 2) (p + 3) (omega arith) (omega arith) h (third f))
        look false false f g h =
            tails-done (p + 2 + 1 + 1) (p + 4) (omega arith)
            (tails-on (p + 2 + 1) (p + 4) (omega arith) (omega arith) (tails-on (p + 2) (p + 4) (omega arith) (omega arith) h (third f)) (fourth g))
