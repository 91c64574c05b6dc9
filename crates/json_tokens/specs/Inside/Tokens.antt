-- What the scanners answer: where a token ends, or the byte with which it cannot go on.
use Rattle.std.specs.Prelude.{◌≡◌, Bool, true, false, cond, not, ◌&&◌, List, [], ◌∷◌, Result, Ok, Err, ℕ, ◌+◌, ◌≤◌, ◌<◌, eqb, leb}
use Rattle.json_theory.specs.Rx.{within}
use Rattle.json_theory.specs.Grammar.{quote}
use Rattle.json_theory.specs.Parts.{Turn, go, ended, stuck, go_if, plain, next_in_string, NumberPart, point, e, power, is_digit, is_e, next_in_number, may_end}
use Rattle.json_tokens.specs.declared.scan.BadByte.{BadByte}
use Rattle.json_tokens.specs.declared.quoted.Quoted.{Quoted}
use Rattle.json_theory.specs.Inside.Scanning.{byte_at, Running, RunTo, Goes, Stops}

-- a char of one byte, which is neither the quote nor a \; and any byte but a \
abbrev pub is_plain : ℕ → Bool
is_plain c = not (eqb c quote) && (not (eqb c 0x5C) && within 0x20 0x7F c)

abbrev pub is_other : ℕ → Bool
is_other c = not (eqb c 0x5C)

-- the bytes that may stand behind a lead byte, RFC 3629
abbrev pub lowest_behind : ℕ → ℕ
lowest_behind c = cond (eqb c 0xE0) 0xA0 (cond (eqb c 0xF0) 0x90 0x80)

abbrev pub highest_behind : ℕ → ℕ
highest_behind c = cond (eqb c 0xED) 0x9F (cond (eqb c 0xF4) 0x8F 0xBF)

-- how many bytes a character has by its lead byte
abbrev pub width_of : ℕ → ℕ
width_of c = cond (leb c 0xDF) 2 (cond (leb c 0xEF) 3 4)

-- the bytes behind the lead byte c at p are those that it asks for
pub record TailFits (text : List ℕ) (p c : ℕ) : Type 0 where
  pub second : within (lowest_behind c) (highest_behind c) (byte_at text (p + 1)) ≡ true
  pub third : 0xE0 ≤ c → within 0x80 0xBF (byte_at text (p + 2)) ≡ true
  pub fourth : 0xF0 ≤ c → within 0x80 0xBF (byte_at text (p + 3)) ≡ true

-- a scan from part a to part b
abbrev pub ScanIs : {P : Type 0} → (P → ℕ → Turn P) → List ℕ → P → ℕ → P → Result ℕ BadByte → Type 0
ScanIs next text a p b (Ok q) = Goes next text a p b q
ScanIs next text a p b (Err bad) = Stops next text a p bad.at

-- a whole char: none of its bytes is a \, unless the first
pub record CharTo (text : List ℕ) (p q : ℕ) : Type 0 where
  pub goes : Goes next_in_string text plain p plain q
  pub some : p < q
  pub clean : (byte_at text p ≡ 0x5C → ⊥) → Running is_other text p q

abbrev pub CharIs : List ℕ → ℕ → Result ℕ BadByte → Type 0
CharIs text p (Ok q) = CharTo text p q
CharIs text p (Err bad) = Stops next_in_string text plain p bad.at

-- whether a \ is among the bytes from p to q
pub record Slash (text : List ℕ) (p q : ℕ) : Type 0 where
  pub place : ℕ
  pub low : p ≤ place
  pub high : place < q
  pub is : byte_at text place ≡ 0x5C

abbrev pub Escapes : Bool → List ℕ → ℕ → ℕ → Type 0
Escapes false text p q = Running is_other text p q
Escapes true text p q = Slash text p q

-- the chars of a string from p to q, with or without an escape; and up to the closing quote at q
pub record CharsTo (text : List ℕ) (p q : ℕ) (escaped : Bool) : Type 0 where
  pub goes : Goes next_in_string text plain p plain q
  pub escapes : Escapes escaped text p q

pub record StringTo (text : List ℕ) (p q : ℕ) (escaped : Bool) : Type 0 where
  pub chars : CharsTo text p q escaped
  pub shut : byte_at text q ≡ quote

abbrev pub QuotedIs : List ℕ → ℕ → Result Quoted BadByte → Type 0
QuotedIs text p (Ok s) = StringTo text p s.quote s.escaped
QuotedIs text p (Err bad) = Stops next_in_string text plain p bad.at

-- what a closure may answer, by `post`, is what the test says
abbrev pub Tells : (ℕ → Bool → Type 0) → (ℕ → Bool) → Type 0
Tells post test = (c : ℕ) (b : Bool) → post c b → b ≡ test c

-- the run of the bytes from p on to which the closure says yes ends at q
abbrev pub RunEnds : (ℕ → Bool → Type 0) → List ℕ → ℕ → ℕ → Type 0
RunEnds post text p q = (test : ℕ → Bool) → Tells post test → test 0 ≡ false → RunTo test text p q

-- one digit or more
abbrev pub DigitsIs : List ℕ → ℕ → Result ℕ BadByte → Type 0
DigitsIs text p (Ok q) = RunTo is_digit text p q × (p < q)
DigitsIs text p (Err bad) = (bad.at ≡ p) × (is_digit (byte_at text p) ≡ false)

-- what a number goes on with: behind int, behind frac and behind the sign of exp; and with nothing
abbrev pub after_int : ℕ → Turn NumberPart
after_int c = cond (eqb c 0x2E) (go point) (go_if (is_e c) e)

abbrev pub after_frac : ℕ → Turn NumberPart
after_frac c = go_if (is_e c) e

abbrev pub after_sign : ℕ → Turn NumberPart
after_sign c = go_if (is_digit c) power

abbrev pub no_more : ℕ → Turn NumberPart
no_more c = stuck

-- a number from part a at byte p to another at byte q: what it goes on with there, and whether it may end
pub record PartTo (turn : ℕ → Turn NumberPart) (text : List ℕ) (a : NumberPart) (p q : ℕ) (ends : Bool) : Type 0 where
  pub part : NumberPart
  pub goes : Goes next_in_number text a p part q
  pub stays : next_in_number part (byte_at text q) ≡ turn (byte_at text q)
  pub end : may_end part ≡ ends

-- the whole number: byte q is the first that it cannot go on with
abbrev pub NumberTo : List ℕ → NumberPart → ℕ → ℕ → Bool → Type 0
NumberTo text a p q ends = PartTo no_more text a p q ends

abbrev pub PartIs : (ℕ → Turn NumberPart) → List ℕ → NumberPart → ℕ → Result ℕ BadByte → Type 0
PartIs turn text a p (Ok q) = PartTo turn text a p q true
PartIs turn text a p (Err bad) = NumberTo text a p bad.at false

abbrev pub NumberIs : List ℕ → NumberPart → ℕ → Result ℕ BadByte → Type 0
NumberIs text a p r = PartIs no_more text a p r

-- behind a part that may be the end and goes on by `turn`, to where it goes on by `next`
abbrev pub BehindIs : (turn next : ℕ → Turn NumberPart) → List ℕ → ℕ → Result ℕ BadByte → Type 0
BehindIs turn next text p r = (a : NumberPart) → may_end a ≡ true → next_in_number a (byte_at text p) ≡ turn (byte_at text p) → PartIs next text a p r

-- the letters of a word that are to come
unfoldable pub next_letter : List ℕ → ℕ → Turn (List ℕ)
next_letter [] c = ended
next_letter (l ∷ ls) c = go_if (eqb c l) ls
