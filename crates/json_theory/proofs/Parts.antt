-- The parts of strings and numbers agree with the grammar's expressions: tried for every byte.
use mathlib.Core.Path.{◌≡◌, refl, sym, ◌∙◌, subst}
use mathlib.Core.Bool.{Bool, true, false, not, ◌&&◌, ◌||◌}
use mathlib.Core.Logic.{◌⊎◌, inl, inr}
use mathlib.Core.List.{List, [], ◌∷◌, ◌++◌}
use Prim.Native.Nat.{ℕ, zero, suc, ◌≤◌, ◌<◌}
use native.Mathlib.Omega.{arith}
use lib.Dec.{eqb, leb}
use borrow.Author.Tests.{eqb-true, eqb-false, eq-eqb, leb-true, not-true}
use Rattle.byte_records.proofs.Tests.{and_parts}
use Rattle.json_theory.specs.Rx.{Rx, Word, never, empty, range, then, either, star}
use Rattle.json_theory.specs.Inside.Derivative.{nullable, rest, seq, alt, or_never}
use Rattle.json_theory.specs.Grammar
use Rattle.json_theory.specs.Grammar.{quote, is_space}
use Rattle.json_theory.specs.Parts.{Turn, go, ended, stuck, StringPart, plain, escape, hexes4, hexes3, hexes2, hexes1, tails3, tails2, tails1, behind_e0, behind_ed, behind_f0, behind_f4, next_in_string, NumberPart, minus, nought, whole, point, decimal, e, signed, power, next_in_number, may_end, Start, letters, number, string, open', nothing, start}
use Rattle.json_theory.specs.Inside.Remaining.{string_rest, number_rest}
use Rattle.json_theory.proofs.Rx.{false-true, and_intro, cons-append, word-nullable, nullable-word, word-rest, rest-word}

-- the same expression
same : Rx → Rx → Bool
same never never = true
same never empty = false
same never (range l h) = false
same never (then a b) = false
same never (either a b) = false
same never (star a) = false
same empty never = false
same empty empty = true
same empty (range l h) = false
same empty (then a b) = false
same empty (either a b) = false
same empty (star a) = false
same (range l h) never = false
same (range l h) empty = false
same (range l h) (range m k) = eqb l m && eqb h k
same (range l h) (then a b) = false
same (range l h) (either a b) = false
same (range l h) (star a) = false
same (then a b) never = false
same (then a b) empty = false
same (then a b) (range l h) = false
same (then a b) (then c d) = same a c && same b d
same (then a b) (either c d) = false
same (then a b) (star c) = false
same (either a b) never = false
same (either a b) empty = false
same (either a b) (range l h) = false
same (either a b) (then c d) = false
same (either a b) (either c d) = same a c && same b d
same (either a b) (star c) = false
same (star a) never = false
same (star a) empty = false
same (star a) (range l h) = false
same (star a) (then c d) = false
same (star a) (either c d) = false
same (star a) (star c) = same a c

same-eq : (a b : Rx) → same a b ≡ true → a ≡ b
unfolding same
same-eq never never h = refl
same-eq never empty h = false-true h
same-eq never (range l k) h = false-true h
same-eq never (then a b) h = false-true h
same-eq never (either a b) h = false-true h
same-eq never (star a) h = false-true h
same-eq empty never h = false-true h
same-eq empty empty h = refl
same-eq empty (range l k) h = false-true h
same-eq empty (then a b) h = false-true h
same-eq empty (either a b) h = false-true h
same-eq empty (star a) h = false-true h
same-eq (range l k) never h = false-true h
same-eq (range l k) empty h = false-true h
same-eq (range l k) (range m n) h =
    let p = and_parts (eqb l m) (eqb k n) h in
    let x = eqb-true l m p.0 in
    let y = eqb-true k n p.1 in
    cc
same-eq (range l k) (then a b) h = false-true h
same-eq (range l k) (either a b) h = false-true h
same-eq (range l k) (star a) h = false-true h
same-eq (then a b) never h = false-true h
same-eq (then a b) empty h = false-true h
same-eq (then a b) (range l k) h = false-true h
same-eq (then a b) (then c d) h = let p = and_parts (same a c) (same b d) h in let x = same-eq a c p.0 in let y = same-eq b d p.1 in cc
same-eq (then a b) (either c d) h = false-true h
same-eq (then a b) (star c) h = false-true h
same-eq (either a b) never h = false-true h
same-eq (either a b) empty h = false-true h
same-eq (either a b) (range l k) h = false-true h
same-eq (either a b) (then c d) h = false-true h
same-eq (either a b) (either c d) h = let p = and_parts (same a c) (same b d) h in let x = same-eq a c p.0 in let y = same-eq b d p.1 in cc
same-eq (either a b) (star c) h = false-true h
same-eq (star a) never h = false-true h
same-eq (star a) empty h = false-true h
same-eq (star a) (range l k) h = false-true h
same-eq (star a) (then c d) h = false-true h
same-eq (star a) (either c d) h = false-true h
same-eq (star a) (star c) h = let x = same-eq a c h in cc

-- a test that every number below n passes
unfoldable pub every : (ℕ → Bool) → ℕ → Bool
every f zero = true
every f (suc n) = f n && every f n

pub every-at : (f : ℕ → Bool) (n c : ℕ) → every f n ≡ true → c < n → f c ≡ true
unfolding every
every-at f zero c h l = absurd (omega arith)
every-at f (suc n) c h l = go (eqb c n) refl (λ k. every-at f n c p.1 k)
  where
    p : (f n ≡ true) × (every f n ≡ true)
    p = and_parts (f n) (every f n) h

    go : (t : Bool) → eqb c n ≡ t → (c < n → f c ≡ true) → f c ≡ true
    go true q ih = rw (eqb-true c n q) p.0
    go false q ih = ih (omega (arith, eqb-false c n q))

same-and : (a b : Rx) (t : Bool) → (same a b && t) ≡ true → (a ≡ b) × (t ≡ true)
same-and a b t h = let p = and_parts (same a b) t h in (same-eq a b p.0, p.1)

not-both : {b : Bool} → not b ≡ true → b ≡ true → ⊥
not-both {b} p q = false-true (sym (not-true b p) ∙ q)

-- in a string: the closing quote
abbrev shuts : StringPart → ℕ → Bool
shuts part c = eqb c quote && nullable (string_rest part)

string_fits : StringPart → ℕ → Turn StringPart → Bool
string_fits part c (go q) = same (rest (string_rest part) c) (string_rest q) && not (shuts part c)
string_fits part c ended = same (rest (string_rest part) c) never && shuts part c
string_fits part c stuck = same (rest (string_rest part) c) never && not (shuts part c)

fits : (part : StringPart) → every (λ c. string_fits part c (next_in_string part c)) 256 ≡ true
unfolding every string_fits same next_in_string rest seq alt or_never nullable string_rest
fits plain = refl
fits escape = refl
fits hexes4 = refl
fits hexes3 = refl
fits hexes2 = refl
fits hexes1 = refl
fits tails3 = refl
fits tails2 = refl
fits tails1 = refl
fits behind_e0 = refl
fits behind_ed = refl
fits behind_f0 = refl
fits behind_f4 = refl

-- the closing quote t stands behind the rest w of a string; the rest begins with the byte c, or c is the quote
abbrev pub StringTurn : Turn StringPart → ℕ → List ℕ → List ℕ → List ℕ → Type 0
StringTurn (go q) c s w t = (v : List ℕ) × (w ≡ c ∷ v) × Word (string_rest q) v × (s ≡ v ++ (quote ∷ t))
StringTurn ended c s w t = (w ≡ []) × (s ≡ t)
StringTurn stuck c s w t = ⊥

pub string-down : (part : StringPart) (c : ℕ) (s w t : List ℕ) → c < 256 → Word (string_rest part) w → c ∷ s ≡ w ++ (quote ∷ t) →
    StringTurn (next_in_string part c) c s w t
unfolding string_fits
string-down part c s w t small h q =
    turn (next_in_string part c) (every-at _ 256 c (fits part) small) (cons-append c s w (quote ∷ t) q)
  where
    Shape : Type 0
    Shape = ((w ≡ []) × (quote ∷ t ≡ c ∷ s)) ⊎ ((v : List ℕ) × (w ≡ c ∷ v) × (s ≡ v ++ (quote ∷ t)))

    closing : w ≡ [] → quote ∷ t ≡ c ∷ s → shuts part c ≡ true
    closing a b = let z : c ≡ quote = cc in and_intro (eqb c quote) _ (eq-eqb c quote z) (word-nullable (string_rest part) (rw a at h))

    going : (v : List ℕ) → w ≡ c ∷ v → Word (rest (string_rest part) c) v
    going v a = word-rest (string_rest part) c v (rw a at h)

    R : Rx
    R = rest (string_rest part) c

    turn : (o : Turn StringPart) → string_fits part c o ≡ true → Shape → StringTurn o c s w t
    turn (go q) f (inl x) = absurd (not-both (same-and R (string_rest q) (not (shuts part c)) f).1 (closing x.0 x.1))
    turn (go q) f (inr x) = (x.0, x.1, subst (λ (r : Rx). Word r x.0) (same-and R (string_rest q) (not (shuts part c)) f).0 (going x.0 x.1), x.2)
    turn ended f (inl x) = (x.0, let z = x.1 in cc)
    turn ended f (inr x) = absurd (subst (λ (r : Rx). Word r x.0) (same-and R never (shuts part c) f).0 (going x.0 x.1))
    turn stuck f (inl x) = not-both (same-and R never (not (shuts part c)) f).1 (closing x.0 x.1)
    turn stuck f (inr x) = subst (λ (r : Rx). Word r x.0) (same-and R never (not (shuts part c)) f).0 (going x.0 x.1)

abbrev pub StringBack : StringPart → Turn StringPart → ℕ → Type 0
StringBack part (go q) c = (v : List ℕ) → Word (string_rest q) v → Word (string_rest part) (c ∷ v)
StringBack part ended c = (c ≡ quote) × Word (string_rest part) []
StringBack part stuck c = Unit {0}

pub string-up : (part : StringPart) (c : ℕ) → c < 256 → StringBack part (next_in_string part c) c
unfolding string_fits
string-up part c small = turn (next_in_string part c) (every-at _ 256 c (fits part) small)
  where
    R : Rx
    R = rest (string_rest part) c

    turn : (o : Turn StringPart) → string_fits part c o ≡ true → StringBack part o c
    turn (go q) f = λ v h. rest-word (string_rest part) c v (subst (λ (r : Rx). Word r v) (sym (same-and R (string_rest q) (not (shuts part c)) f).0) h)
    turn ended f =
        let p = and_parts (eqb c quote) (nullable (string_rest part)) (same-and R never (shuts part c) f).1 in
        (eqb-true c quote p.0, nullable-word (string_rest part) p.1)
    turn stuck f = tt

-- a byte that may stand behind a value
abbrev pub is_end : ℕ → Bool
is_end c = is_space c || eqb c 0x2C || eqb c 0x5D || eqb c 0x7D

number_fits : NumberPart → ℕ → Turn NumberPart → Bool
number_fits part c (go q) = same (rest (number_rest part) c) (number_rest q) && not (is_end c)
number_fits part c ended = same (rest (number_rest part) c) never
number_fits part c stuck = same (rest (number_rest part) c) never

number_fits_lem : (part : NumberPart) → every (λ c. number_fits part c (next_in_number part c)) 256 ≡ true
unfolding every number_fits same next_in_number rest seq alt or_never nullable number_rest
number_fits_lem minus = refl
number_fits_lem nought = refl
number_fits_lem whole = refl
number_fits_lem point = refl
number_fits_lem decimal = refl
number_fits_lem e = refl
number_fits_lem signed = refl
number_fits_lem power = refl

pub end-nullable : (part : NumberPart) → may_end part ≡ nullable (number_rest part)
unfolding may_end number_rest nullable
end-nullable minus = refl
end-nullable nought = refl
end-nullable whole = refl
end-nullable point = refl
end-nullable decimal = refl
end-nullable e = refl
end-nullable signed = refl
end-nullable power = refl

abbrev pub NumberFact : NumberPart → Turn NumberPart → ℕ → Type 0
NumberFact part (go q) c = (rest (number_rest part) c ≡ number_rest q) × (is_end c ≡ false)
NumberFact part ended c = rest (number_rest part) c ≡ never
NumberFact part stuck c = rest (number_rest part) c ≡ never

pub number-fact : (part : NumberPart) (c : ℕ) → c < 256 → NumberFact part (next_in_number part c) c
unfolding number_fits
number-fact part c small = turn (next_in_number part c) (every-at _ 256 c (number_fits_lem part) small)
  where
    R : Rx
    R = rest (number_rest part) c

    turn : (o : Turn NumberPart) → number_fits part c o ≡ true → NumberFact part o c
    turn (go q) f = let p = same-and R (number_rest q) (not (is_end c)) f in (p.0, not-true (is_end c) p.1)
    turn ended f = same-eq R never f
    turn stuck f = same-eq R never f

-- the first byte of a value
abbrev pub number_start : Start → Rx
number_start (letters kind l ls) = never
number_start (number part) = number_rest part
number_start string = never
number_start (open' o) = never
number_start nothing = never

abbrev pub is_start : Start → Bool
is_start (letters kind l ls) = true
is_start (number part) = true
is_start string = true
is_start (open' o) = true
is_start nothing = false

start_fits : ℕ → Bool
start_fits c = same (rest Grammar.number c) (number_start (start c)) && not (is_start (start c) && is_end c)

start_fits_lem : every start_fits 256 ≡ true
unfolding every start_fits same start rest seq alt or_never nullable number_rest
start_fits_lem = refl

pub start-fact : (c : ℕ) → c < 256 → (rest Grammar.number c ≡ number_start (start c)) × (is_start (start c) ≡ true → is_end c ≡ false)
unfolding start_fits
start-fact c small =
    let p = same-and (rest Grammar.number c) (number_start (start c)) (not (is_start (start c) && is_end c)) (every-at start_fits 256 c start_fits_lem small) in
    (p.0, λ h. go (is_start (start c)) (is_end c) h (not-true (is_start (start c) && is_end c) p.1))
  where
    go : (a b : Bool) → a ≡ true → (a && b) ≡ false → b ≡ false
    go true b h q = q
    go false b h q = false-true h

-- no byte of a string is a control, so none of a key is zero
is_go : Turn StringPart → Bool
is_go (go part) = true
is_go ended = false
is_go stuck = false

printable : (part : StringPart) → every (λ c. not (is_go (next_in_string part c)) || leb 0x20 c) 256 ≡ true
unfolding every is_go next_in_string
printable plain = refl
printable escape = refl
printable hexes4 = refl
printable hexes3 = refl
printable hexes2 = refl
printable hexes1 = refl
printable tails3 = refl
printable tails2 = refl
printable tails1 = refl
printable behind_e0 = refl
printable behind_ed = refl
printable behind_f0 = refl
printable behind_f4 = refl

pub no-control : (part q : StringPart) (c : ℕ) → c < 256 → next_in_string part c ≡ go q → 0x20 ≤ c
unfolding is_go
no-control part q c small h =
    leb-true 0x20 c (subst (λ (t : Turn StringPart). (not (is_go t) || leb 0x20 c) ≡ true) h (every-at (λ c. not (is_go (next_in_string part c)) || leb 0x20 c) 256 c (printable part) small))
