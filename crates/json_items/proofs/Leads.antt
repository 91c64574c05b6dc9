-- What the tokens say to a reading: a run of parts is a run of the automaton.
use mathlib.Core.Path.{◌≡◌, refl, sym, ◌∙◌, ap, subst}
use mathlib.Core.Bool.{Bool, true, false, not, ◌&&◌}
use mathlib.Core.List.{List, [], ◌∷◌}
use Prim.Native.Nat.{ℕ, zero, suc, ◌+◌, ◌-◌, ◌≤◌, ◌<◌}
use native.Mathlib.Numerals.{add-one}
use native.Mathlib.Omega.{arith}
use lib.Dec.{eqb, ltb}
use lib.ListN.{length, drop, drop_of_length-le}
use lib.Seq.{drop-cons}
use borrow.Author.Tests.{eqb-true, eqb-false, ltb-true, ltb-false, not-true}
use Rattle.value_table.specs.Value.{Values}
use Rattle.json_theory.specs.Grammar.{quote, is_space, Container, array, object}
use Rattle.json_theory.specs.Parts.{Turn, go, stuck, go_if, plain, next_in_string, NumberPart, next_in_number}
use Rattle.json_theory.specs.Steps.{Stack, base, level, State, gap, after, need, first, next_key, colon, in_string, in_number, in_literal, step_after, step_literal, string_turn, number_turn, step}
use Rattle.json_theory.specs.Reader.{limit_fault, is_wrong, Reading, fault_at, finish, fault_or, byte_fault, read_from}
use Rattle.json_theory.specs.Inside.Scanning.{byte_at, Running, Goes, here, on, Stops, Leads, Breaks}
use Rattle.json_tokens.specs.Inside.Tokens.{StringTo, NumberTo, next_letter}
use Rattle.byte_records.proofs.Tests.{and_parts}
use Rattle.json_theory.proofs.Scanning.{byte-none}
use Rattle.json_tokens.proofs.Strings.{string-inside}
use Rattle.json_tokens.proofs.Numbers.{number-inside}

-- one byte of a reading
module _ (text : List ℕ) (p : ℕ) (name : List ℕ → ℕ) (room : ℕ) (σ : State) where
  abbrev pub reading_from : Reading
  reading_from = read_from name room σ p (drop p text)

  ahead : p < length text → drop p text ≡ byte_at text p ∷ drop (p + 1) text
  ahead l = rw add-one (drop-cons text p 0 l)

  pub reads-one : p < length text → reading_from ≡ fault_or (byte_fault name room σ (byte_at text p)) p (read_from name room (step name σ (byte_at text p)) (p + 1) (drop (p + 1) text))
  unfolding read_from
  reads-one l = rw (ahead l, read_from) refl

  pub reads_on : p < length text → (τ : State) → step name σ (byte_at text p) ≡ τ → byte_fault name room σ (byte_at text p) ≡ 0 →
      reading_from ≡ read_from name room τ (p + 1) (drop (p + 1) text)
  reads_on l τ e f =
      reads-one l ∙ ap (λ (n : ℕ). fault_or n p (read_from name room (step name σ (byte_at text p)) (p + 1) (drop (p + 1) text))) f
      ∙ ap (λ (s : State). read_from name room s (p + 1) (drop (p + 1) text)) e

  pub reads-fault : p < length text → byte_fault name room σ (byte_at text p) ≡ 12 → reading_from ≡ fault_at 12 p
  reads-fault l f = reads-one l ∙ ap (λ (n : ℕ). fault_or n p (read_from name room (step name σ (byte_at text p)) (p + 1) (drop (p + 1) text))) f

  pub reads_end : length text ≤ p → reading_from ≡ finish σ p
  unfolding read_from
  reads_end l = rw (drop_of_length-le text {i = p} l, read_from) refl

-- at the end of the text, or before it
pub either_way : {A : Type 0} (text : List ℕ) (p : ℕ) → (p < length text → A) → (length text ≤ p → A) → A
either_way {A} text p f g = look (ltb p (length text)) refl
  where
    look : (t : Bool) → ltb p (length text) ≡ t → A
    look true e = f (ltb-true p (length text) e)
    look false e = g (ltb-false p (length text) e)

-- the states of parts that a token has
record Tokens {P : Type 0} (next : P → ℕ → Turn P) (σ : P → State) : Type 0 where
  inside : (text : List ℕ) (a b : P) (p : ℕ) → next a (byte_at text p) ≡ go b → p < length text
  moves : (a b : P) (c : ℕ) → next a c ≡ go b → (name : List ℕ → ℕ) (room : ℕ) → (step name (σ a) c ≡ σ b) × (byte_fault name room (σ a) c ≡ 0)

module _ {P : Type 0} {next : P → ℕ → Turn P} {σ : P → State} (t : Tokens next σ) where
  goes-leads : {text : List ℕ} {a b : P} {p q : ℕ} → Goes next text a p b q → Leads text (σ a) p (σ b) q
  goes-leads here name room = refl
  goes-leads {text} {a} {p = p} (on {b = d} e g) name room =
      let m = t.moves a d (byte_at text p) e name room in
      reads_on text p name room (σ a) (t.inside text a d p e) (σ d) m.0 m.1 ∙ goes-leads g name room

  stops-breaks : ((a : P) (c : ℕ) → next a c ≡ stuck → (name : List ℕ → ℕ) (room : ℕ) → byte_fault name room (σ a) c ≡ 12) →
      ((a : P) (q : ℕ) → finish (σ a) q ≡ fault_at 12 q) → {text : List ℕ} {a : P} {p q : ℕ} → Stops next text a p q → Breaks text (σ a) p q
  stops-breaks f h {text} {a} {p} {q} s name room =
      goes-leads s.goes name room
      ∙ either_way text q
      (λ l. reads-fault text q name room (σ s.part) l (f s.part (byte_at text q) s.stays name room))
      (λ l. reads_end text q name room (σ s.part) l ∙ h s.part q)

-- strings
module _ (around : Stack) where
  string-tokens : Tokens next_in_string (λ a. in_string a around)
  unfolding step limit_fault string_turn
  string-tokens = record { inside = string-inside; moves = λ a b c e name room. (rw e refl, rw e refl) }

  pub string-leads : {text : List ℕ} {p q : ℕ} (t : Bool) → StringTo text p q t → Leads text (in_string plain around) p (after around) (q + 1)
  unfolding step limit_fault string_turn next_in_string
  string-leads {text} {p} {q} t s name room =
      goes-leads string-tokens s.chars.goes name room
      ∙ reads_on text q name room (in_string plain around) (inside-quote text q s.shut) (after around) (rw s.shut refl) (rw s.shut refl)
    where
      inside-quote : (text : List ℕ) (q : ℕ) → byte_at text q ≡ quote → q < length text
      inside-quote text q h = either_way text q (λ l. l) (λ l. absurd (omega (arith, byte-none text q l, h)))

  pub string-breaks : {text : List ℕ} {p q : ℕ} → Stops next_in_string text plain p q → Breaks text (in_string plain around) p q
  unfolding step limit_fault string_turn
  string-breaks s = stops-breaks string-tokens (λ a c e name room. rw e refl) (λ a q. refl) s

-- numbers
module _ (around : Stack) where
  number-tokens : Tokens next_in_number (λ a. in_number a around)
  unfolding step limit_fault number_turn
  number-tokens = record { inside = number-inside; moves = λ a b c e name room. (rw e refl, rw e refl) }

  pub number-leads : {text : List ℕ} {a : NumberPart} {p q : ℕ} → NumberTo text a p q true → Leads text (in_number a around) p (after around) q
  unfolding step limit_fault number_turn
  number-leads {text} {a} {p} {q} n name room =
      goes-leads number-tokens n.goes name room
      ∙ either_way text q
      (λ l. reads-one text q name room (in_number n.part around) l ∙ rw (n.stays, n.end) refl ∙ sym (reads-one text q name room (after around) l))
      (λ l. reads_end text q name room (in_number n.part around) l ∙ sym (reads_end text q name room (after around) l))

  pub number-breaks : {text : List ℕ} {a : NumberPart} {p q : ℕ} → NumberTo text a p q false → Breaks text (in_number a around) p q
  unfolding step limit_fault number_turn
  number-breaks {text} {a} {p} {q} n name room =
      goes-leads number-tokens n.goes name room
      ∙ either_way text q
      (λ l. reads-fault text q name room (in_number n.part around) l (rw (n.stays, n.end) refl))
      (λ l. reads_end text q name room (in_number n.part around) l)

-- words, whose letters are not 0
unfoldable pub lettered : List ℕ → Bool
lettered [] = true
lettered (l ∷ ls) = not (eqb l 0) && lettered ls

go-back : {P : Type 0} (t : Bool) (a b : P) → go_if t a ≡ go b → (t ≡ true) × (a ≡ b)
go-back true a b e = (refl, cc)
go-back false a b e = absurd (let x : ◌≡◌ {A = ℕ} 0 1 = cc in omega arith)

pub word-inside : (text w b : List ℕ) (p : ℕ) → lettered w ≡ true → next_letter w (byte_at text p) ≡ go b → (p < length text) × (lettered b ≡ true)
unfolding lettered next_letter
word-inside text [] b p h e = absurd (let x : ◌≡◌ {A = ℕ} 0 1 = cc in omega arith)
word-inside text (l ∷ ls) b p h e =
    let g = go-back (eqb (byte_at text p) l) ls b e in
    let a = and_parts (not (eqb l 0)) (lettered ls) h in (
      either_way text p (λ k. k) (λ k. absurd (eqb-false l 0 (not-true (eqb l 0) a.0) (sym (eqb-true (byte_at text p) l g.0) ∙ byte-none text p k))),
      subst (λ (x : List ℕ). lettered x ≡ true) g.1 a.1,
    )

module _ (around : Stack) where
  open-literal : (ls : List ℕ) → is_wrong (step_literal ls around) ≡ false
  unfolding step_literal
  open-literal [] = refl
  open-literal (l ∷ ls) = refl

  letter-moves : (l : ℕ) (ls b : List ℕ) (c : ℕ) → next_letter (l ∷ ls) c ≡ go b → (name : List ℕ → ℕ) (room : ℕ) →
      (step name (in_literal l ls around) c ≡ step_literal b around) × (byte_fault name room (in_literal l ls around) c ≡ 0)
  unfolding step limit_fault next_letter
  letter-moves l ls b c e name room =
      let g = go-back (eqb c l) ls b e in
      (rw (g.0, g.1) refl, rw (g.0, open-literal ls) refl)

  pub word-goes : {text w b : List ℕ} {p q : ℕ} → lettered w ≡ true → Goes next_letter text w p b q → Leads text (step_literal w around) p (step_literal b around) q
  unfolding lettered step_literal next_letter
  word-goes h here name room = refl
  word-goes {w = []} h (on e g) name room = absurd (let x : ◌≡◌ {A = ℕ} 0 1 = cc in omega arith)
  word-goes {text = text} {w = l ∷ ls} {p = p} h (on {b = d} e g) name room =
      let m = letter-moves l ls d (byte_at text p) e name room in
      let i = word-inside text (l ∷ ls) d p h e in
      reads_on text p name room (in_literal l ls around) i.0 (step_literal d around) m.0 m.1 ∙ word-goes i.1 g name room

  pub word-leads : {text ls : List ℕ} {l p q : ℕ} → lettered (l ∷ ls) ≡ true → Goes next_letter text (l ∷ ls) p [] q → Leads text (in_literal l ls around) p (after around) q
  unfolding step_literal
  word-leads h g = word-goes h g

  pub word-breaks : {text ls : List ℕ} {l p q : ℕ} → lettered (l ∷ ls) ≡ true → Stops next_letter text (l ∷ ls) p q → Breaks text (in_literal l ls around) p q
  unfolding step limit_fault next_letter step_literal
  word-breaks {text} {ls} {l} {p} {q} h s name room = word-goes h s.goes name room ∙ last s.part s.stays
    where
      last : (b : List ℕ) → next_letter b (byte_at text q) ≡ stuck → read_from name room (step_literal b around) q (drop q text) ≡ fault_at 12 q
      last [] e = absurd (let x : ◌≡◌ {A = ℕ} 0 1 = cc in omega arith)
      last (k ∷ ks) e =
          either_way text q
          (λ i. reads-fault text q name room (in_literal k ks around) i (rw (stuck_back (eqb (byte_at text q) k) ks e) refl))
          (λ i. reads_end text q name room (in_literal k ks around) i)
        where
          stuck_back : {P : Type 0} (t : Bool) (a : P) → go_if t a ≡ stuck → t ≡ false
          stuck_back true a e = absurd (let x : ◌≡◌ {A = ℕ} 0 1 = cc in omega arith)
          stuck_back false a e = refl

-- white space
abbrev pub Loose : State → Type 0
Loose σ = (c : ℕ) → is_space c ≡ true → (name : List ℕ → ℕ) (room : ℕ) → (step name σ c ≡ σ) × (byte_fault name room σ c ≡ 0)

pub space-leads : {text : List ℕ} {p q : ℕ} (σ : State) → Loose σ → Running is_space text p q → Leads text σ p σ q
space-leads {text} {p} {q} σ h r name room = run (q - p) p (omega (arith, r.from)) (omega arith)
  where
    run : (n i : ℕ) → i + n ≡ q → p ≤ i → read_from name room σ i (drop i text) ≡ read_from name room σ q (drop q text)
    run zero i e l = ap (λ (j : ℕ). read_from name room σ j (drop j text)) (omega arith)
    run (suc n) i e l =
        let m = h (byte_at text i) (r.passes i l (omega arith)) name room in
        reads_on text i name room σ (omega (arith, r.upto)) σ m.0 m.1 ∙ run n (i + 1) (omega arith) (omega arith)

pub loose-need : (key : ℕ) (around : Stack) → Loose (need key around)
unfolding step limit_fault
loose-need key around c h name room = (rw h refl, rw h refl)

pub loose-colon : (key : ℕ) (around : Stack) → Loose (colon key around)
unfolding step limit_fault
loose-colon key around c h name room = (rw h refl, rw h refl)

pub loose-gap : (ms : Values) → Loose (gap ms)
unfolding step limit_fault
loose-gap ms c h name room = (rw h refl, rw h refl)

pub loose-after : (o : Container) (key : ℕ) (done : Values) (outer : Stack) → Loose (after (level o key done outer))
unfolding step limit_fault step_after
loose-after o key done outer c h name room = (rw h refl, rw h refl)

pub loose-first : (o : Container) (key : ℕ) (outer : Stack) → Loose (first o key outer)
unfolding step limit_fault
loose-first array key outer c h name room = (rw h refl, rw h refl)
loose-first object key outer c h name room = (rw h refl, rw h refl)

pub loose-next_key : (around : Stack) → Loose (next_key around)
unfolding step limit_fault
loose-next_key around c h name room = (rw h refl, rw h refl)

-- behind a message white space comes first
pub space-behind : {text : List ℕ} {p q : ℕ} (ms : Values) → p < q → Running is_space text p q → Leads text (after (base ms)) p (gap ms) q
unfolding step limit_fault step_after
space-behind {text} {p} {q} ms l r name room =
    let h = r.passes p (omega arith) l in
    reads_on text p name room (after (base ms)) (omega (arith, r.upto)) (gap ms) (rw h refl) (rw h refl)
    ∙ space-leads (gap ms) (loose-gap ms) (record { from = omega arith; upto = r.upto; passes = λ i a b. r.passes i (omega arith) b }) name room
