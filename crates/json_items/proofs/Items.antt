-- The laws of keys and scalars.
use mathlib.Core.Path.{◌≡◌, refl, sym, ◌∙◌, ap}
use mathlib.Core.Bool.{Bool, true, false, cond}
use mathlib.Core.List.{List, [], ◌∷◌}
use Prim.Native.Nat.{ℕ, zero, suc, ◌+◌, ◌≤◌, ◌<◌}
use native.Mathlib.Omega.{arith}
use lib.Dec.{eqb}
use lib.ListN.{length, drop}
use borrow.Author.Tests.{ne_eqb}
use Rattle.value_table.specs.Value.{none, value}
use Rattle.json_theory.specs.Rx.{within}
use Rattle.json_theory.specs.Grammar.{head_of, array, object, is_space}
use Rattle.json_theory.specs.Parts.{plain, next_in_string, NumberPart, minus, nought, whole, Start, letters, number, string, open', nothing, start}
use Rattle.json_theory.specs.Steps.{Stack, add, after, in_string, in_number, in_literal, colon, begin, need, step}
use Rattle.json_theory.specs.Book.{book_records, book_keys, place_of, key_number}
use Rattle.json_theory.specs.Reader.{key_fault, fault_or, read_from, limit_fault}
use Rattle.json_theory.specs.Inside.Scanning.{byte_at, Goes, here, on, Stops, between, RunTo}
use Rattle.json_tokens.specs.Inside.Tokens.{StringTo, NumberIs, next_letter, ScanIs}
use Rattle.json_items.specs.Inside.Items.{ReadsTo, ScalarIs, key_reading, KeyTo, NamedIs, ColonTo, ColonIs}
use Rattle.std.specs.Prelude.{Result, Ok, Err, Some, None}
use Rattle.json_tokens.specs.declared.scan.BadByte.{BadByte}
use Rattle.json_items.specs.declared.item.KeyError.TheVariants.{Unlisted, Faulty}
use Rattle.key_book.specs.Inside.Records.{listed}
use Rattle.json_theory.proofs.Book.{keys_length, place-below}
use Rattle.json_theory.proofs.Rx.{false-true}
use Rattle.json_theory.proofs.Scanning.{byte_inside}
use Rattle.json_theory.proofs.Scanning.{goes-up}
use Rattle.json_tokens.proofs.Numbers.{number-upto}
use Rattle.json_items.proofs.Leads.{string-leads, number-leads, number-breaks, lettered, word-inside, word-leads, word-breaks, space-leads, loose-colon, loose-need, reads_on, reads-fault, reads_end, either_way}
use Rattle.json_items.proofs.Keys.{key-leads, key-breaks, string-escapes, plain-number, escaped-number}

-- the closing quote stands in the text
pub quote-inside : {text : List ℕ} {p q : ℕ} {t : Bool} → StringTo text p q t → q < length text
quote-inside {text} {q = q} s = byte_inside text q (omega (arith, s.shut))

-- a key's number by its place
a-listed : (n k : ℕ) → Some k ≡ listed n → (k ≡ n) × (k ≡ 0 → ⊥)
a-listed zero k h = absurd (let x : ◌≡◌ {A = ℕ} 0 1 = cc in omega arith)
a-listed (suc n) k h = let z : k ≡ suc n = cc in (z, λ e. omega arith)

none-listed : (n : ℕ) → None ≡ listed n → n ≡ 0
none-listed zero h = refl
none-listed (suc n) h = absurd (let x : ◌≡◌ {A = ℕ} 0 1 = cc in omega arith)

module _ (text book : List ℕ) (p q : ℕ) (l : p ≤ length text) where
  number_of : (t : Bool) (k : ℕ) → StringTo text p q t → key_number book (between text p q) ≡ k → (room : ℕ) (around : Stack) →
      key_reading text book room around p ≡ fault_or (key_fault k around) q (read_from (key_number book) room (colon k around) (q + 1) (drop (q + 1) text))
  number_of t k s e room around =
      key-leads around (key_number book) room t s
      ∙ ap (λ (n : ℕ). fault_or (key_fault n around) q (read_from (key_number book) room (colon n around) (q + 1) (drop (q + 1) text))) e

  plainly : (k : ℕ) → StringTo text p q false → k ≡ place_of (between text p q) 1 (book_keys book) → key_number book (between text p q) ≡ k
  plainly k s e = plain-number book (between text p q) (string-escapes false l s) ∙ sym e

  pub named-found : (k : ℕ) → StringTo text p q false → Some k ≡ listed (place_of (between text p q) 1 (book_keys book)) → KeyTo text book p k q
  unfolding key_fault
  named-found k s h =
      let e = a-listed (place_of (between text p q) 1 (book_keys book)) k h in
      record {
        some = omega (arith, e.1);
        listed = omega (arith, e.0, place-below (between text p q) 1 (book_keys book) (omega (arith, e)), keys_length (book_records book) book);
        from = omega (arith, goes-up s.chars.goes);
        upto = quote-inside s;
        reads = λ room around. number_of false k s (plainly k s e.0) room around ∙ rw (ne_eqb k 0 e.1) refl;
      }

  pub named-unlisted : StringTo text p q false → None ≡ listed (place_of (between text p q) 1 (book_keys book)) → NamedIs text book p (Err (Unlisted q))
  unfolding key_fault
  named-unlisted s h room around = number_of false 0 s (plainly 0 s (sym (none-listed (place_of (between text p q) 1 (book_keys book)) h))) room around

  pub named-escaped : StringTo text p q true → NamedIs text book p (Err (Unlisted q))
  unfolding key_fault
  named-escaped s room around = number_of true 0 s (escaped-number book (between text p q) (string-escapes true l s)) room around

  pub named-faulty : Stops next_in_string text plain p q → NamedIs text book p (Err (Faulty q))
  named-faulty s room around = key-breaks around (key_number book) room s

-- scalars
pub text-reads : {text : List ℕ} {p q : ℕ} (t : Bool) (around : Stack) → StringTo text p q t → ReadsTo text (in_string plain around) p (after around) (Ok (q + 1))
text-reads t around s = (string-leads around t s, omega (arith, goes-up s.chars.goes), omega (arith, quote-inside s))

pub number-reads : (text : List ℕ) (p : ℕ) (a : NumberPart) (around : Stack) (r : Result ℕ BadByte) → p ≤ length text → NumberIs text a p r → ReadsTo text (in_number a around) p (after around) r
number-reads text p a around (Ok q) l n = (number-leads around n, goes-up n.goes, number-upto n.goes l)
number-reads text p a around (Err bad) l n = number-breaks around n

word-upto : {text w b : List ℕ} {p q : ℕ} → lettered w ≡ true → Goes next_letter text w p b q → p ≤ length text → q ≤ length text
unfolding lettered
word-upto h here l = l
word-upto {text} {w} {p = p} h (on {b = d} e g) l = let i = word-inside text w d p h e in word-upto i.1 g (omega (arith, i.0))

pub word-reads : (text ls : List ℕ) (k p : ℕ) (around : Stack) (r : Result ℕ BadByte) → lettered (k ∷ ls) ≡ true → p ≤ length text → ScanIs next_letter text (k ∷ ls) p [] r →
    ReadsTo text (in_literal k ls around) p (after around) r
word-reads text ls k p around (Ok q) h l g = (word-leads around h g, goes-up g, word-upto h g l)
word-reads text ls k p around (Err bad) h l g = word-breaks around h g

-- what else may begin a value
is_token : Start → Bool
is_token (letters kind l ls) = true
is_token (number part) = false
is_token string = true
is_token (open' o) = false
is_token nothing = false

untold : (s t u v w : Bool) → is_token (cond s (number minus) (cond t (number nought) (cond u (number whole) (cond v (open' array) (cond w (open' object) nothing))))) ≡ false
unfolding is_token
untold true t u v w = refl
untold false true u v w = refl
untold false false true v w = refl
untold false false false true w = refl
untold false false false false true = refl
untold false false false false false = refl

no-token : (c : ℕ) → (c ≡ 0x22 → ⊥) → (c ≡ 0x66 → ⊥) → (c ≡ 0x6E → ⊥) → (c ≡ 0x74 → ⊥) → is_token (start c) ≡ false
unfolding start
no-token c a b d e =
    rw (ne_eqb c 0x22 a, ne_eqb c 0x66 b, ne_eqb c 0x6E d, ne_eqb c 0x74 e) (untold (eqb c 0x2D) (eqb c 0x30) (within 0x31 0x39 c) (eqb c 0x5B) (eqb c 0x7B))

pub scalar-number : (text : List ℕ) (p c : ℕ) (r : Result ℕ BadByte) → ((a : NumberPart) → start c ≡ number a → p ≤ length text) → (c ≡ 0x22 → ⊥) → (c ≡ 0x66 → ⊥) → (c ≡ 0x6E → ⊥) → (c ≡ 0x74 → ⊥) →
    ((a : NumberPart) → start c ≡ number a → NumberIs text a p r) → (key : ℕ) (around : Stack) → ScalarIs text p (start c) key around r
unfolding begin is_token
scalar-number text p c r l x y z w h key around = look (start c) (no-token c x y z w) h l
  where
    look : (s : Start) → is_token s ≡ false → ((a : NumberPart) → s ≡ number a → NumberIs text a p r) → ((a : NumberPart) → s ≡ number a → p ≤ length text) → ScalarIs text p s key around r
    look (letters kind m ls) e f g = false-true (sym e)
    look (number a) e f g = number-reads text p a (add (value (head_of 3) key none none) around) r (g a refl) (f a refl)
    look string e f g = false-true (sym e)
    look (open' o) e f g = tt
    look nothing e f g = tt

-- colons
module _ (text : List ℕ) (p q : ℕ) (s : RunTo is_space text p q) (key : ℕ) (around : Stack) where
  pub colon-leads : byte_at text q ≡ 0x3A → (r : ℕ) → RunTo is_space text (q + 1) r → ColonTo text key around p r
  unfolding step limit_fault
  colon-leads h r t =
      record {
        leads =
            λ name room.
            space-leads (colon key around) (loose-colon key around) s.running name room
            ∙ reads_on text q name room (colon key around) (byte_inside text q (omega arith)) (need key around) (rw h refl) (rw h refl)
            ∙ space-leads (need key around) (loose-need key around) t.running name room;
        from = omega (arith, s.running.from, t.running.from);
        upto = t.running.upto;
        byte = t.fails;
      }

  pub colon-breaks : (byte_at text q ≡ 0x3A → ⊥) → ColonIs text key around p (Err (record { at = q }))
  unfolding step limit_fault
  colon-breaks h name room =
      space-leads (colon key around) (loose-colon key around) s.running name room
      ∙ either_way text q
      (λ l. reads-fault text q name room (colon key around) l (rw (s.fails, ne_eqb (byte_at text q) 0x3A h) refl))
      (λ l. reads_end text q name room (colon key around) l)
