-- A key up to its closing quote, and its number by the string that spells it.
use mathlib.Core.Path.{◌≡◌, refl, sym, ◌∙◌, ap}
use mathlib.Core.Bool.{Bool, true, false}
use mathlib.Core.List.{List, [], ◌∷◌, ◌++◌, append-nil, append_assoc}
use Prim.Native.Nat.{ℕ, zero, suc, ◌+◌, ◌-◌, ◌≤◌, ◌<◌}
use native.Mathlib.Numerals.{add-one}
use native.Mathlib.Omega.{arith}
use lib.Dec.{eqb}
use lib.ListN.{length, get_or, drop, length-take, length-drop}
use lib.Seq.{drop-cons}
use borrow.Author.Tests.{eqb-false, eq-eqb, ne_eqb, not-true}
use Rattle.value_table.specs.Value.{member}
use Rattle.json_theory.specs.Parts.{StringPart, plain, next_in_string}
use Rattle.json_theory.specs.Steps.{Stack, in_key, colon, key_turn, step}
use Rattle.json_theory.specs.Reader.{key_fault, key_ends, limit_fault, fault_at, fault_or, read_from}
use Rattle.json_theory.specs.Inside.Scanning.{byte_at, Running, Goes, here, on, Stops, between}
use Rattle.json_tokens.specs.Inside.Tokens.{StringTo}
use Rattle.json_theory.proofs.Scanning.{byte-none, between-length, between-byte, running-start, running-one, running-to}
use Rattle.json_tokens.proofs.Strings.{string-inside, string-upto}
use Rattle.json_theory.proofs.Scanning.{goes-up}
use Rattle.json_theory.specs.Book.{book_keys, place_of, key_number}
use Rattle.key_book.specs.Inside.Records.{is_filled}
use Rattle.json_theory.proofs.Parts.{no-control}
use Rattle.json_items.proofs.Leads.{reads-one, reads_on, reads-fault, reads_end, either_way}

-- the bytes of a key are remembered
no_bytes : (text : List ℕ) (p : ℕ) → between text p p ≡ []
no_bytes text p = let z : p - p ≡ 0 = omega arith in rw z refl

more_bytes : (text : List ℕ) (p q : ℕ) → p < q → p < length text → between text p q ≡ byte_at text p ∷ between text (p + 1) q
more_bytes text p q l m =
    let z : q - p ≡ suc (q - (p + 1)) = omega arith in
    let d : drop p text ≡ byte_at text p ∷ drop (p + 1) text = rw add-one (drop-cons text p 0 m) in
    rw (z, d) refl

module _ (around : Stack) (name : List ℕ → ℕ) (room : ℕ) where
  key-goes : {text : List ℕ} {a b : StringPart} {p q : ℕ} (w : List ℕ) → Goes next_in_string text a p b q →
      read_from name room (in_key a w around) p (drop p text) ≡ read_from name room (in_key b (w ++ between text p q) around) q (drop q text)
  unfolding step limit_fault key_turn key_ends
  key-goes {text} {a} {p = p} w here = rw (no_bytes text p, append-nil w) refl
  key-goes {text} {a} {b} {p} {q} w (on {b = d} e g) =
      let l = string-inside text a d p e in
      let b' = more_bytes text p q (omega (arith, goes-up g)) l in
      let m : (w ++ (byte_at text p ∷ [])) ++ between text (p + 1) q ≡ w ++ between text p q =
      append_assoc w (byte_at text p ∷ []) (between text (p + 1) q) ∙ ap (λ (x : List ℕ). w ++ x) (sym b') in
      reads_on text p name room (in_key a w around) l (in_key d (w ++ (byte_at text p ∷ [])) around) (rw e refl) (rw e refl)
      ∙ key-goes (w ++ (byte_at text p ∷ [])) g
      ∙ ap (λ (x : List ℕ). read_from name room (in_key b x around) q (drop q text)) m

  -- its closing quote decides by its number
  pub key-leads : {text : List ℕ} {p q : ℕ} (t : Bool) → StringTo text p q t →
      read_from name room (in_key plain [] around) p (drop p text)
      ≡ fault_or (key_fault (name (between text p q)) around) q (read_from name room (colon (name (between text p q)) around) (q + 1) (drop (q + 1) text))
  unfolding step limit_fault key_turn key_ends next_in_string
  key-leads {text} {p} {q} t s =
      key-goes [] s.chars.goes
      ∙ reads-one text q name room (in_key plain (between text p q) around) (either_way text q (λ l. l) (λ l. absurd (omega (arith, byte-none text q l, s.shut))))
      ∙ rw s.shut refl

  pub key-breaks : {text : List ℕ} {p q : ℕ} → Stops next_in_string text plain p q → read_from name room (in_key plain [] around) p (drop p text) ≡ fault_at 12 q
  unfolding step limit_fault key_turn key_ends
  key-breaks {text} {p} {q} s =
      key-goes [] s.goes
      ∙ either_way text q
      (λ l. reads-fault text q name room (in_key s.part (between text p q) around) l (rw s.stays refl))
      (λ l. reads_end text q name room (in_key s.part (between text p q) around) l)

-- the bytes of a string have a \ exactly when it has an escape
member-none : (k : ℕ) (s : List ℕ) → ((i : ℕ) → i < length s → eqb (get_or s i 0) k ≡ false) → member k s ≡ false
unfolding member
member-none k [] h = refl
member-none k (c ∷ s) h = rw (ne_eqb k c (λ e. eqb-false c k (h 0 (omega arith)) (sym e)), member-none k s (λ i l. h (suc i) (omega arith))) refl

member-some : (k : ℕ) (s : List ℕ) (i : ℕ) → i < length s → get_or s i 0 ≡ k → member k s ≡ true
unfolding member
member-some k [] i l e = absurd (omega arith)
member-some k (c ∷ s) zero l e = rw (eq-eqb k c (sym e)) refl
member-some k (c ∷ s) (suc i) l e = rw (member-some k s i (omega arith) e) (mathlib.Core.Bool.or-true (eqb k c))

pub string-escapes : {text : List ℕ} {p q : ℕ} (t : Bool) → p ≤ length text → StringTo text p q t → member 0x5C (between text p q) ≡ t
string-escapes {text} {p} {q} false l s =
    let r = s.chars.escapes in
    member-none 0x5C (between text p q)
    (λ i m.
    let n : i < q - p = omega (arith, between-length text p q r.upto) in
    rw (between-byte text p q i (omega arith)) (not-true (eqb (byte_at text (p + i)) 0x5C) (r.passes (p + i) (omega arith) (omega arith))))
string-escapes {text} {p} {q} true l s =
    let z = s.chars.escapes in
    let u = string-upto s.chars.goes l in
    let y : p + (z.place - p) ≡ z.place = omega (arith, z.low) in
    let k : z.place - p < q - p = omega (arith, z.low, z.high) in
    member-some 0x5C (between text p q) (z.place - p) (omega (arith, z.low, z.high, length-take (q - p) (drop p text), length-drop p text))
    (between-byte text p q (z.place - p) (omega arith) ∙ ap (byte_at text) y ∙ z.is)

-- the number of a key without an escape
pub plain-number : (b w : List ℕ) → member 0x5C w ≡ false → key_number b w ≡ place_of w 1 (book_keys b)
unfolding key_number
plain-number b w h = rw h refl

pub escaped-number : (b w : List ℕ) → member 0x5C w ≡ true → key_number b w ≡ 0
unfolding key_number
escaped-number b w h = rw h refl

-- the bytes of a string are not zero
pub goes-filled : {text : List ℕ} {a b : StringPart} {p q : ℕ} → ((i : ℕ) → byte_at text i < 256) → p ≤ length text → Goes next_in_string text a p b q → Running is_filled text p q
goes-filled small l here = running-start l
goes-filled {text} {a} {p = p} small l (on {b = d} e g) =
    let i = string-inside text a d p e in
    let h : 0x20 ≤ byte_at text p = no-control a d (byte_at text p) (small p) e in
    running-to (running-one i (rw (ne_eqb (byte_at text p) 0 (λ z. omega arith)) refl)) (goes-filled small (omega arith) g)
