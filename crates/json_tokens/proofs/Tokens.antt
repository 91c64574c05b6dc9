-- The laws of scans and of tests by bytes.
use mathlib.Core.Path.{◌≡◌, refl, sym, ◌∙◌, ap, subst}
use mathlib.Core.Bool.{Bool, true, false, ◌&&◌, ◌||◌}
use mathlib.Core.Logic.{inl, inr}
use mathlib.Core.List.{List, [], ◌∷◌}
use Prim.Native.Nat.{ℕ, ◌+◌, ◌-◌, ◌≤◌, ◌<◌}
use native.Mathlib.Omega.{arith}
use lib.Dec.{T, eqb, ltb}
use lib.ListN.{length, drop, length-drop}
use lib.Seq.{get_or-drop}
use Rattle.std.specs.List.{AllWithin, HoldsAt}
use types.Run.{OneOf, hit}
use mir.Val.{has_key}
use borrow.Author.Tests.{ne_eqb, ltb-true, ltb-false}
use Rattle.json_theory.specs.Parts.{Turn, go, ended, stuck, is_escape}
use Rattle.json_theory.specs.Inside.Scanning.{byte_at, Running, RunTo, Goes, here, on}
use Rattle.json_tokens.specs.Inside.Tokens.{ScanIs}
use Rattle.std.specs.Prelude.{Result, Ok, Err}
use Rattle.json_tokens.specs.declared.scan.BadByte.{BadByte}
use Rattle.json_theory.proofs.Rx.{false-true}
use Rattle.byte_records.proofs.Tests.{and_parts}
use Rattle.json_theory.proofs.Scanning.{byte-none, goes_on, stops-on}

module _ {P : Type 0} {next : P → ℕ → Turn P} {text : List ℕ} where
  pub scan-on : {a b : P} {p q : ℕ} (d : P) → Goes next text a p b q → (r : Result ℕ BadByte) → ScanIs next text b q d r → ScanIs next text a p d r
  scan-on d h (Ok r) k = goes_on h k
  scan-on d h (Err r) k = stops-on h k

-- a byte that passes a test which 0 fails stands in the text
pub test-inside : (test : ℕ → Bool) (text : List ℕ) (p : ℕ) → test 0 ≡ false → test (byte_at text p) ≡ true → p < length text
test-inside test text p z h = look (ltb p (length text)) refl
  where
    look : (t : Bool) → ltb p (length text) ≡ t → p < length text
    look true q = ltb-true p (length text) q
    look false q = false-true (sym z ∙ (rw (byte-none text p (ltb-false p (length text) q)) at h))

is_go : {P : Type 0} → Turn P → Bool
is_go (go part) = true
is_go ended = false
is_go stuck = false

-- where no part goes on with 0, a scan stays in the text
module _ {P : Type 0} (next : P → ℕ → Turn P) (stop : (a : P) → next a 0 ≡ stuck) where
  pub goes-inside : (text : List ℕ) (a b : P) (p : ℕ) → next a (byte_at text p) ≡ go b → p < length text
  unfolding is_go
  goes-inside text a b p h = test-inside (λ c. is_go (next a c)) text p (ap is_go (stop a)) (ap is_go h)

  pub goes-upto : {text : List ℕ} {a b : P} {p q : ℕ} → Goes next text a p b q → p ≤ length text → q ≤ length text
  goes-upto here l = l
  goes-upto {text} {a} {b} {p} (on {b = d} e h) l = goes-upto h (omega (arith, goes-inside text a d p e))

-- tests of a `match` with several bytes to an arm, and with ranges
unfoldable pub all_of : (ℕ → Bool) → List ℕ → Bool
all_of f [] = true
all_of f (k ∷ ks) = f k && all_of f ks

pub one_of : (f : ℕ → Bool) (k : ℕ) (ks : List ℕ) (x : ℕ) → OneOf (k ∷ ks) x → all_of f (k ∷ ks) ≡ true → true ≡ f x
unfolding all_of
one_of f k [] x h g = rw h (sym (and_parts (f k) true g).0)
one_of f k (j ∷ ks) x (inl h) g = rw h (sym (and_parts (f k) (all_of f (j ∷ ks)) g).0)
one_of f k (j ∷ ks) x (inr h) g = one_of f j ks x h (and_parts (f k) (all_of f (j ∷ ks)) g).1

pub none_of : (ks : List ℕ) (x : ℕ) → (OneOf ks x → ⊥) → (k : ℕ) → T (has_key ks k) → eqb x k ≡ false
none_of ks x h k t = ne_eqb x k (λ e. h (subst (OneOf ks) (sym e) (hit ks k t)))

abbrev pub escapes : List ℕ
escapes = 0x22 ∷ 0x2F ∷ 0x5C ∷ 0x62 ∷ 0x66 ∷ 0x6E ∷ 0x72 ∷ 0x74 ∷ []

pub no-escape : (x : ℕ) → (OneOf escapes x → ⊥) → false ≡ is_escape x
no-escape x h =
    rw (
      none_of escapes x h 0x22 tt,
      none_of escapes x h 0x5C tt,
      none_of escapes x h 0x2F tt,
      none_of escapes x h 0x62 tt,
      none_of escapes x h 0x66 tt,
      none_of escapes x h 0x6E tt,
      none_of escapes x h 0x72 tt,
      none_of escapes x h 0x74 tt,
    ) refl

pub or-second : (a b : Bool) → a ≡ false → (a || b) ≡ true → b ≡ true
or-second true b e h = false-true (sym e)
or-second false b e h = h

-- a run by the place of its first byte that fails the test, and one to the end of the text
module _ (test : ℕ → Bool) (text : List ℕ) (p : ℕ) (l : p ≤ length text) where
  run_of : (n : ℕ) → n ≤ length (drop p text) → AllWithin (λ c. test c ≡ true) (drop p text) 0 n → Running test text p (p + n)
  run_of n m h =
      record {
        from = omega arith;
        upto = omega (arith, length-drop p text);
        passes =
            λ i a b.
            let z : p + (i - p) ≡ i = omega arith in
            ap test (ap (byte_at text) (sym z) ∙ sym (get_or-drop p text (i - p) 0)) ∙ h (i - p) 0 (omega arith) (omega arith);
      }

  pub run-first : (n : ℕ) → (n < length (drop p text)) × HoldsAt (λ c. test c ≡ false) (drop p text) n × AllWithin (λ c. test c ≡ true) (drop p text) 0 n → RunTo test text p (p + n)
  run-first n h = record { running = run_of n (omega (arith, h.0)) h.2; fails = ap test (sym (get_or-drop p text n 0)) ∙ h.1 0 }

  pub run-whole : test 0 ≡ false → AllWithin (λ c. test c ≡ true) (drop p text) 0 (length (drop p text)) → RunTo test text p (length text)
  run-whole e h =
      let z : p + length (drop p text) ≡ length text = omega (arith, length-drop p text) in
      record { running = rw z at (run_of (length (drop p text)) (omega arith) h); fails = ap test (byte-none text (length text) (omega arith)) ∙ e }
