-- The laws of scans.
use mathlib.Core.Path.{◌≡◌, refl, ◌∙◌}
use mathlib.Core.Bool.{Bool, true, false}
use mathlib.Core.List.{List, [], ◌∷◌}
use Prim.Native.Nat.{ℕ, zero, suc, ◌+◌, ◌-◌, ◌≤◌, ◌<◌}
use native.Mathlib.Omega.{arith}
use lib.Dec.{eqb, ltb}
use lib.ListN.{length, get_or, drop, length-take, length-drop}
use lib.Seq.{get_or-take, get_or-drop}
use borrow.Author.Tests.{eqb-true, eqb-false, ltb-true, ltb-false}
use Rattle.json_theory.specs.Parts.{Turn, go, stuck}
use Rattle.json_theory.specs.Inside.Scanning.{byte_at, PlaceIn, Running, RunTo, between, Goes, here, on, Stops}

-- behind the text stands 0
pub byte-none : (text : List ℕ) (p : ℕ) → length text ≤ p → byte_at text p ≡ 0
byte-none [] p l = refl
byte-none (c ∷ s) zero l = absurd (omega arith)
byte-none (c ∷ s) (suc p) l = byte-none s p (omega arith)

module _ {test : ℕ → Bool} {text : List ℕ} where
  pub running-start : {p : ℕ} → p ≤ length text → Running test text p p
  running-start l = record { from = omega arith; upto = l; passes = λ i m n. absurd (omega arith) }

  pub running-on : {p q : ℕ} → Running test text p q → q < length text → test (byte_at text q) ≡ true → Running test text p (q + 1)
  running-on {p} {q} r l e = record { from = omega (arith, r.from); upto = omega arith; passes = λ i m n. look i m n (eqb i q) refl }
    where
      look : (i : ℕ) → p ≤ i → i < q + 1 → (t : Bool) → eqb i q ≡ t → test (byte_at text i) ≡ true
      look i m n true h = rw (eqb-true i q h) e
      look i m n false h = r.passes i m (omega (arith, eqb-false i q h))

  pub run_out : {p q : ℕ} → Running test text p q → length text ≤ q → test 0 ≡ false → RunTo test text p q
  run_out {p} {q} r l e = record { running = r; fails = rw (byte-none text q l) e }

-- a byte that is not 0 stands in the text
pub byte_inside : (text : List ℕ) (p : ℕ) → 1 ≤ byte_at text p → p < length text
byte_inside text p h = look (ltb p (length text)) refl
  where
    look : (t : Bool) → ltb p (length text) ≡ t → p < length text
    look true e = ltb-true p (length text) e
    look false e = absurd (omega (arith, byte-none text p (ltb-false p (length text) e)))

pub place-on : (text : List ℕ) (p c : ℕ) → PlaceIn text p → c ≡ byte_at text p → 1 ≤ c → PlaceIn text (p + 1)
place-on text p c h e l = (omega (arith, byte_inside text p (omega arith)), h.1)

-- runs of parts
module _ {P : Type 0} {next : P → ℕ → Turn P} {text : List ℕ} where
  pub goes_one : {a b : P} {p : ℕ} → next a (byte_at text p) ≡ go b → Goes next text a p b (p + 1)
  goes_one h = on h here

  pub goes_on : {a b d : P} {p q r : ℕ} → Goes next text a p b q → Goes next text b q d r → Goes next text a p d r
  goes_on here k = k
  goes_on (on e h) k = on e (goes_on h k)

  pub stops-here : {a : P} {p : ℕ} → next a (byte_at text p) ≡ stuck → Stops next text a p p
  stops-here {a} h = record { part = a; goes = here; stays = h }

  pub stops-on : {a b : P} {p q r : ℕ} → Goes next text a p b q → Stops next text b q r → Stops next text a p r
  stops-on h k = record { part = k.part; goes = goes_on h k.goes; stays = k.stays }

  -- a run of bytes that each keep the part
  pub goes-run : {test : ℕ → Bool} {p q : ℕ} (a : P) → ((c : ℕ) → test c ≡ true → next a c ≡ go a) → Running test text p q → Goes next text a p a q
  goes-run {test} {p} {q} a h r = run (q - p) p (omega (arith, r.from)) (λ i l m. r.passes i l m)
    where
      run : (n i : ℕ) → i + n ≡ q → ((j : ℕ) → i ≤ j → j < q → test (byte_at text j) ≡ true) → Goes next text a i a q
      run zero i e f = let z : i ≡ q = omega arith in rw z here
      run (suc n) i e f = on (h (byte_at text i) (f i (omega arith) (omega arith))) (run n (i + 1) (omega arith) (λ j l m. f j (omega arith) m))

module _ {test : ℕ → Bool} {text : List ℕ} where
  pub running-one : {p : ℕ} → p < length text → test (byte_at text p) ≡ true → Running test text p (p + 1)
  running-one l e = running-on (running-start (omega arith)) l e

  pub running-to : {p q r : ℕ} → Running test text p q → Running test text q r → Running test text p r
  running-to {p} {q} {r} g h = record { from = omega (arith, g.from, h.from); upto = h.upto; passes = λ i l m. look i l m (ltb i q) refl }
    where
      look : (i : ℕ) → p ≤ i → i < r → (t : Bool) → ltb i q ≡ t → test (byte_at text i) ≡ true
      look i l m true e = g.passes i l (ltb-true i q e)
      look i l m false e = h.passes i (ltb-false i q e) m

  pub running-weaker : {other : ℕ → Bool} {p q : ℕ} → ((c : ℕ) → test c ≡ true → other c ≡ true) → Running test text p q → Running other text p q
  running-weaker h r = record { from = r.from; upto = r.upto; passes = λ i l m. h (byte_at text i) (r.passes i l m) }

-- the bytes from p to q
pub between-length : (text : List ℕ) (p q : ℕ) → q ≤ length text → length (between text p q) ≡ q - p
between-length text p q l = omega (arith, length-take (q - p) (drop p text), length-drop p text)

pub between-byte : (text : List ℕ) (p q i : ℕ) → p + i < q → get_or (between text p q) i 0 ≡ byte_at text (p + i)
between-byte text p q i l = get_or-take (q - p) (drop p text) i 0 (omega arith) ∙ get_or-drop p text i 0

pub goes-up : {P : Type 0} {next : P → ℕ → Turn P} {text : List ℕ} {a b : P} {p q : ℕ} → Goes next text a p b q → p ≤ q
goes-up here = omega arith
goes-up (on e h) = omega (arith, goes-up h)
