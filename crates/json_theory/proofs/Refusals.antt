-- A refusal stands at the first byte that has a fault; 12 at the first byte with which no text of the grammar goes on.
use mathlib.Core.Path.{◌≡◌, refl, ap, subst}
use mathlib.Core.Bool.{Bool, true, false, cond}
use mathlib.Core.Logic.{◌⊎◌, inl, inr}
use mathlib.Core.List.{List, [], ◌∷◌, ◌++◌, append-nil}
use Prim.Native.Nat.{ℕ, zero, suc, ◌+◌, ◌≤◌}
use native.Mathlib.Omega.{arith}
use lib.Dec.{eqb}
use lib.ListN.{length}
use Rattle.value_table.specs.Value.{Values, none}
use Rattle.json_theory.specs.Grammar.{is_space, closer, array, object}
use Rattle.json_theory.specs.Parts.{Turn, go as go_on, ended, stuck, StringPart, next_in_string}
use Rattle.json_theory.specs.Steps.{Stack, base, level, State, gap, after, need, first, next_key, in_key, colon, in_string, in_number, in_literal, wrong, step}
use Rattle.json_theory.specs.Inside.Run.{run}
use Rattle.json_theory.specs.Reader.{value_fault, key_fault, key_ends, limit_fault, is_wrong, Reading, fault_at, finish, fault_or, byte_fault, read_from}
use Rattle.json_theory.specs.Promises.{NoText, Twelve}
use Rattle.json_theory.proofs.ToCome.{ToCome}
use Rattle.json_theory.proofs.Turn.{down}
use Rattle.json_theory.proofs.Whole.{AllBytes, end-down, run_down, run_up, text-come, come-text}
use Rattle.json_theory.proofs.Viable.{viable}
use Rattle.json_theory.proofs.Limits.{value-says, key-says}
use Rattle.json_theory.proofs.Readings.{wrong-is, not-twelve}

-- the fault of byte c in state σ, or of the text's end
abbrev pub FaultOf : (List ℕ → ℕ) → ℕ → State → List ℕ → ℕ → Type 0
FaultOf name room σ [] n = (n ≡ 12) × ((T : Values) → σ ≡ gap T → ⊥)
FaultOf name room σ (c ∷ s) n = (byte_fault name room σ c ≡ n) × (1 ≤ n)

finish-fault : (σ : State) (p n q : ℕ) → finish σ p ≡ fault_at n q → (n ≡ 12) × (q ≡ p) × ((T : Values) → σ ≡ gap T → ⊥)
finish-fault σ p n q h = (num σ h, place σ h, λ T e. no T (subst (λ (τ : State). finish τ p ≡ fault_at n q) e h))
  where
    no : (T : Values) → finish (gap T) p ≡ fault_at n q → ⊥
    no T h = let z : ◌≡◌ {A = ℕ} 0 1 = cc in omega arith

    num : (σ : State) → finish σ p ≡ fault_at n q → n ≡ 12
    num (gap ms) h = cc
    num (after around) h = cc
    num (need key around) h = cc
    num (first o key outer) h = cc
    num (next_key around) h = cc
    num (in_key part spelled around) h = cc
    num (colon key around) h = cc
    num (in_string part around) h = cc
    num (in_number part around) h = cc
    num (in_literal l ls around) h = cc
    num wrong h = cc

    place : (σ : State) → finish σ p ≡ fault_at n q → q ≡ p
    place (gap ms) h = cc
    place (after around) h = cc
    place (need key around) h = cc
    place (first o key outer) h = cc
    place (next_key around) h = cc
    place (in_key part spelled around) h = cc
    place (colon key around) h = cc
    place (in_string part around) h = cc
    place (in_number part around) h = cc
    place (in_literal l ls around) h = cc
    place wrong h = cc

decide-fault : (f p : ℕ) (r : Reading) (n q : ℕ) → fault_or f p r ≡ fault_at n q → ((f ≡ 0) × (r ≡ fault_at n q)) ⊎ ((f ≡ n) × (1 ≤ n) × (q ≡ p))
decide-fault zero p r n q h = inl (refl, h)
decide-fault (suc f) p r n q h = let e : suc f ≡ n = cc in let z : q ≡ p = cc in inr (e, omega arith, z)

module _ (name : List ℕ → ℕ) (room : ℕ) where
  -- no byte of s has a fault
  abbrev pub FaultFree : State → List ℕ → Type 0
  FaultFree σ [] = Unit {0}
  FaultFree σ (c ∷ s) = (byte_fault name room σ c ≡ 0) × FaultFree (step name σ c) s

  -- refused with n at place q: the bytes before q have no fault, and byte q has n
  pub record Refused (σ : State) (p : ℕ) (s : List ℕ) (n q : ℕ) : Type 0 where
    pub seen : List ℕ
    pub left : List ℕ
    pub parts : s ≡ seen ++ left
    pub place : q ≡ p + length seen
    pub alive : is_wrong (run name σ seen) ≡ false
    pub before : FaultFree σ seen
    pub faulty : FaultOf name room (run name σ seen) left n

  pub refused-at : (σ : State) (p : ℕ) (s : List ℕ) (n q : ℕ) → is_wrong σ ≡ false → read_from name room σ p s ≡ fault_at n q → Refused σ p s n q
  unfolding read_from run
  refused-at σ p [] n q a h =
      let f = finish-fault σ p n q h in
      record { seen = []; left = []; parts = refl; place = omega (arith, f.1); alive = a; before = tt; faulty = (f.0, f.2) }
  refused-at σ p (c ∷ s) n q a h = go (decide-fault (byte_fault name room σ c) p _ n q h) (refused-at (step name σ c) (p + 1) s n q)
    where
      go : ((byte_fault name room σ c ≡ 0) × (read_from name room (step name σ c) (p + 1) s ≡ fault_at n q)) ⊎ ((byte_fault name room σ c ≡ n) × (1 ≤ n) × (q ≡ p)) →
          (is_wrong (step name σ c) ≡ false → read_from name room (step name σ c) (p + 1) s ≡ fault_at n q → Refused (step name σ c) (p + 1) s n q) → Refused σ p (c ∷ s) n q
      go (inl x) ih =
          let z = not-twelve (is_wrong (step name σ c)) (limit_fault name room σ c) 0 (λ e. omega arith) x.0 in
          let r = ih z.0 x.1 in
          record {
            seen = c ∷ r.seen;
            left = r.left;
            parts = ap (λ (t : List ℕ). c ∷ t) r.parts;
            place = omega (arith, r.place);
            alive = r.alive;
            before = (x.0, r.before);
            faulty = r.faulty;
          }
      go (inr x) ih = record { seen = []; left = c ∷ s; parts = refl; place = omega (arith, x.2); alive = a; before = tt; faulty = (x.0, x.1) }

  positive : (σ : State) (left : List ℕ) (n : ℕ) → FaultOf name room σ left n → 1 ≤ n
  positive σ [] n f = omega (arith, f.0)
  positive σ (c ∷ left) n f = f.1

  pub refused-positive : (σ : State) (p : ℕ) (s : List ℕ) (n q : ℕ) → Refused σ p s n q → 1 ≤ n
  refused-positive σ p s n q r = positive (run name σ r.seen) r.left n r.faulty

  -- the other faults are not 12
  value_not : (around : Stack) → value_fault room around ≡ 12 → ⊥
  value_not around h = value-says room around 12 h (λ x d. omega arith) (λ x d w. omega arith) (λ x d w. omega arith)

  key-not : (key : ℕ) (around : Stack) → key_fault key around ≡ 12 → ⊥
  key-not key around h = key-says key around 12 h (λ x k. omega arith) (λ x k m. omega arith) (λ x k m n. omega arith) (λ x k m n. omega arith)

  either-not : (b : Bool) (f g : ℕ) → (f ≡ 12 → ⊥) → (g ≡ 12 → ⊥) → cond b f g ≡ 12 → ⊥
  either-not true f g x y h = x h
  either-not false f g x y h = y h

  limit-not : (σ : State) (c : ℕ) → limit_fault name room σ c ≡ 12 → ⊥
  unfolding limit_fault key_ends
  limit-not (gap ms) c = either-not (is_space c) 0 (value_fault room (base ms)) (λ h. omega arith) (value_not (base ms))
  limit-not (after around) c = λ h. omega arith
  limit-not (need key around) c = either-not (is_space c) 0 (value_fault room around) (λ h. omega arith) (value_not around)
  limit-not (first array key outer) c =
      either-not (is_space c) 0 _ (λ h. omega arith)
      (either-not (eqb c (closer array)) 0 (value_fault room (level array key none outer)) (λ h. omega arith) (value_not (level array key none outer)))
  limit-not (first object key outer) c = λ h. omega arith
  limit-not (next_key around) c = λ h. omega arith
  limit-not (in_key part spelled around) c = go (next_in_string part c)
    where
      go : (turn : Turn StringPart) → key_ends name room turn spelled around ≡ 12 → ⊥
      go (go_on q) h = omega arith
      go ended h = key-not (name spelled) around h
      go stuck h = omega arith
  limit-not (colon key around) c = λ h. omega arith
  limit-not (in_string part around) c = λ h. omega arith
  limit-not (in_number part around) c = λ h. omega arith
  limit-not (in_literal l ls around) c = λ h. omega arith
  limit-not wrong c = λ h. omega arith

  twelve-wrong : (b : Bool) (f : ℕ) → (f ≡ 12 → ⊥) → cond b 12 f ≡ 12 → b ≡ true
  twelve-wrong true f x h = refl
  twelve-wrong false f x h = absurd (x h)

  bytes-parts : (a b : List ℕ) → AllBytes (a ++ b) → AllBytes a × AllBytes b
  bytes-parts [] b h = (tt, h)
  bytes-parts (c ∷ a) b h = let r = bytes-parts a b h.1 in ((h.0, r.0), r.1)

  pub twelve : (s : List ℕ) (q : ℕ) → AllBytes s → read_from name room (gap none) 0 s ≡ fault_at 12 q → Twelve name s q
  twelve s q b h =
      let r = refused-at (gap none) 0 s 12 q refl h in
      let p = bytes-parts r.seen r.left (subst AllBytes r.parts b) in
      let v = viable name (run name (gap none) r.seen) r.alive in
      record {
        seen = r.seen;
        left = r.left;
        parts = r.parts;
        place = omega (arith, r.place);
        none-goes-on = stops r.seen r.left p.0 p.1 r.faulty;
        one-begins = (v.0, v.1, come-text name (r.seen ++ v.0) v.1 (run_up name (gap none) r.seen v.0 v.1 p.0 v.2));
      }
    where
      stops : (seen left : List ℕ) → AllBytes seen → AllBytes left → FaultOf name room (run name (gap none) seen) left 12 → NoText name seen left
      stops seen [] x y f = λ T t.
          f.1 T (end-down name (run name (gap none) seen) T (run_down name (gap none) seen [] T x (rw append-nil (text-come name seen T t))))
      stops seen (c ∷ left) x y f = λ u T t.
          let σ = run name (gap none) seen in
          let e = wrong-is (step name σ c) (twelve-wrong (is_wrong (step name σ c)) (limit_fault name room σ c) (limit-not σ c) f.0) in
          let z = down name c u T y.0 σ (run_down name (gap none) seen (c ∷ u) T x (text-come name (seen ++ (c ∷ u)) T t)) in
          subst (λ (τ : State). ToCome name τ u T) e z
