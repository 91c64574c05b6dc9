-- What a reading says: accepted, and refused.
use mathlib.Core.Path.{◌≡◌, refl, sym, subst}
use mathlib.Core.Bool.{Bool, true, false, cond}
use mathlib.Core.Logic.{◌↔◌}
use mathlib.Core.List.{List, [], ◌∷◌}
use Prim.Native.Nat.{ℕ, zero, suc, ◌+◌, ◌≤◌, ◌<◌}
use native.Mathlib.Omega.{arith}
use Rattle.value_table.specs.Value.{Values, none, size, Valid, ValidAt}
use Rattle.json_theory.specs.Grammar.{Text}
use Rattle.json_theory.specs.Steps.{State, gap, after, need, first, next_key, in_key, colon, in_string, in_number, in_literal, wrong, step}
use Rattle.json_theory.specs.Inside.Run.{run}
use Rattle.json_theory.specs.Reader.{written, limit_fault, is_wrong, Reading, fine, finish, fault_or, byte_fault, read_from}
use Rattle.json_theory.proofs.Rx.{false-true}
use Rattle.json_theory.proofs.Limits.{Shaped, Good, fits}
use Rattle.json_theory.proofs.Whole.{AllBytes, run-text}

pub wrong-is : (σ : State) → is_wrong σ ≡ true → σ ≡ wrong
wrong-is (gap ms) h = false-true h
wrong-is (after around) h = false-true h
wrong-is (need key around) h = false-true h
wrong-is (first o key outer) h = false-true h
wrong-is (next_key around) h = false-true h
wrong-is (in_key part spelled around) h = false-true h
wrong-is (colon key around) h = false-true h
wrong-is (in_string part around) h = false-true h
wrong-is (in_number part around) h = false-true h
wrong-is (in_literal l ls around) h = false-true h
wrong-is wrong h = refl

finish-fine : (σ : State) (p : ℕ) (T : Values) → finish σ p ≡ fine T → σ ≡ gap T
finish-fine (gap ms) p T h = cc
finish-fine (after around) p T h = cc
finish-fine (need key around) p T h = cc
finish-fine (first o key outer) p T h = cc
finish-fine (next_key around) p T h = cc
finish-fine (in_key part spelled around) p T h = cc
finish-fine (colon key around) p T h = cc
finish-fine (in_string part around) p T h = cc
finish-fine (in_number part around) p T h = cc
finish-fine (in_literal l ls around) p T h = cc
finish-fine wrong p T h = cc

decide-fine : (f p : ℕ) (r : Reading) (T : Values) → fault_or f p r ≡ fine T → (f ≡ 0) × (r ≡ fine T)
decide-fine zero p r T h = (refl, h)
decide-fine (suc f) p r T h = absurd (let z : ◌≡◌ {A = ℕ} 0 1 = cc in omega arith)

pub not-twelve : (b : Bool) (g f : ℕ) → (f ≡ 12 → ⊥) → cond b 12 g ≡ f → (b ≡ false) × (g ≡ f)
not-twelve true g f x e = absurd (x (sym e))
not-twelve false g f x e = (refl, e)

module _ (name : List ℕ → ℕ) (room : ℕ) where
  pub run-wrong : (s : List ℕ) → run name wrong s ≡ wrong
  unfolding run step
  run-wrong [] = refl
  run-wrong (c ∷ s) = run-wrong s

  not-wrong : (σ : State) (s : List ℕ) (T : Values) → run name σ s ≡ gap T → is_wrong σ ≡ false
  not-wrong σ s T h = go (is_wrong σ) refl
    where
      go : (b : Bool) → is_wrong σ ≡ b → b ≡ false
      go true e =
          let p : run name wrong s ≡ gap T = rw (wrong-is σ e) at h in
          let q = run-wrong s in
          cc
      go false e = refl

  module _ (small : (w : List ℕ) → name w < 65536) where
    good-back : (σ : State) (s : List ℕ) (T : Values) → Shaped σ → run name σ s ≡ gap T → Good room (gap T) → Good room σ
    unfolding run
    good-back σ [] T sh h g = subst (Good room) (sym h) g
    good-back σ (c ∷ s) T sh h g =
        let f = fits room name small σ c sh (not-wrong (step name σ c) s T h) in
        (f.1 (good-back (step name σ c) s T f.0 h g)).0

    read-run : (σ : State) (p : ℕ) (s : List ℕ) (T : Values) → Shaped σ → Good room σ → read_from name room σ p s ≡ fine T → (run name σ s ≡ gap T) × Good room (gap T)
    unfolding run read_from
    read-run σ p [] T sh g h = let e = finish-fine σ p T h in (e, subst (Good room) e g)
    read-run σ p (c ∷ s) T sh g h =
        let d = decide-fine (byte_fault name room σ c) p _ T h in
        let z = not-twelve (is_wrong (step name σ c)) (limit_fault name room σ c) 0 (λ e. omega arith) d.0 in
        let f = fits room name small σ c sh z.0 in
        read-run (step name σ c) (p + 1) s T f.0 (f.2 g z.1) d.1

    run-read : (σ : State) (p : ℕ) (s : List ℕ) (T : Values) → Shaped σ → run name σ s ≡ gap T → Good room (gap T) → read_from name room σ p s ≡ fine T
    unfolding run read_from
    run-read σ p [] T sh h g = rw h refl
    run-read σ p (c ∷ s) T sh h g =
        let a = not-wrong (step name σ c) s T h in
        let f = fits room name small σ c sh a in
        let z = f.1 (good-back (step name σ c) s T f.0 h g) in
        rw (a, z.1) (run-read (step name σ c) (p + 1) s T f.0 h g)

    -- accepted exactly when the text is in the grammar, and its messages are valid and fit
    pub reads : (s : List ℕ) (T : Values) → AllBytes s → (read_from name room (gap none) 0 s ≡ fine T) ↔ (Text name s T × Valid T × (size T ≤ room))
    unfolding written
    reads s T b = (
      λ h. let r = read-run (gap none) 0 s T tt (unfold ValidAt size in (tt, omega arith)) h in ((run-text name s T b).1 r.0, r.1.0, r.1.1),
      λ h. run-read (gap none) 0 s T tt ((run-text name s T b).0 h.0) (h.1, h.2),
    )
