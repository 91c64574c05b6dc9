-- A byte keeps what has been read within the limits exactly if it has no fault.
use mathlib.Core.Path.{◌≡◌, refl, sym}
use mathlib.Core.Bool.{Bool, true, false, cond}
use mathlib.Core.List.{List, [], ◌∷◌}
use Prim.Native.Nat.{ℕ, suc, ◌≤◌, ◌<◌}
use native.Mathlib.Omega.{arith}
use lib.Dec.{eqb, leb}
use borrow.Author.Tests.{leb-true, leb-false, lt-leb, eqb-true, eqb-false, ne_eqb}
use Rattle.value_table.specs.Value.{Head, Values, none, value, size, count, keys, member, Distinct, ValidAt, max_depth, max_fields, last_scalar}
use Rattle.json_theory.specs.Grammar.{quote, is_space, Container, array, object, head_of, kind_of, closer}
use Rattle.json_theory.specs.Parts.{Turn, go as go_on, ended, stuck, StringPart, plain, next_in_string, NumberPart, next_in_number, may_end, Start, letters, number, string, open', nothing, start}
use Rattle.json_theory.specs.Steps.{Stack, base, level, add, State, gap, after, need, first, next_key, in_key, colon, in_string, in_number, in_literal, wrong, begin, item, behind_comma, shut, step_after, step_literal, key_turn, string_turn, number_turn, step}
use Rattle.json_theory.specs.Reader.{depth, written, items_in, keys_in, value_fault, listed_fault, key_fault, key_ends, limit_fault, is_wrong}
use Rattle.json_theory.proofs.Rx.{false-true}
use Rattle.json_theory.proofs.Begin.{ScalarKind, scalar-kind}
use Rattle.json_theory.proofs.Sound.{KeyOk, FieldsIn, Sound, sound-add, sound-drop, written-add, scalar-own, sound-shut, shut-sound}

abbrev pub InObject : Stack → Type 0
InObject (base ms) = ⊥
InObject (level array key done outer) = ⊥
InObject (level object key done outer) = Unit {0}

-- keys stand in objects
abbrev pub Shaped : State → Type 0
Shaped (gap ms) = Unit {0}
Shaped (after around) = Unit {0}
Shaped (need key around) = Unit {0}
Shaped (first o key outer) = Unit {0}
Shaped (next_key around) = InObject around
Shaped (in_key part spelled around) = InObject around
Shaped (colon key around) = InObject around
Shaped (in_string part around) = Unit {0}
Shaped (in_number part around) = Unit {0}
Shaped (in_literal l ls around) = Unit {0}
Shaped wrong = Unit {0}

-- what the number of a fault says
pub key-says : {A : Type 0} (key : ℕ) (around : Stack) (f : ℕ) → key_fault key around ≡ f → (f ≡ 13 → key ≡ 0 → A) →
    (f ≡ 6 → 1 ≤ key → member key (keys_in around) ≡ true → A) → (f ≡ 15 → 1 ≤ key → member key (keys_in around) ≡ false → max_fields ≤ items_in around → A) →
    (f ≡ 0 → 1 ≤ key → member key (keys_in around) ≡ false → items_in around < max_fields → A) → A
unfolding key_fault listed_fault
key-says {A} key around f e x y z w = go (eqb key 0) (member key (keys_in around)) (leb max_fields (items_in around)) refl refl refl (sym e)
  where
    go : (a b c : Bool) → eqb key 0 ≡ a → member key (keys_in around) ≡ b → leb max_fields (items_in around) ≡ c → f ≡ cond a 13 (cond b 6 (cond c 15 0)) → A
    go true b c p q r e = x e (eqb-true key 0 p)
    go false true c p q r e = y e (omega (arith, eqb-false key 0 p)) q
    go false false true p q r e = z e (omega (arith, eqb-false key 0 p)) q (leb-true max_fields (items_in around) r)
    go false false false p q r e = w e (omega (arith, eqb-false key 0 p)) q (leb-false max_fields (items_in around) r)

module _ (room : ℕ) where
  abbrev pub Full : Stack → Type 0
  Full around = Sound around × (written around ≤ room)

  -- what has been read is within the limits
  abbrev pub Good : State → Type 0
  Good (gap ms) = Full (base ms)
  Good (after around) = Full around
  Good (need key around) = Full around × KeyOk key around
  Good (first o key outer) = Full (level o key none outer)
  Good (next_key around) = Full around
  Good (in_key part spelled around) = Full around
  Good (colon key around) = Full around × KeyOk key around
  Good (in_string part around) = Full around
  Good (in_number part around) = Full around
  Good (in_literal l ls around) = Full around
  Good wrong = Unit {0}

  -- from σ to τ by a byte with limit fault f
  abbrev pub Keeps : State → State → ℕ → Type 0
  Keeps σ τ f = Shaped τ × (Good τ → Good σ × (f ≡ 0)) × (Good σ → f ≡ 0 → Good τ)

  pub value-says : {A : Type 0} (around : Stack) (f : ℕ) → value_fault room around ≡ f → (f ≡ 7 → max_depth ≤ depth around → A) →
      (f ≡ 11 → depth around < max_depth → room ≤ written around → A) → (f ≡ 0 → depth around < max_depth → written around < room → A) → A
  unfolding value_fault
  value-says {A} around f e x y z = go (leb max_depth (depth around)) (leb room (written around)) refl refl (sym e)
    where
      go : (a b : Bool) → leb max_depth (depth around) ≡ a → leb room (written around) ≡ b → f ≡ cond a 7 (cond b 11 0) → A
      go true b p q e = x e (leb-true max_depth (depth around) p)
      go false true p q e = y e (leb-false max_depth (depth around) p) (leb-true room (written around) q)
      go false false p q e = z e (leb-false max_depth (depth around) p) (leb-false room (written around) q)

  value_room : (around : Stack) → value_fault room around ≡ 0 → (suc (depth around) ≤ max_depth) × (suc (written around) ≤ room)
  value_room around e = value-says around 0 e (λ x d. absurd (omega arith)) (λ x d w. absurd (omega arith)) (λ x d w. (d, w))

  room-value : (around : Stack) → suc (depth around) ≤ max_depth → suc (written around) ≤ room → value_fault room around ≡ 0
  unfolding value_fault
  room-value around p q = rw (lt-leb max_depth (depth around) p, lt-leb room (written around) q) refl

  scalar-in : (head : Head) (key : ℕ) (around : Stack) → 1 ≤ head.kind → head.kind ≤ last_scalar → Full around → KeyOk key around → value_fault room around ≡ 0 →
      Full (add (value head key none none) around)
  unfolding size
  scalar-in head key around a b h k e =
      let v = value_room around e in
      (sound-add head key none around h.0 k (scalar-own head key around a b k v.0), omega (arith, v.1, written-add (value head key none none) around))

  scalar-out : (head : Head) (key : ℕ) (around : Stack) → Full (add (value head key none none) around) → Full around × KeyOk key around × (value_fault room around ≡ 0)
  unfolding size
  scalar-out head key around h =
      let r = sound-drop head key none around h.0 in
      let w = written-add (value head key none none) around in
      ((r.0, omega arith), r.1, room-value around r.2.0.shallow (omega arith))

  no_fields : (o : Container) → FieldsIn o none
  unfolding count keys Distinct
  no_fields array = tt
  no_fields object = (tt, omega arith)

  begin-in : (st : Start) (key : ℕ) (around : Stack) → ScalarKind st → Full around → KeyOk key around → value_fault room around ≡ 0 → Good (begin st key around)
  unfolding begin size written ValidAt
  begin-in (letters kind l ls) key around s h k e = scalar-in (head_of kind) key around s.0 s.1 h k e
  begin-in (number part) key around s h k e = scalar-in (head_of 3) key around (omega arith) (omega arith) h k e
  begin-in string key around s h k e = scalar-in (head_of 4) key around (omega arith) (omega arith) h k e
  begin-in (open' o) key around s h k e = let v = value_room around e in ((v.0, k, tt, no_fields o, h.0), omega (arith, v.1))
  begin-in nothing key around s h k e = tt

  begin-out : (st : Start) (key : ℕ) (around : Stack) → is_wrong (begin st key around) ≡ false → Good (begin st key around) →
      Full around × KeyOk key around × (value_fault room around ≡ 0)
  unfolding begin size written
  begin-out (letters kind l ls) key around a h = scalar-out (head_of kind) key around h
  begin-out (number part) key around a h = scalar-out (head_of 3) key around h
  begin-out string key around a h = scalar-out (head_of 4) key around h
  begin-out (open' o) key around a h = ((h.0.4, omega (arith, h.1)), h.0.1, room-value around h.0.0 (omega (arith, h.1)))
  begin-out nothing key around a h = false-true (sym a)

  begin-shaped : (st : Start) (key : ℕ) (around : Stack) → Shaped (begin st key around)
  unfolding begin
  begin-shaped (letters kind l ls) key around = tt
  begin-shaped (number part) key around = tt
  begin-shaped string key around = tt
  begin-shaped (open' o) key around = tt
  begin-shaped nothing key around = tt

  split : (σ τ υ : State) (f g : ℕ) (b : Bool) → Keeps σ τ f → (is_wrong υ ≡ false → Keeps σ υ g) → is_wrong (cond b τ υ) ≡ false → Keeps σ (cond b τ υ) (cond b f g)
  split σ τ υ f g true x y a = x
  split σ τ υ f g false x y a = y a

  choose : (σ τ υ : State) (f : ℕ) (b : Bool) → (is_wrong τ ≡ false → Keeps σ τ f) → (is_wrong υ ≡ false → Keeps σ υ f) → is_wrong (cond b τ υ) ≡ false → Keeps σ (cond b τ υ) f
  choose σ τ υ f true x y a = x a
  choose σ τ υ f false x y a = y a

  never : (σ : State) (f : ℕ) → is_wrong wrong ≡ false → Keeps σ wrong f
  never σ f a = false-true (sym a)

  begin-fits : (c key : ℕ) (around : Stack) → is_wrong (begin (start c) key around) ≡ false → Keeps (need key around) (begin (start c) key around) (value_fault room around)
  begin-fits c key around a =
      (begin-shaped (start c) key around, λ h. let r = begin-out (start c) key around a h in ((r.0, r.1), r.2), λ h e. begin-in (start c) key around (scalar-kind c) h.0 h.1 e)

  -- at the base and in arrays, whose values have no keys
  keyless-fits : (σ : State) (c : ℕ) (around : Stack) → (Full around → Good σ) → (Good σ → Full around) → KeyOk 0 around → is_wrong (begin (start c) 0 around) ≡ false →
      Keeps σ (begin (start c) 0 around) (value_fault room around)
  keyless-fits σ c around f g k a =
      let x = begin-fits c 0 around a in
      (x.0, λ h. let r = x.1 h in (f r.0.0, r.1), λ h e. x.2 (g h, k) e)

  shut-fits : (σ : State) (o : Container) (key : ℕ) (done : Values) (outer : Stack) → (Full (level o key done outer) → Good σ) → (Good σ → Full (level o key done outer)) →
      Keeps σ (shut o key done outer) 0
  unfolding shut written size
  shut-fits σ o key done outer f g =
      let w = written-add (value (head_of (kind_of o)) key done none) outer in
      (tt, λ h. (f (shut-sound o key done outer h.0, omega arith), refl), λ h e. let r = g h in (sound-shut o key done outer r.0, omega arith))

  comma-fits : (o : Container) (key : ℕ) (done : Values) (outer : Stack) → Keeps (after (level o key done outer)) (behind_comma o (level o key done outer)) 0
  unfolding behind_comma
  comma-fits array key done outer = (tt, λ h. (h.0, refl), λ h e. (h, refl))
  comma-fits object key done outer = (tt, λ h. (h, refl), λ h e. h)

  after-fits : (around : Stack) (c : ℕ) → is_wrong (step_after around c) ≡ false → Keeps (after around) (step_after around c) 0
  unfolding step_after
  after-fits (base ms) c =
      choose (after (base ms)) (gap ms) wrong 0 (is_space c) (λ a. (tt, λ h. (h, refl), λ h e. h)) (never (after (base ms)) 0)
  after-fits (level o key done outer) c =
      let σ = after (level o key done outer) in
      choose σ σ (cond (eqb c 0x2C) (behind_comma o (level o key done outer)) (cond (eqb c (closer o)) (shut o key done outer) wrong)) 0 (is_space c)
      (λ a. (tt, λ h. (h, refl), λ h e. h))
      (choose σ (behind_comma o (level o key done outer)) (cond (eqb c (closer o)) (shut o key done outer) wrong) 0 (eqb c 0x2C)
      (λ a. comma-fits o key done outer)
      (choose σ (shut o key done outer) wrong 0 (eqb c (closer o)) (λ a. shut-fits σ o key done outer (λ h. h) (λ h. h)) (never σ 0)))

  key-fits-in : (σ : State) (c : ℕ) (around : Stack) → InObject around → (Full around → Good σ) → (Good σ → Full around) → is_wrong (item object c around) ≡ false →
      Keeps σ (item object c around) 0
  unfolding item
  key-fits-in σ c around i f g =
      choose σ (in_key plain [] around) wrong 0 (eqb c quote) (λ a. (i, λ h. (f h, refl), λ h e. g h)) (never σ 0)

  -- a key that ends
  key-ends : (key : ℕ) (around : Stack) → InObject around → key < 65536 → (KeyOk key around → key_fault key around ≡ 0) × (key_fault key around ≡ 0 → KeyOk key around)
  unfolding key_fault listed_fault
  key-ends key (base ms) i l = absurd i
  key-ends key (level array k done outer) i l = absurd i
  key-ends key (level object k done outer) i l = (
    λ h. rw (ne_eqb key 0 (λ e. omega (arith, h.0)), h.2, lt-leb max_fields (count done) h.3) refl,
    λ e. key-says key (level object k done outer) 0 e (λ x y. absurd (omega arith)) (λ x y m. absurd (omega arith)) (λ x y m n. absurd (omega arith)) (λ x y m n. (y, l, m, n)),
  )

  module _ (name : List ℕ → ℕ) (small : (w : List ℕ) → name w < 65536) where
    pub fits : (σ : State) (c : ℕ) → Shaped σ → is_wrong (step name σ c) ≡ false → Keeps σ (step name σ c) (limit_fault name room σ c)
    unfolding step limit_fault key_turn string_turn number_turn step_literal key_ends item
    fits (gap ms) c sh =
        split (gap ms) (gap ms) (begin (start c) 0 (base ms)) 0 (value_fault room (base ms)) (is_space c) (tt, λ h. (h, refl), λ h e. h)
        (keyless-fits (gap ms) c (base ms) (λ h. h) (λ h. h) refl)
    fits (after around) c sh = after-fits around c
    fits (need key around) c sh =
        split (need key around) (need key around) (begin (start c) key around) 0 (value_fault room around) (is_space c) (tt, λ h. (h, refl), λ h e. h) (begin-fits c key around)
    fits (first array key outer) c sh =
        let σ = first array key outer in
        split σ σ _ 0 _ (is_space c) (tt, λ h. (h, refl), λ h e. h)
        (split σ (shut array key none outer) (begin (start c) 0 (level array key none outer)) 0 (value_fault room (level array key none outer)) (eqb c (closer array))
        (shut-fits σ array key none outer (λ h. h) (λ h. h))
        (keyless-fits σ c (level array key none outer) (λ h. h) (λ h. h) refl))
    fits (first object key outer) c sh =
        let σ = first object key outer in
        choose σ σ _ 0 (is_space c) (λ a. (tt, λ h. (h, refl), λ h e. h))
        (choose σ (shut object key none outer) (item object c (level object key none outer)) 0 (eqb c (closer object))
        (λ a. shut-fits σ object key none outer (λ h. h) (λ h. h))
        (key-fits-in σ c (level object key none outer) tt (λ h. h) (λ h. h)))
    fits (next_key around) c sh =
        choose (next_key around) (next_key around) (item object c around) 0 (is_space c) (λ a. (sh, λ h. (h, refl), λ h e. h)) (key-fits-in (next_key around) c around sh (λ h. h) (λ h. h))
    fits (in_key part spelled around) c sh = go (next_in_string part c)
      where
        go : (turn : Turn StringPart) → is_wrong (key_turn name turn c spelled around) ≡ false →
            Keeps (in_key part spelled around) (key_turn name turn c spelled around) (key_ends name room turn spelled around)
        go (go_on q) a = (sh, λ h. (h, refl), λ h e. h)
        go ended a =
            let k = key-ends (name spelled) around sh (small spelled) in
            (sh, λ h. (h.0, k.0 h.1), λ h e. (h, k.1 e))
        go stuck a = false-true (sym a)
    fits (colon key around) c sh =
        choose (colon key around) (colon key around) (cond (eqb c 0x3A) (need key around) wrong) 0 (is_space c) (λ a. (sh, λ h. (h, refl), λ h e. h))
        (choose (colon key around) (need key around) wrong 0 (eqb c 0x3A) (λ a. (tt, λ h. (h, refl), λ h e. h)) (never (colon key around) 0))
    fits (in_string part around) c sh = go (next_in_string part c)
      where
        go : (turn : Turn StringPart) → is_wrong (string_turn turn around) ≡ false → Keeps (in_string part around) (string_turn turn around) 0
        go (go_on q) a = (tt, λ h. (h, refl), λ h e. h)
        go ended a = (tt, λ h. (h, refl), λ h e. h)
        go stuck a = false-true (sym a)
    fits (in_number part around) c sh = go (next_in_number part c)
      where
        go : (turn : Turn NumberPart) → is_wrong (number_turn turn (may_end part) c around) ≡ false → Keeps (in_number part around) (number_turn turn (may_end part) c around) 0
        go (go_on q) a = (tt, λ h. (h, refl), λ h e. h)
        go ended a = choose (in_number part around) (step_after around c) wrong 0 (may_end part) (after-fits around c) (never (in_number part around) 0) a
        go stuck a = choose (in_number part around) (step_after around c) wrong 0 (may_end part) (after-fits around c) (never (in_number part around) 0) a
    fits (in_literal l ls around) c sh = choose (in_literal l ls around) (step_literal ls around) wrong 0 (eqb c l) (go ls) (never (in_literal l ls around) 0)
      where
        go : (ls : List ℕ) → is_wrong (step_literal ls around) ≡ false → Keeps (in_literal l ls around) (step_literal ls around) 0
        go [] a = (tt, λ h. (h, refl), λ h e. h)
        go (k ∷ ls) a = (tt, λ h. (h, refl), λ h e. h)
    fits wrong c sh = λ a. false-true (sym a)
