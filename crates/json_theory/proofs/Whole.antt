-- A text is in the grammar exactly when the automaton ends between messages, and then with the text's messages.
use mathlib.Core.Path.{◌≡◌, refl, sym, ◌∙◌, ap, subst}
use mathlib.Core.Logic.{inl, inr, ◌↔◌}
use mathlib.Core.List.{List, [], ◌∷◌, ◌++◌, append-nil}
use Prim.Native.Nat.{ℕ, ◌<◌}
use Rattle.value_table.specs.Value.{Head, Values, none, join_values}
use Rattle.json_theory.specs.Rx.{Word}
use Rattle.json_theory.specs.Inside.Derivative.{nullable}
use Rattle.json_theory.specs.Grammar
use Rattle.json_theory.specs.Grammar.{quote, Ws, tight, space, Scalar, null, is_false, is_true, is_number, Container, object, closer, opener, Value, scalar, container, Item, element, member, Messages, done as no_message, message, Text, text}
use Rattle.json_theory.specs.Steps.{Stack, base, level, State, gap, after, need, first, next_key, in_key, colon, in_string, in_number, in_literal, wrong, step}
use Rattle.json_theory.specs.Inside.Run.{run}
use Rattle.json_theory.proofs.Rx.{false-true, cons-nil, nil-parts, word-nullable}
use Rattle.json_theory.proofs.ToCome.{Spaced, join-none, Behind, Needed, Itemed, Colon, ToCome, Tail, behind-out, Front, opened_out}
use Rattle.json_theory.proofs.Turn.{down, up}

-- each is a byte
abbrev pub AllBytes : List ℕ → Type 0
AllBytes [] = Unit {0}
AllBytes (c ∷ s) = (c < 256) × AllBytes s

ws-nil : {x t : List ℕ} → Ws x t → x ≡ [] → t ≡ []
ws-nil tight e = e
ws-nil (space {c} {s} h w) e = absurd (cons-nil c s e)

-- nothing but the gap is completed by no bytes
middle : {A : Type 0} (w : List ℕ) (c : ℕ) (t : List ℕ) → [] ≡ w ++ (c ∷ t) → A
middle w c t e = absurd (cons-nil c t (nil-parts w (c ∷ t) e).1)

scalar-nil : {A : Type 0} {x m : List ℕ} {head : Head} → Scalar x head m → x ≡ [] → A
unfolding nullable
scalar-nil null e = absurd (cons-nil _ _ e)
scalar-nil is_false e = absurd (cons-nil _ _ e)
scalar-nil is_true e = absurd (cons-nil _ _ e)
scalar-nil (is_number {w} {m} h) e = false-true (word-nullable Grammar.number (subst (λ (w : List ℕ). Word Grammar.number w) (nil-parts w m (sym e)).0 h))
scalar-nil (Grammar.string h) e = absurd (cons-nil _ _ e)

module _ (name : List ℕ → ℕ) where
  value-nil : {A : Type 0} {x m : List ℕ} {head : Head} {content : Values} → Value name x head content m → x ≡ [] → A
  value-nil (scalar h) e = scalar-nil h e
  value-nil (container {o} {s} h) e = absurd (cons-nil (opener o) s e)

  item-nil : {A : Type 0} {o : Container} {x m : List ℕ} {head : Head} {key : ℕ} {content : Values} → Item name o x head key content m → x ≡ [] → A
  item-nil (element h) e = value-nil h e
  item-nil (member {w} {s} h a b d) e = absurd (cons-nil quote (w ++ (quote ∷ s)) e)

  messages-nil : {x : List ℕ} {vs : Values} → Messages name x vs → x ≡ [] → vs ≡ none
  messages-nil no_message e = refl
  messages-nil (message v sp w r) e = value-nil v e

  module _ {A : Type 0} (T : Values) where
    spaced-nil : (P : List ℕ → Type 0) → (P [] → A) → Spaced P [] → A
    spaced-nil P f h = f (subst P (ws-nil h.1 refl) h.2)

    tail-nil : (o : Container) (key : ℕ) (done : Values) (outer : Stack) → Tail name o key done outer T [] → A
    tail-nil o key done outer (inl x) = absurd (cons-nil (closer o) x.0 (sym x.1))
    tail-nil o key done outer (inr x) = absurd (cons-nil 0x2C x.0 (sym x.1))

    head-nil : (o : Container) (key : ℕ) (outer : Stack) → Front name o key outer T [] → A
    head-nil o key outer (inl x) = absurd (cons-nil (closer o) x.0 (sym x.1))
    head-nil o key outer (inr x) = item-nil x.4 refl

    behind-nil : (around : Stack) → Behind name around [] T → A
    behind-nil (base ms) h = absurd (cons-nil h.0 h.1 (sym h.2))
    behind-nil (level o key done outer) h = spaced-nil (Tail name o key done outer T) (tail-nil o key done outer) (behind-out name o key done outer [] T h)

  pub end-down : (σ : State) (T : Values) → ToCome name σ [] T → σ ≡ gap T
  end-down (gap ms) T h =
      let e : h.2.0 ≡ none = messages-nil h.2.1 (ws-nil h.1 refl) in
      let p : T ≡ ms = h.2.2 ∙ ap (λ (v : Values). join_values ms v) e ∙ join-none ms in
      cc
  end-down (after around) T h = behind-nil T around h
  end-down (need key around) T h = spaced-nil T (Needed name key around T) (λ n. value-nil n.3 refl) h
  end-down (first o key outer) T h = spaced-nil T (Front name o key outer T) (head-nil T o key outer) (opened_out name o key outer [] T h)
  end-down (next_key around) T h = spaced-nil T (Itemed name object around T) (λ n. item-nil n.4 refl) h
  end-down (in_key part spelled around) T h = middle h.0 quote h.1 h.3
  end-down (colon key around) T h = spaced-nil T (Colon name key around T) (λ n. absurd (cons-nil 0x3A n.0 (sym n.1))) h
  end-down (in_string part around) T h = middle h.0 quote h.1 h.3
  end-down (in_number part around) T h = behind-nil T around (subst (λ (t : List ℕ). Behind name around t T) (nil-parts h.0 h.1 h.3).1 h.4)
  end-down (in_literal l ls around) T h = absurd (cons-nil l (ls ++ h.0) (sym h.1))
  end-down wrong T h = absurd h

  pub end-up : (T : Values) → ToCome name (gap T) [] T
  end-up T = ([], tight, (none, no_message, sym (join-none T)))

  -- several bytes
  pub run_down : (σ : State) (a s : List ℕ) (T : Values) → AllBytes a → ToCome name σ (a ++ s) T → ToCome name (run name σ a) s T
  unfolding run
  run_down σ [] s T b h = h
  run_down σ (c ∷ a) s T b h = run_down (step name σ c) a s T b.1 (down name c (a ++ s) T b.0 σ h)

  pub run_up : (σ : State) (a s : List ℕ) (T : Values) → AllBytes a → ToCome name (run name σ a) s T → ToCome name σ (a ++ s) T
  unfolding run
  run_up σ [] s T b h = h
  run_up σ (c ∷ a) s T b h = up name c (a ++ s) T b.0 σ (run_up (step name σ c) a s T b.1 h)

  pub text-come : (s : List ℕ) (T : Values) → Text name s T → ToCome name (gap none) s T
  unfolding join_values
  text-come s T (text {t} w h) = (t, w, (T, h, refl))

  pub come-text : (s : List ℕ) (T : Values) → ToCome name (gap none) s T → Text name s T
  unfolding join_values
  come-text s T h = text {ms = T} h.1 (rw h.2.2 h.2.1)

  pub run-text : (s : List ℕ) (T : Values) → AllBytes s → Text name s T ↔ (run name (gap none) s ≡ gap T)
  run-text s T b = (
    λ h. end-down (run name (gap none) s) T (run_down (gap none) s [] T b (rw append-nil (text-come s T h))),
    λ e. come-text s T (rw append-nil at (run_up (gap none) s [] T b (rw e (end-up T)))),
  )

  -- a text has one reading
  pub text-unique : (s : List ℕ) (T U : Values) → AllBytes s → Text name s T → Text name s U → T ≡ U
  text-unique s T U b h k =
      let p = (run-text s T b).0 h in
      let q = (run-text s U b).0 k in
      cc
