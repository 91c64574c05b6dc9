-- What is still to come in each state: which texts complete it, and to which messages.
use mathlib.Core.Path.{◌≡◌, refl, sym, ◌∙◌, ap, subst}
use mathlib.Core.Bool.{Bool, true, false, cond}
use mathlib.Core.Logic.{◌⊎◌, inl, inr}
use mathlib.Core.List.{List, ◌∷◌, ◌++◌}
use Prim.Native.Nat.{ℕ}
use Rattle.value_table.specs.Value.{Head, Values, none, value, join_values}
use Rattle.json_theory.specs.Rx.{Word}
use Rattle.json_theory.specs.Grammar.{quote, is_space, Ws, tight, space, Container, object, head_of, kind_of, closer, Value, Content, nothing, some, Item, Others, closed, next, Messages}
use Rattle.json_theory.specs.Inside.Remaining.{string_rest, number_rest}
use Rattle.json_theory.specs.Steps.{Stack, base, level, add, State, gap, after, need, first, next_key, in_key, colon, in_string, in_number, in_literal, wrong}
use Rattle.json_theory.proofs.Rx.{false-true}

-- white space, then P
abbrev pub Spaced : (List ℕ → Type 0) → List ℕ → Type 0
Spaced P s = (t : List ℕ) × Ws s t × P t

pub join-none : (a : Values) → join_values a none ≡ a
unfolding join_values
join-none none = refl
join-none (value head key content n) = ap (λ (v : Values). value head key content v) (join-none n)

pub join-snoc : (a : Values) (head : Head) (key : ℕ) (content b : Values) → join_values (join_values a (value head key content none)) b ≡ join_values a (value head key content b)
unfolding join_values
join-snoc none head key content b = refl
join-snoc (value k l c n) head key content b = ap (λ (v : Values). value k l c v) (join-snoc n head key content b)

module _ (name : List ℕ → ℕ) where
  abbrev pub Gap : Values → Values → List ℕ → Type 0
  Gap ms T t = (vs : Values) × Messages name t vs × (T ≡ join_values ms vs)

  -- behind the values v at the innermost level
  abbrev pub After : Stack → Values → List ℕ → Values → Type 0
  After (base ms) v s T = (b : ℕ) × (t : List ℕ) × (s ≡ b ∷ t) × (is_space b ≡ true) × Spaced (Gap (join_values ms v) T) t
  After (level o key done outer) v s T =
      (vs : Values) × (m : List ℕ) × Others name o s vs m × After outer (value (head_of (kind_of o)) key (join_values (join_values done v) vs) none) m T

  abbrev pub Behind : Stack → List ℕ → Values → Type 0
  Behind (base ms) s T = (b : ℕ) × (t : List ℕ) × (s ≡ b ∷ t) × (is_space b ≡ true) × Spaced (Gap ms T) t
  Behind (level o key done outer) s T =
      (vs : Values) × (m : List ℕ) × Others name o s vs m × After outer (value (head_of (kind_of o)) key (join_values done vs) none) m T

  abbrev pub Needed : ℕ → Stack → Values → List ℕ → Type 0
  Needed key around T t = (head : Head) × (content : Values) × (m : List ℕ) × Value name t head content m × After around (value head key content none) m T

  abbrev pub Itemed : Container → Stack → Values → List ℕ → Type 0
  Itemed o around T t =
      (head : Head) × (key : ℕ) × (content : Values) × (m : List ℕ) × Item name o t head key content m × After around (value head key content none) m T

  abbrev pub Opened : Container → ℕ → Stack → List ℕ → Values → Type 0
  Opened o key outer s T = (vs : Values) × (m : List ℕ) × Content name o s vs m × After outer (value (head_of (kind_of o)) key vs none) m T

  abbrev pub Colon : ℕ → Stack → Values → List ℕ → Type 0
  Colon key around T t = (u : List ℕ) × (t ≡ 0x3A ∷ u) × Spaced (Needed key around T) u

  abbrev pub ToCome : State → List ℕ → Values → Type 0
  ToCome (gap ms) s T = Spaced (Gap ms T) s
  ToCome (after around) s T = Behind around s T
  ToCome (need key around) s T = Spaced (Needed key around T) s
  ToCome (first o key outer) s T = Opened o key outer s T
  ToCome (next_key around) s T = Spaced (Itemed object around T) s
  ToCome (in_key part spelled around) s T =
      (w : List ℕ) × (t : List ℕ) × Word (string_rest part) w × (s ≡ w ++ (quote ∷ t)) × Spaced (Colon (name (spelled ++ w)) around T) t
  ToCome (colon key around) s T = Spaced (Colon key around T) s
  ToCome (in_string part around) s T = (w : List ℕ) × (t : List ℕ) × Word (string_rest part) w × (s ≡ w ++ (quote ∷ t)) × Behind around t T
  ToCome (in_number part around) s T = (w : List ℕ) × (t : List ℕ) × Word (number_rest part) w × (s ≡ w ++ t) × Behind around t T
  ToCome (in_literal l ls around) s T = (t : List ℕ) × (s ≡ l ∷ (ls ++ t)) × Behind around t T
  ToCome wrong s T = ⊥

  pub to-add : (around : Stack) (v : Values) (s : List ℕ) (T : Values) → After around v s T → Behind (add v around) s T
  to-add (base ms) v s T h = h
  to-add (level o key done outer) v s T h = h

  pub from-add : (around : Stack) (v : Values) (s : List ℕ) (T : Values) → Behind (add v around) s T → After around v s T
  from-add (base ms) v s T h = h
  from-add (level o key done outer) v s T h = h

  -- white space first
  ws-out : {x t : List ℕ} (c : ℕ) (s : List ℕ) → Ws x t → x ≡ c ∷ s → ((is_space c ≡ true) × Ws s t) ⊎ (t ≡ c ∷ s)
  ws-out c s tight e = inr e
  ws-out c s (space {c = d} {s = y} {m} h w) e =
      let p : d ≡ c = cc in
      let q : y ≡ s = cc in
      inl (rw p at h, subst (λ (y : List ℕ). Ws y m) q w)

  module _ (P : List ℕ → Type 0) (c : ℕ) (s : List ℕ) (σ τ : State) (T : Values) where
    pub space-down : (P (c ∷ s) → is_space c ≡ false) → (Spaced P s → ToCome σ s T) → (P (c ∷ s) → ToCome τ s T) → Spaced P (c ∷ s) →
        ToCome (cond (is_space c) σ τ) s T
    space-down f g k h = go (is_space c) refl (ws-out c s h.1 refl)
      where
        go : (b : Bool) → is_space c ≡ b → ((is_space c ≡ true) × Ws s h.0) ⊎ (h.0 ≡ c ∷ s) → ToCome (cond b σ τ) s T
        go true e (inl x) = g (h.0, x.1, h.2)
        go true e (inr x) = false-true (sym (f (subst P x h.2)) ∙ e)
        go false e (inl x) = false-true (sym e ∙ x.0)
        go false e (inr x) = k (subst P x h.2)

    pub space-up : (ToCome σ s T → Spaced P s) → (ToCome τ s T → P (c ∷ s)) → ToCome (cond (is_space c) σ τ) s T → Spaced P (c ∷ s)
    space-up g k = go (is_space c) refl
      where
        go : (b : Bool) → is_space c ≡ b → ToCome (cond b σ τ) s T → Spaced P (c ∷ s)
        go true e h = let x = g h in (x.0, space e x.1, x.2)
        go false e h = (c ∷ s, tight, k h)

  -- the rest of a container, without the white space in front
  abbrev pub Tail : Container → ℕ → Values → Stack → Values → List ℕ → Type 0
  Tail o key done outer T t =
      ((m : List ℕ) × (t ≡ closer o ∷ m) × After outer (value (head_of (kind_of o)) key done none) m T)
      ⊎ ((u : List ℕ) × (t ≡ 0x2C ∷ u) × Spaced (Itemed o (level o key done outer) T) u)

  pub behind-out : (o : Container) (key : ℕ) (done : Values) (outer : Stack) (s : List ℕ) (T : Values) → Behind (level o key done outer) s T → Spaced (Tail o key done outer T) s
  behind-out o key done outer s T h = go h.2 h.3
    where
      go : {s m : List ℕ} {vs : Values} → Others name o s vs m → After outer (value (head_of (kind_of o)) key (join_values done vs) none) m T → Spaced (Tail o key done outer T) s
      go (closed {m} w) a = (_, w, inl (m, refl, rw join-none at a))
      go (next {t} {u} {v} {m} {head} {key = k} {c} {vs} w x i r) a =
          (_, w, inr (t, refl, (u, x, (head, k, c, v, i, (vs, m, r, rw join-snoc a)))))

  pub behind-in : (o : Container) (key : ℕ) (done : Values) (outer : Stack) (s : List ℕ) (T : Values) → Spaced (Tail o key done outer T) s → Behind (level o key done outer) s T
  behind-in o key done outer s T h = go h.0 h.1 h.2
    where
      go : (t : List ℕ) → Ws s t → Tail o key done outer T t → Behind (level o key done outer) s T
      go t w (inl x) = (none, x.0, closed (subst (λ (t : List ℕ). Ws s t) x.1 w), rw join-none x.2)
      go t w (inr x) =
          let i = x.2.2 in
          (value i.0 i.1 i.2 i.5.0, i.5.1, next (subst (λ (t : List ℕ). Ws s t) x.1 w) x.2.1 i.4 i.5.2, rw join-snoc at i.5.3)

  abbrev pub Front : Container → ℕ → Stack → Values → List ℕ → Type 0
  Front o key outer T t =
      ((m : List ℕ) × (t ≡ closer o ∷ m) × After outer (value (head_of (kind_of o)) key none none) m T) ⊎ Itemed o (level o key none outer) T t

  pub opened_out : (o : Container) (key : ℕ) (outer : Stack) (s : List ℕ) (T : Values) → Opened o key outer s T → Spaced (Front o key outer T) s
  unfolding join_values
  opened_out o key outer s T h = go h.2 h.3
    where
      go : {s m : List ℕ} {vs : Values} → Content name o s vs m → After outer (value (head_of (kind_of o)) key vs none) m T → Spaced (Front o key outer T) s
      go (nothing {m} w) a = (_, w, inl (m, refl, a))
      go (some {t} {u} {m} {head} {key = k} {c} {vs} w i r) a = (t, w, inr (head, k, c, u, i, (vs, m, r, a)))

  pub opened_in : (o : Container) (key : ℕ) (outer : Stack) (s : List ℕ) (T : Values) → Spaced (Front o key outer T) s → Opened o key outer s T
  unfolding join_values
  opened_in o key outer s T h = go h.0 h.1 h.2
    where
      go : (t : List ℕ) → Ws s t → Front o key outer T t → Opened o key outer s T
      go t w (inl x) = (none, x.0, nothing (subst (λ (t : List ℕ). Ws s t) x.1 w), x.2)
      go t w (inr i) = (value i.0 i.1 i.2 i.5.0, i.5.1, some w i.4 i.5.2, i.5.3)
