-- One byte: what completes a state is that byte and what completes the state behind it.
use mathlib.Core.Path.{◌≡◌, refl, sym, ◌∙◌, ap, subst}
use mathlib.Core.Bool.{Bool, true, false, cond, ◌||◌}
use mathlib.Core.Logic.{◌⊎◌, inl, inr}
use mathlib.Core.List.{List, [], ◌∷◌, ◌++◌, append_assoc, append-nil}
use Prim.Native.Nat.{ℕ, ◌<◌}
use lib.Dec.{eqb}
use borrow.Author.Tests.{eqb-true, eq-eqb}
use Rattle.value_table.specs.Value.{Head, Values, none, value, join_values}
use Rattle.byte_records.proofs.Tests.{or_parts}
use Rattle.json_theory.specs.Rx.{Rx, never, Word}
use Rattle.json_theory.specs.Inside.Derivative.{rest}
use Rattle.json_theory.specs.Grammar.{quote, is_space, Ws, Container, array, object, head_of, kind_of, closer, Value, Item, element, member, Messages, done as no_message, message}
use Rattle.json_theory.specs.Parts.{Turn, go as go_on, ended, stuck, StringPart, plain, next_in_string, NumberPart, next_in_number, may_end, Start, letters, number, string, open', nothing, start}
use Rattle.json_theory.specs.Inside.Remaining.{string_rest, number_rest}
use Rattle.json_theory.specs.Steps.{Stack, base, level, add, State, gap, after, need, first, next_key, in_key, colon, in_string, in_number, in_literal, wrong, begin, item, behind_comma, shut, step_after, step_literal, key_turn, string_turn, number_turn, step}
use Rattle.json_theory.proofs.Rx.{false-true, cons-append, cons-nil, word-nullable, nullable-word, word-rest, rest-word}
use Rattle.json_theory.proofs.Parts.{StringTurn, string-down, StringBack, string-up, is_end, end-nullable, NumberFact, number-fact, is_start, start-fact}
use Rattle.json_theory.proofs.Begin.{Began, value-down, value-up}
use Rattle.json_theory.proofs.ToCome.{Spaced, join-snoc, Gap, After, Behind, Needed, Itemed, Colon, ToCome, to-add, from-add, space-down, space-up, Tail, behind-out, behind-in, Front, opened_out, opened_in}

head-eq : {c d : ℕ} {s t : List ℕ} → c ∷ s ≡ d ∷ t → c ≡ d
head-eq e = cc

tail-eq : {c d : ℕ} {s t : List ℕ} → c ∷ s ≡ d ∷ t → s ≡ t
tail-eq e = cc

-- a byte that starts a value is none of those that may stand behind one
end-parts : (c : ℕ) → is_end c ≡ false → (is_space c ≡ false) × ((o : Container) → eqb c (closer o) ≡ false)
end-parts c h =
    let p = or_parts (is_space c || eqb c 0x2C || eqb c 0x5D) (eqb c 0x7D) h in
    let q = or_parts (is_space c || eqb c 0x2C) (eqb c 0x5D) p.0 in
    let r = or_parts (is_space c) (eqb c 0x2C) q.0 in
    (r.0, shutting q.1 p.1)
  where
    shutting : eqb c 0x5D ≡ false → eqb c 0x7D ≡ false → (o : Container) → eqb c (closer o) ≡ false
    shutting a b array = a
    shutting a b object = b

module _ (name : List ℕ → ℕ) where
  began-start : (st : Start) (s : List ℕ) (head : Head) (content : Values) (m : List ℕ) → Began name st s head content m → is_start st ≡ true
  began-start (letters k l ls) s head content m h = refl
  began-start (number part) s head content m h = refl
  began-start string s head content m h = refl
  began-start (open' o) s head content m h = refl
  began-start nothing s head content m h = absurd h

  module _ (c : ℕ) (s : List ℕ) (T : Values) (small : c < 256) where
    value-not-end : (head : Head) (content : Values) (m : List ℕ) → Value name (c ∷ s) head content m → is_end c ≡ false
    value-not-end head content m h = (start-fact c small).1 (began-start (start c) s head content m (value-down name c s small h refl))

    begin-down : (key : ℕ) (around : Stack) → Needed name key around T (c ∷ s) → ToCome name (begin (start c) key around) s T
    unfolding begin
    begin-down key around h = go (start c) (value-down name c s small h.3 refl)
      where
        head : Head
        head = h.0

        content : Values
        content = h.1

        m : List ℕ
        m = h.2

        named : (k : Head) → head ≡ k → content ≡ none → Behind name (add (value k key none none) around) m T
        named k p q = to-add name around (value k key none none) m T (subst (λ (v : Values). After name around v m T) (λ i. value (p i) key (q i) none) h.4)

        go : (st : Start) → Began name st s head content m → ToCome name (begin st key around) s T
        go (letters k l ls) b = (m, b.2, named (head_of k) b.0 b.1)
        go (number part) b = (b.2.0, m, b.2.1, b.2.2, named (head_of 3) b.0 b.1)
        go string b = (b.2.0, m, b.2.1, b.2.2, named (head_of 4) b.0 b.1)
        go (open' o) b = (content, m, b.1, subst (λ (k : Head). After name around (value k key content none) m T) b.0 h.4)
        go nothing b = b

    pub begin-up : (key : ℕ) (around : Stack) → ToCome name (begin (start c) key around) s T → Needed name key around T (c ∷ s)
    unfolding begin
    begin-up key around h = go (start c) (λ head content m b. value-up name c s small b) h
      where
        go : (st : Start) → ((head : Head) (content : Values) (m : List ℕ) → Began name st s head content m → Value name (c ∷ s) head content m) →
            ToCome name (begin st key around) s T → Needed name key around T (c ∷ s)
        go (letters k l ls) f h = (head_of k, none, h.0, f (head_of k) none h.0 (refl, refl, h.1), from-add name around (value (head_of k) key none none) h.0 T h.2)
        go (number part) f h = (head_of 3, none, h.1, f (head_of 3) none h.1 (refl, refl, (h.0, h.2, h.3)), from-add name around (value (head_of 3) key none none) h.1 T h.4)
        go string f h = (head_of 4, none, h.1, f (head_of 4) none h.1 (refl, refl, (h.0, h.2, h.3)), from-add name around (value (head_of 4) key none none) h.1 T h.4)
        go (open' o) f h = (head_of (kind_of o), h.0, h.1, f (head_of (kind_of o)) h.0 h.1 (refl, h.2), h.3)
        go nothing f h = absurd h

    -- elements and members
    from-element : (around : Stack) (t : List ℕ) → Itemed name array around T t → Needed name 0 around T t
    from-element around t h = go h.4 h.5
      where
        go : {t m : List ℕ} {head : Head} {key : ℕ} {content : Values} → Item name array t head key content m → After name around (value head key content none) m T → Needed name 0 around T t
        go (element {m} {head} {c = content} v) a = (head, content, m, v, a)

    to-element : (around : Stack) (t : List ℕ) → Needed name 0 around T t → Itemed name array around T t
    to-element around t h = (h.0, 0, h.1, h.2, element h.3, h.4)

    -- a member starts with its quote
    from_member : (around : Stack) (t : List ℕ) → Itemed name object around T t →
        (w : List ℕ) × (u : List ℕ) × Word (string_rest plain) w × (t ≡ quote ∷ (w ++ (quote ∷ u))) × Spaced (Colon name (name w) around T) u
    unfolding string_rest
    from_member around t h = go h.4 h.5
      where
        go : {t m : List ℕ} {head : Head} {key : ℕ} {content : Values} → Item name object t head key content m → After name around (value head key content none) m T →
            (w : List ℕ) × (u : List ℕ) × Word (string_rest plain) w × (t ≡ quote ∷ (w ++ (quote ∷ u))) × Spaced (Colon name (name w) around T) u
        go (member {w} {s = x} {t = y} {u = z} {m} {head} {c = content} a b d v) f = (w, x, a, refl, (_, b, (y, refl, (z, d, (head, content, m, v, f)))))

    item-down : (o : Container) (around : Stack) → Itemed name o around T (c ∷ s) → ToCome name (item o c around) s T
    unfolding item
    item-down array around h = begin-down 0 around (from-element around (c ∷ s) h)
    item-down object around h =
        let p = from_member around (c ∷ s) h in
        rw (eq-eqb c quote (head-eq p.3))
        (p.0, p.1, p.2, tail-eq p.3, p.4)

    item-up : (o : Container) (around : Stack) → ToCome name (item o c around) s T → Itemed name o around T (c ∷ s)
    unfolding item string_rest
    item-up array around h = to-element around (c ∷ s) (begin-up 0 around h)
    item-up object around h = go (eqb c quote) refl h
      where
        go : (b : Bool) → eqb c quote ≡ b → ToCome name (cond b (in_key plain [] around) wrong) s T → Itemed name object around T (c ∷ s)
        go true e h =
            let x = h.4.2 in
            let n = x.2.2 in
            rw (eqb-true c quote e, h.3)
            (n.0, name h.0, n.1, n.2, member h.2 (subst (λ (t : List ℕ). Ws h.1 t) x.1 h.4.1) x.2.1 n.3, n.4)
        go false e h = absurd h

    item-not : (o : Container) (around : Stack) → Itemed name o around T (c ∷ s) → (is_space c ≡ false) × (eqb c (closer o) ≡ false)
    item-not array around h =
        let n = from-element around (c ∷ s) h in
        let p = end-parts c (value-not-end n.0 n.1 n.2 n.3) in
        (p.0, p.1 array)
    item-not object around h = let e = head-eq (from_member around (c ∷ s) h).3 in rw e (refl, refl)

    -- a closing bracket
    closer-not : (o : Container) → c ≡ closer o → (is_space c ≡ false) × (eqb c 0x2C ≡ false)
    closer-not array e = rw e (refl, refl)
    closer-not object e = rw e (refl, refl)

    shut-down : (o : Container) (key : ℕ) (done : Values) (outer : Stack) (m : List ℕ) → s ≡ m → After name outer (value (head_of (kind_of o)) key done none) m T →
        ToCome name (shut o key done outer) s T
    unfolding shut
    shut-down o key done outer m e a = rw e (to-add name outer (value (head_of (kind_of o)) key done none) m T a)

    shut-up : (o : Container) (key : ℕ) (done : Values) (outer : Stack) → ToCome name (shut o key done outer) s T → After name outer (value (head_of (kind_of o)) key done none) s T
    unfolding shut
    shut-up o key done outer h = from-add name outer (value (head_of (kind_of o)) key done none) s T h

    comma-down : (o : Container) (around : Stack) (u : List ℕ) → s ≡ u → Spaced (Itemed name o around T) u → ToCome name (behind_comma o around) s T
    unfolding behind_comma
    comma-down array around u e h = rw e (h.0, h.1, from-element around h.0 h.2)
    comma-down object around u e h = rw e h

    comma-up : (o : Container) (around : Stack) → ToCome name (behind_comma o around) s T → Spaced (Itemed name o around T) s
    unfolding behind_comma
    comma-up array around h = (h.0, h.1, to-element around h.0 h.2)
    comma-up object around h = h

    -- behind a value
    module _ (o : Container) (key : ℕ) (done : Values) (outer : Stack) where
      tail-not : Tail name o key done outer T (c ∷ s) → is_space c ≡ false
      tail-not (inl x) = (closer-not o (head-eq x.1)).0
      tail-not (inr x) = rw (head-eq x.1) refl

      tail-down : Tail name o key done outer T (c ∷ s) →
          ToCome name (cond (eqb c 0x2C) (behind_comma o (level o key done outer)) (cond (eqb c (closer o)) (shut o key done outer) wrong)) s T
      tail-down (inl x) =
          rw ((closer-not o (head-eq x.1)).1, eq-eqb c (closer o) (head-eq x.1))
          (shut-down o key done outer x.0 (tail-eq x.1) x.2)
      tail-down (inr x) = rw (eq-eqb c 0x2C (head-eq x.1)) (comma-down o (level o key done outer) x.0 (tail-eq x.1) x.2)

      tail-up : ToCome name (cond (eqb c 0x2C) (behind_comma o (level o key done outer)) (cond (eqb c (closer o)) (shut o key done outer) wrong)) s T →
          Tail name o key done outer T (c ∷ s)
      tail-up = go (eqb c 0x2C) (eqb c (closer o)) refl refl
        where
          go : (a b : Bool) → eqb c 0x2C ≡ a → eqb c (closer o) ≡ b →
              ToCome name (cond a (behind_comma o (level o key done outer)) (cond b (shut o key done outer) wrong)) s T → Tail name o key done outer T (c ∷ s)
          go true b p q h = inr (s, rw (eqb-true c 0x2C p) refl, comma-up o (level o key done outer) h)
          go false true p q h = inl (s, rw (eqb-true c (closer o) q) refl, shut-up o key done outer h)
          go false false p q h = absurd h

    after-down : (around : Stack) → Behind name around (c ∷ s) T → ToCome name (step_after around c) s T
    unfolding step_after
    after-down (base ms) h =
        let p : is_space c ≡ true = rw (head-eq h.2) h.3 in
        rw (p, tail-eq h.2) h.4
    after-down (level o key done outer) h =
        space-down name (Tail name o key done outer T) c s (after (level o key done outer)) _ T
        (tail-not o key done outer) (behind-in name o key done outer s T) (tail-down o key done outer) (behind-out name o key done outer (c ∷ s) T h)

    after-up : (around : Stack) → ToCome name (step_after around c) s T → Behind name around (c ∷ s) T
    unfolding step_after
    after-up (base ms) h = go (is_space c) refl h
      where
        go : (b : Bool) → is_space c ≡ b → ToCome name (cond b (gap ms) wrong) s T → Behind name (base ms) (c ∷ s) T
        go true e h = (c, s, refl, e, h)
        go false e h = absurd h
    after-up (level o key done outer) h =
        behind-in name o key done outer (c ∷ s) T
        (space-up name (Tail name o key done outer T) c s (after (level o key done outer)) _ T (behind-out name o key done outer s T) (tail-up o key done outer) h)

    -- the byte behind a value may stand there
    behind-end : (around : Stack) → Behind name around (c ∷ s) T → is_end c ≡ true
    behind-end (base ms) h = let p : is_space c ≡ true = rw (head-eq h.2) h.3 in rw p refl
    behind-end (level o key done outer) h =
        go (is_space c) (eqb c 0x2C) (eqb c (closer o)) refl refl refl (unfold step_after in after-down (level o key done outer) h)
      where
        closing : (o : Container) → c ≡ closer o → is_end c ≡ true
        closing array e = rw e refl
        closing object e = rw e refl

        go : (x y z : Bool) → is_space c ≡ x → eqb c 0x2C ≡ y → eqb c (closer o) ≡ z →
            ToCome name (cond x (after (level o key done outer)) (cond y (behind_comma o (level o key done outer)) (cond z (shut o key done outer) wrong))) s T → is_end c ≡ true
        go true y z p q r h = rw p refl
        go false true z p q r h = rw (eqb-true c 0x2C q) refl
        go false false true p q r h = closing o (eqb-true c (closer o) r)
        go false false false p q r h = absurd h

    -- right behind [ or {
    module _ (o : Container) (key : ℕ) (outer : Stack) where
      head-not : Front name o key outer T (c ∷ s) → is_space c ≡ false
      head-not (inl x) = (closer-not o (head-eq x.1)).0
      head-not (inr x) = (item-not o (level o key none outer) x).0

      head-down : Front name o key outer T (c ∷ s) → ToCome name (cond (eqb c (closer o)) (shut o key none outer) (item o c (level o key none outer))) s T
      head-down (inl x) = rw (eq-eqb c (closer o) (head-eq x.1)) (shut-down o key none outer x.0 (tail-eq x.1) x.2)
      head-down (inr x) = rw (item-not o (level o key none outer) x).1 (item-down o (level o key none outer) x)

      head-up : ToCome name (cond (eqb c (closer o)) (shut o key none outer) (item o c (level o key none outer))) s T → Front name o key outer T (c ∷ s)
      head-up = go (eqb c (closer o)) refl
        where
          go : (a : Bool) → eqb c (closer o) ≡ a → ToCome name (cond a (shut o key none outer) (item o c (level o key none outer))) s T → Front name o key outer T (c ∷ s)
          go true p h = inl (s, rw (eqb-true c (closer o) p) refl, shut-up o key none outer h)
          go false p h = inr (item-up o (level o key none outer) h)

    -- strings and keys
    key-down : (part : StringPart) (spelled : List ℕ) (around : Stack) → ToCome name (in_key part spelled around) (c ∷ s) T →
        ToCome name (key_turn name (next_in_string part c) c spelled around) s T
    unfolding key_turn
    key-down part spelled around h = go (next_in_string part c) (string-down part c s h.0 h.1 small h.2 h.3)
      where
        go : (turn : Turn StringPart) → StringTurn turn c s h.0 h.1 → ToCome name (key_turn name turn c spelled around) s T
        go (go_on q) x =
            let e : spelled ++ h.0 ≡ (spelled ++ (c ∷ [])) ++ x.0 = ap (λ (w : List ℕ). spelled ++ w) x.1 ∙ sym (append_assoc spelled (c ∷ []) x.0) in
            (x.0, h.1, x.2, x.3, subst (λ (w : List ℕ). Spaced (Colon name (name w) around T) h.1) e h.4)
        go ended x =
            let e : spelled ++ h.0 ≡ spelled = ap (λ (w : List ℕ). spelled ++ w) x.0 ∙ append-nil spelled in
            rw x.1 (subst (λ (w : List ℕ). Spaced (Colon name (name w) around T) h.1) e h.4)
        go stuck x = x

    key-up : (part : StringPart) (spelled : List ℕ) (around : Stack) → ToCome name (key_turn name (next_in_string part c) c spelled around) s T →
        ToCome name (in_key part spelled around) (c ∷ s) T
    unfolding key_turn
    key-up part spelled around = go (next_in_string part c) (string-up part c small)
      where
        go : (turn : Turn StringPart) → StringBack part turn c → ToCome name (key_turn name turn c spelled around) s T → ToCome name (in_key part spelled around) (c ∷ s) T
        go (go_on q) f h = (
          c ∷ h.0,
          h.1,
          f h.0 h.2,
          ap (λ (t : List ℕ). c ∷ t) h.3,
          subst (λ (w : List ℕ). Spaced (Colon name (name w) around T) h.1) (append_assoc spelled (c ∷ []) h.0) h.4,
        )
        go ended f h = ([], s, f.1, ap (λ (d : ℕ). d ∷ s) f.0, rw append-nil h)
        go stuck f h = absurd h

    text-down : (part : StringPart) (around : Stack) → ToCome name (in_string part around) (c ∷ s) T → ToCome name (string_turn (next_in_string part c) around) s T
    unfolding string_turn
    text-down part around h = go (next_in_string part c) (string-down part c s h.0 h.1 small h.2 h.3)
      where
        go : (turn : Turn StringPart) → StringTurn turn c s h.0 h.1 → ToCome name (string_turn turn around) s T
        go (go_on q) x = (x.0, h.1, x.2, x.3, h.4)
        go ended x = rw x.1 h.4
        go stuck x = x

    text-up : (part : StringPart) (around : Stack) → ToCome name (string_turn (next_in_string part c) around) s T → ToCome name (in_string part around) (c ∷ s) T
    unfolding string_turn
    text-up part around = go (next_in_string part c) (string-up part c small)
      where
        go : (turn : Turn StringPart) → StringBack part turn c → ToCome name (string_turn turn around) s T → ToCome name (in_string part around) (c ∷ s) T
        go (go_on q) f h = (c ∷ h.0, h.1, f h.0 h.2, ap (λ (t : List ℕ). c ∷ t) h.3, h.4)
        go ended f h = ([], s, f.1, ap (λ (d : ℕ). d ∷ s) f.0, h)
        go stuck f h = absurd h

    -- numbers: a byte goes on with the number, or it stands behind it
    number-down : (part : NumberPart) (around : Stack) → ToCome name (in_number part around) (c ∷ s) T →
        ToCome name (number_turn (next_in_number part c) (may_end part) c around) s T
    unfolding number_turn
    number-down part around h = look (next_in_number part c) (number-fact part c small) (cons-append c s h.0 h.1 h.3)
      where
        Shape : Type 0
        Shape = ((h.0 ≡ []) × (h.1 ≡ c ∷ s)) ⊎ ((v : List ℕ) × (h.0 ≡ c ∷ v) × (s ≡ v ++ h.1))

        here : h.1 ≡ c ∷ s → Behind name around (c ∷ s) T
        here e = subst (λ (t : List ℕ). Behind name around t T) e h.4

        going : (v : List ℕ) → h.0 ≡ c ∷ v → Word (rest (number_rest part) c) v
        going v e = word-rest (number_rest part) c v (subst (λ (w : List ℕ). Word (number_rest part) w) e h.2)

        ends : h.0 ≡ [] → may_end part ≡ true
        ends e = end-nullable part ∙ word-nullable (number_rest part) (subst (λ (w : List ℕ). Word (number_rest part) w) e h.2)

        out : Shape → rest (number_rest part) c ≡ never → ToCome name (cond (may_end part) (step_after around c) wrong) s T
        out (inl x) f = rw (ends x.0) (after-down around (here x.1))
        out (inr x) f = absurd (subst (λ (r : Rx). Word r x.0) f (going x.0 x.1))

        look : (turn : Turn NumberPart) → NumberFact part turn c → Shape → ToCome name (number_turn turn (may_end part) c around) s T
        look (go_on q) f (inl x) = false-true (sym f.1 ∙ behind-end around (here x.1))
        look (go_on q) f (inr x) = (x.0, h.1, subst (λ (r : Rx). Word r x.0) f.0 (going x.0 x.1), x.2, h.4)
        look ended f x = out x f
        look stuck f x = out x f

    number_up : (part : NumberPart) (around : Stack) → ToCome name (number_turn (next_in_number part c) (may_end part) c around) s T →
        ToCome name (in_number part around) (c ∷ s) T
    unfolding number_turn
    number_up part around = look (next_in_number part c) (number-fact part c small)
      where
        out : (b : Bool) → may_end part ≡ b → ToCome name (cond b (step_after around c) wrong) s T → ToCome name (in_number part around) (c ∷ s) T
        out true e h = ([], c ∷ s, nullable-word (number_rest part) (sym (end-nullable part) ∙ e), refl, after-up around h)
        out false e h = absurd h

        look : (turn : Turn NumberPart) → NumberFact part turn c → ToCome name (number_turn turn (may_end part) c around) s T → ToCome name (in_number part around) (c ∷ s) T
        look (go_on q) f h =
            (c ∷ h.0, h.1, rest-word (number_rest part) c h.0 (subst (λ (r : Rx). Word r h.0) (sym f.0) h.2), ap (λ (t : List ℕ). c ∷ t) h.3, h.4)
        look ended f h = out (may_end part) refl h
        look stuck f h = out (may_end part) refl h

    literal-down : (l : ℕ) (ls : List ℕ) (around : Stack) → ToCome name (in_literal l ls around) (c ∷ s) T → ToCome name (cond (eqb c l) (step_literal ls around) wrong) s T
    unfolding step_literal
    literal-down l [] around h = rw (eq-eqb c l (head-eq h.1), tail-eq h.1) h.2
    literal-down l (k ∷ ls) around h = rw (eq-eqb c l (head-eq h.1)) (h.0, tail-eq h.1, h.2)

    literal-up : (l : ℕ) (ls : List ℕ) (around : Stack) → ToCome name (cond (eqb c l) (step_literal ls around) wrong) s T → ToCome name (in_literal l ls around) (c ∷ s) T
    unfolding step_literal
    literal-up l ls around = go (eqb c l) refl ls
      where
        go : (b : Bool) → eqb c l ≡ b → (ls : List ℕ) → ToCome name (cond b (step_literal ls around) wrong) s T → ToCome name (in_literal l ls around) (c ∷ s) T
        go true e [] h = (s, ap (λ (d : ℕ). d ∷ s) (eqb-true c l e), h)
        go true e (k ∷ ls) h = (h.0, rw (eqb-true c l e, h.1) refl, h.2)
        go false e ls h = absurd h

    colon-down : (key : ℕ) (around : Stack) → Colon name key around T (c ∷ s) → ToCome name (cond (eqb c 0x3A) (need key around) wrong) s T
    colon-down key around h = rw (eq-eqb c 0x3A (head-eq h.1), tail-eq h.1) h.2

    colon-up : (key : ℕ) (around : Stack) → ToCome name (cond (eqb c 0x3A) (need key around) wrong) s T → Colon name key around T (c ∷ s)
    colon-up key around = go (eqb c 0x3A) refl
      where
        go : (b : Bool) → eqb c 0x3A ≡ b → ToCome name (cond b (need key around) wrong) s T → Colon name key around T (c ∷ s)
        go true e h = (s, ap (λ (d : ℕ). d ∷ s) (eqb-true c 0x3A e), h)
        go false e h = absurd h

    -- messages
    from-gap : (ms : Values) → Gap name ms T (c ∷ s) → Needed name 0 (base ms) T (c ∷ s)
    from-gap ms h = go h.1 refl h.2
      where
        go : {x : List ℕ} {vs : Values} → Messages name x vs → x ≡ c ∷ s → T ≡ join_values ms vs → Needed name 0 (base ms) T (c ∷ s)
        go no_message e q = absurd (cons-nil c s (sym e))
        go (message {s = x} {t} {u} {b} {head} {c = content} {vs} v sp w r) e q =
            (head, content, b ∷ t, subst (λ (x : List ℕ). Value name x head content (b ∷ t)) e v, (b, t, refl, sp, (u, w, (vs, r, q ∙ sym (join-snoc ms head 0 content vs)))))

    to-gap : (ms : Values) → Needed name 0 (base ms) T (c ∷ s) → Gap name ms T (c ∷ s)
    to-gap ms h =
        let a = h.4 in
        let g = a.4.2 in (
          value h.0 0 h.1 g.0,
          message (subst (λ (t : List ℕ). Value name (c ∷ s) h.0 h.1 t) a.2 h.3) a.3 a.4.1 g.1,
          g.2 ∙ join-snoc ms h.0 0 h.1 g.0,
        )

    needed-not : (key : ℕ) (around : Stack) → Needed name key around T (c ∷ s) → is_space c ≡ false
    needed-not key around n = (end-parts c (value-not-end n.0 n.1 n.2 n.3)).0

    pub down : (σ : State) → ToCome name σ (c ∷ s) T → ToCome name (step name σ c) s T
    unfolding step
    down (gap ms) h =
        space-down name (Gap name ms T) c s (gap ms) (begin (start c) 0 (base ms)) T
        (λ g. needed-not 0 (base ms) (from-gap ms g)) (λ g. g) (λ g. begin-down 0 (base ms) (from-gap ms g)) h
    down (after around) h = after-down around h
    down (need key around) h =
        space-down name (Needed name key around T) c s (need key around) (begin (start c) key around) T
        (needed-not key around) (λ g. g) (begin-down key around) h
    down (first o key outer) h =
        space-down name (Front name o key outer T) c s (first o key outer) _ T
        (head-not o key outer) (opened_in name o key outer s T) (head-down o key outer) (opened_out name o key outer (c ∷ s) T h)
    down (next_key around) h =
        space-down name (Itemed name object around T) c s (next_key around) (item object c around) T
        (λ g. (item-not object around g).0) (λ g. g) (item-down object around) h
    down (in_key part spelled around) h = key-down part spelled around h
    down (colon key around) h =
        space-down name (Colon name key around T) c s (colon key around) _ T
        (λ g. rw (head-eq g.1) refl) (λ g. g) (colon-down key around) h
    down (in_string part around) h = text-down part around h
    down (in_number part around) h = number-down part around h
    down (in_literal l ls around) h = literal-down l ls around h
    down wrong h = h

    pub up : (σ : State) → ToCome name (step name σ c) s T → ToCome name σ (c ∷ s) T
    unfolding step
    up (gap ms) h =
        space-up name (Gap name ms T) c s (gap ms) (begin (start c) 0 (base ms)) T (λ g. g) (λ g. to-gap ms (begin-up 0 (base ms) g)) h
    up (after around) h = after-up around h
    up (need key around) h = space-up name (Needed name key around T) c s (need key around) (begin (start c) key around) T (λ g. g) (begin-up key around) h
    up (first o key outer) h =
        opened_in name o key outer (c ∷ s) T
        (space-up name (Front name o key outer T) c s (first o key outer) _ T (opened_out name o key outer s T) (head-up o key outer) h)
    up (next_key around) h = space-up name (Itemed name object around T) c s (next_key around) (item object c around) T (λ g. g) (item-up object around) h
    up (in_key part spelled around) h = key-up part spelled around h
    up (colon key around) h = space-up name (Colon name key around T) c s (colon key around) _ T (λ g. g) (colon-up key around) h
    up (in_string part around) h = text-up part around h
    up (in_number part around) h = number_up part around h
    up (in_literal l ls around) h = literal-up l ls around h
    up wrong h = h
