-- Where the reader stands in the text, in the grammar's terms: one byte leads to where the next state says.
use mathlib.Core.Path.{◌≡◌, refl, sym, ◌∙◌, ap}
use mathlib.Core.Bool.{Bool, true, cond}
use mathlib.Core.List.{List, [], ◌∷◌, ◌++◌, append_assoc, append-nil}
use Prim.Native.Nat.{ℕ, ◌<◌}
use lib.Dec.{eqb}
use borrow.Author.Tests.{eqb-true}
use Rattle.value_table.specs.Value.{Head, Values, none, value, join_values}
use Rattle.json_theory.specs.Rx.{Word}
use Rattle.json_theory.specs.Grammar.{chars, quote, is_space, Ws, tight, space, Container, array, object, head_of, kind_of, opener, closer, Value, container, Content, nothing, some, Item, element, member, Others, closed, next}
use Rattle.json_theory.specs.Parts.{Turn, go as go_on, ended, stuck, StringPart, plain, next_in_string, NumberPart, next_in_number, may_end, Start, letters, number, string, open', nothing as no_start, start}
use Rattle.json_theory.specs.Inside.Remaining.{string_rest, number_rest}
use Rattle.json_theory.specs.Steps.{Stack, base, level, add, State, gap, after, need, first, next_key, in_key, colon, in_string, in_number, in_literal, wrong, begin, item, behind_comma, shut, step_after, step_literal, key_turn, string_turn, number_turn, step}
use Rattle.json_theory.specs.Places.{ItemAt, first_message, next_message, first_item, next_item, ValueAt, as_message, as_element, as_member, KeyAt, key_end}
use Rattle.json_theory.proofs.Rx.{nullable-word, rest-word}
use Rattle.json_theory.proofs.Parts.{StringBack, string-up, end-nullable, NumberFact, number-fact}
use Rattle.json_theory.proofs.Begin.{Which, which, pick, Began, value-up}
use Rattle.json_theory.proofs.ToCome.{join-snoc}
use Rattle.json_theory.proofs.Limits.{InObject, Shaped}

ws-join : {s t u : List ℕ} → Ws s t → Ws t u → Ws s u
ws-join tight k = k
ws-join (space e w) k = space e (ws-join w k)

ws-on : {s t : List ℕ} {c : ℕ} → Ws s (c ∷ t) → is_space c ≡ true → Ws s t
ws-on w e = ws-join w (space e tight)

module _ (name : List ℕ → ℕ) (text : List ℕ) where
  item-space : {around : Stack} {s t : List ℕ} → ItemAt name text around s → Ws s t → ItemAt name text around t
  item-space (first_message w) k = first_message (ws-join w k)
  item-space (next_message h v e w) k = next_message h v e (ws-join w k)
  item-space (first_item v w) k = first_item v (ws-join w k)
  item-space (next_item h i a w) k = next_item h i a (ws-join w k)

  value-space : {key : ℕ} {around : Stack} {s t : List ℕ} → ValueAt name text key around s → Ws s t → ValueAt name text key around t
  value-space (as_message h) k = as_message (item-space h k)
  value-space (as_element h) k = as_element (item-space h k)
  value-space (as_member h a w) k = as_member h a (ws-join w k)

  -- the last message, element or member of the innermost level ends here
  pub data Ended : Stack → List ℕ → Type 0 where
    message_ends : {s t : List ℕ} {head : Head} {ms c : Values} →
        ItemAt name text (base ms) s → Value name s head c t → Ended (add (value head 0 c none) (base ms)) t
    item_ends : {o : Container} {s t : List ℕ} {head : Head} {k key : ℕ} {c done : Values} {outer : Stack} →
        ItemAt name text (level o key done outer) s → Item name o s head k c t → Ended (add (value head k c none) (level o key done outer)) t

  value-ends : {key : ℕ} {around : Stack} {s t : List ℕ} {head : Head} {c : Values} → ValueAt name text key around s → Value name s head c t →
      Ended (add (value head key c none) around) t
  value-ends (as_message h) v = message_ends h v
  value-ends (as_element h) v = item_ends h (element v)
  value-ends (as_member (key_end h w) a b) v = item_ends h (member w a b v)

  message-follows : {ms : Values} {s t : List ℕ} {c : ℕ} → Ended (base ms) s → Ws s (c ∷ t) → is_space c ≡ true → ItemAt name text (base ms) t
  message-follows (message_ends h v) tight e = next_message h v e tight
  message-follows (message_ends h v) (space d w) e = next_message h v d (ws-on w e)

  item-follows : {o : Container} {key : ℕ} {done : Values} {outer : Stack} {s t : List ℕ} → Ended (level o key done outer) s → Ws s (0x2C ∷ t) →
      ItemAt name text (level o key done outer) t
  item-follows (item_ends h i) w = next_item h i w tight

  -- where the innermost level began, and what its content is if it ends behind an item that begins here and others
  abbrev Opened : Stack → List ℕ → Type 0
  Opened (base ms) s = Unit {0}
  Opened (level o key done outer) s =
      (x : List ℕ) × ValueAt name text key outer (opener o ∷ x) ×
      ((head : Head) (k : ℕ) (c vs : Values) (t m : List ℕ) →
      Item name o s head k c t → Others name o t vs m → Content name o x (join_values done (value head k c vs)) m)

  opened : {around : Stack} {s : List ℕ} → ItemAt name text around s → Opened around s
  unfolding join_values
  opened (first_message w) = tt
  opened (next_message h v e w) = tt
  opened (first_item {s} v w) = (s, v, λ head k c vs t m i r. some w i r)
  opened (next_item {t} {head} {k} {c} {done} h i a w) =
      let x = opened h in
      (x.0, x.1, λ l j d vs u m y r. rw (join-snoc done head k c (value l j d vs)) (x.2 head k c (value l j d vs) t m i (next a w y r)))

  level-ends : {o : Container} {key : ℕ} {done : Values} {outer : Stack} {s t : List ℕ} → Ended (level o key done outer) s → Ws s (closer o ∷ t) →
      Ended (add (value (head_of (kind_of o)) key done none) outer) t
  level-ends (item_ends {t} {head} {k} {c} h i) w = let x = opened h in value-ends x.1 (container (x.2 head k c none t _ i (closed w)))

  -- the last value of the innermost level is a scalar that ends wherever P holds of the text behind it
  pub record Within (around : Stack) (P : List ℕ → Type 0) : Type 0 where
    pub key : ℕ
    pub outside : Stack
    pub from : List ℕ
    pub head : Head
    pub begun : ValueAt name text key outside from
    pub ends : (t : List ℕ) → P t → Value name from head none t
    pub added : add (value head key none none) outside ≡ around

  within-start : {key : ℕ} {around : Stack} {from : List ℕ} {head : Head} {P : List ℕ → Type 0} →
      ValueAt name text key around from → ((t : List ℕ) → P t → Value name from head none t) → Within (add (value head key none none) around) P
  within-start {key} {around} {from} {head} v f =
      record { key = key; outside = around; from = from; head = head; begun = v; ends = f; added = refl }

  within_on : {around : Stack} {P Q : List ℕ → Type 0} → Within around P → ((t : List ℕ) → Q t → P t) → Within around Q
  within_on h f =
      record { key = h.key; outside = h.outside; from = h.from; head = h.head; begun = h.begun; ends = λ t q. h.ends t (f t q); added = h.added }

  within-ends : {around : Stack} {P : List ℕ → Type 0} (t : List ℕ) → Within around P → P t → Ended around t
  within-ends t h p = rw h.added at (value-ends h.begun (h.ends t p))

  -- by state
  abbrev pub Stands : State → List ℕ → Type 0
  Stands (gap ms) s = ItemAt name text (base ms) s
  Stands (after around) s = (t : List ℕ) × Ended around t × Ws t s
  Stands (need key around) s = ValueAt name text key around s
  Stands (first o key outer) s = (t : List ℕ) × ValueAt name text key outer (opener o ∷ t) × Ws t s
  Stands (next_key around) s = ItemAt name text around s
  Stands (in_key part spelled around) s =
      ItemAt name text around (quote ∷ (spelled ++ s)) × ((w : List ℕ) → Word (string_rest part) w → Word chars (spelled ++ w))
  Stands (colon key around) s = (w : List ℕ) × (t : List ℕ) × KeyAt name text w around (quote ∷ t) × Ws t s × (name w ≡ key)
  Stands (in_string part around) s = Within around (λ t. (w : List ℕ) × Word (string_rest part) w × (s ≡ w ++ (quote ∷ t)))
  Stands (in_number part around) s = Within around (λ t. (w : List ℕ) × Word (number_rest part) w × (s ≡ w ++ t))
  Stands (in_literal l ls around) s = Within around (λ t. s ≡ l ∷ (ls ++ t))
  Stands wrong s = Unit {0}

  module _ (c : ℕ) (s : List ℕ) (small : c < 256) where
    choose : (b : Bool) (σ τ : State) → (b ≡ true → Stands σ s) → Stands τ s → Stands (cond b σ τ) s
    choose = pick (λ σ. Stands σ s)

    stands-begin : (key : ℕ) (around : Stack) → ValueAt name text key around (c ∷ s) → Stands (begin (start c) key around) s
    unfolding begin
    stands-begin key around v = look (start c) (which c) (λ head content m b. value-up name c s small b)
      where
        look : (st : Start) → Which c st →
            ((head : Head) (content : Values) (m : List ℕ) → Began name st s head content m → Value name (c ∷ s) head content m) → Stands (begin st key around) s
        look (letters k l ls) e f = within-start v (λ t p. f (head_of k) none t (refl, refl, p))
        look (number part) e f = within-start v (λ t p. f (head_of 3) none t (refl, refl, p))
        look string e f = within-start v (λ t p. f (head_of 4) none t (refl, refl, p))
        look (open' o) e f = (s, rw e at v, tight)
        look no_start e f = tt

    stands-key : (around : Stack) → ItemAt name text around (c ∷ s) → Stands (item object c around) s
    unfolding item string_rest
    stands-key around h = choose (eqb c quote) (in_key plain [] around) wrong (λ e. (rw (eqb-true c quote e) at h, λ w x. x)) tt

    stands-item : (o : Container) (key : ℕ) (outer : Stack) → ItemAt name text (level o key none outer) (c ∷ s) → Stands (item o c (level o key none outer)) s
    unfolding item
    stands-item array key outer h = stands-begin 0 (level array key none outer) (as_element h)
    stands-item object key outer h = stands-key (level object key none outer) h

    stands-comma : (o : Container) (key : ℕ) (done : Values) (outer : Stack) → ItemAt name text (level o key done outer) s →
        Stands (behind_comma o (level o key done outer)) s
    unfolding behind_comma
    stands-comma array key done outer h = as_element h
    stands-comma object key done outer h = h

    stands_after : (around : Stack) (t : List ℕ) → Ended around t → Ws t (c ∷ s) → Stands (step_after around c) s
    unfolding step_after shut
    stands_after (base ms) t h w = choose (is_space c) (gap ms) wrong (message-follows h w) tt
    stands_after (level o key done outer) t h w =
        choose (is_space c) (after (level o key done outer)) _ (λ e. (t, h, ws-on w e))
        (choose (eqb c 0x2C) (behind_comma o (level o key done outer)) _
        (λ e. stands-comma o key done outer (item-follows h (rw (eqb-true c 0x2C e) at w)))
        (choose (eqb c (closer o)) (shut o key done outer) wrong
        (λ e. (s, level-ends h (rw (eqb-true c (closer o) e) at w), tight)) tt))

    pub key-ends : (around : Stack) (w : List ℕ) → InObject around → ItemAt name text around (quote ∷ (w ++ (quote ∷ s))) → Word chars w →
        KeyAt name text w around (quote ∷ s)
    key-ends (base ms) w i h x = absurd i
    key-ends (level array key done outer) w i h x = absurd i
    key-ends (level object key done outer) w i h x = key_end h x

    stands-spelled : (part : StringPart) (spelled : List ℕ) (around : Stack) → InObject around → Stands (in_key part spelled around) (c ∷ s) →
        Stands (key_turn name (next_in_string part c) c spelled around) s
    unfolding key_turn
    stands-spelled part spelled around i h = look (next_in_string part c) (string-up part c small)
      where
        look : (turn : Turn StringPart) → StringBack part turn c → Stands (key_turn name turn c spelled around) s
        look (go_on q) f = (rw append_assoc h.0, λ w x. rw append_assoc (h.1 (c ∷ w) (f w x)))
        look ended f = (spelled, s, key-ends around spelled i (rw f.0 at h.0) (rw append-nil at (h.1 [] f.1)), tight, refl)
        look stuck f = tt

    stands-string : (part : StringPart) (around : Stack) → Stands (in_string part around) (c ∷ s) → Stands (string_turn (next_in_string part c) around) s
    unfolding string_turn
    stands-string part around h = look (next_in_string part c) (string-up part c small)
      where
        look : (turn : Turn StringPart) → StringBack part turn c → Stands (string_turn turn around) s
        look (go_on q) f = within_on h (λ t x. (c ∷ x.0, f x.0 x.1, ap (λ (u : List ℕ). c ∷ u) x.2))
        look ended f = (s, within-ends s h ([], f.1, ap (λ (d : ℕ). d ∷ s) f.0), tight)
        look stuck f = tt

    stands-number : (part : NumberPart) (around : Stack) → Stands (in_number part around) (c ∷ s) →
        Stands (number_turn (next_in_number part c) (may_end part) c around) s
    unfolding number_turn
    stands-number part around h = look (next_in_number part c) (number-fact part c small)
      where
        out : Stands (cond (may_end part) (step_after around c) wrong) s
        out =
            choose (may_end part) (step_after around c) wrong
            (λ e. stands_after around (c ∷ s) (within-ends (c ∷ s) h ([], nullable-word (number_rest part) (sym (end-nullable part) ∙ e), refl)) tight) tt

        look : (turn : Turn NumberPart) → NumberFact part turn c → Stands (number_turn turn (may_end part) c around) s
        look (go_on q) f =
            within_on h (λ t x. (c ∷ x.0, rest-word (number_rest part) c x.0 (rw f.0 x.1), ap (λ (u : List ℕ). c ∷ u) x.2))
        look ended f = out
        look stuck f = out

    stands-literal : (l : ℕ) (ls : List ℕ) (around : Stack) → c ≡ l → Stands (in_literal l ls around) (c ∷ s) → Stands (step_literal ls around) s
    unfolding step_literal
    stands-literal l [] around e h = (s, within-ends s h (ap (λ (d : ℕ). d ∷ s) e), tight)
    stands-literal l (k ∷ ls) around e h = within_on h (λ t x. cc)

    pub stands-step : (σ : State) → Shaped σ → Stands σ (c ∷ s) → Stands (step name σ c) s
    unfolding step shut
    stands-step (gap ms) sh h = choose (is_space c) (gap ms) _ (λ e. item-space h (space e tight)) (stands-begin 0 (base ms) (as_message h))
    stands-step (after around) sh h = stands_after around h.0 h.1 h.2
    stands-step (need key around) sh h = choose (is_space c) (need key around) _ (λ e. value-space h (space e tight)) (stands-begin key around h)
    stands-step (first o key outer) sh h =
        choose (is_space c) (first o key outer) _ (λ e. (h.0, h.1, ws-on h.2 e))
        (choose (eqb c (closer o)) (shut o key none outer) _
        (λ e. (s, value-ends h.1 (container {o = o} (nothing (rw (eqb-true c (closer o) e) at h.2))), tight))
        (stands-item o key outer (first_item h.1 h.2)))
    stands-step (next_key around) sh h = choose (is_space c) (next_key around) _ (λ e. item-space h (space e tight)) (stands-key around h)
    stands-step (in_key part spelled around) sh h = stands-spelled part spelled around sh h
    stands-step (colon key around) sh h =
        choose (is_space c) (colon key around) _ (λ e. (h.0, h.1, h.2, ws-on h.3 e, h.4))
        (choose (eqb c 0x3A) (need key around) wrong (λ e. rw (← h.4) (as_member h.2 (rw (eqb-true c 0x3A e) at h.3) tight)) tt)
    stands-step (in_string part around) sh h = stands-string part around h
    stands-step (in_number part around) sh h = stands-number part around h
    stands-step (in_literal l ls around) sh h = choose (eqb c l) (step_literal ls around) wrong (λ e. stands-literal l ls around (eqb-true c l e) h) tt
    stands-step wrong sh h = tt
