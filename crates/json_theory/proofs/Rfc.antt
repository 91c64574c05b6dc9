-- White space around brackets is that of what stands around them: both grammars have the same texts, with the same messages.
use mathlib.Core.Path.{◌≡◌, refl, sym, subst}
use mathlib.Core.Bool.{true}
use mathlib.Core.List.{List, [], ◌∷◌, ◌++◌}
use Prim.Native.Nat.{ℕ}
use Rattle.value_table.specs.Value.{Head, Values, none, value}
use Rattle.json_theory.specs.Rx.{Word}
use Rattle.json_theory.specs.Grammar
use Rattle.json_theory.specs.Grammar.{quote, is_space, Ws, tight, space, Container, object, head_of, kind_of, opener, closer, Value, scalar, container, Content, Item, Others, Messages, Text}
use Rattle.json_theory.specs.Rfc
use Rattle.json_theory.specs.Rfc.{Structural, around, RfcValue, plain, nested, RfcItem, RfcOthers, RfcMessages, RfcText, LikeRfc}

ws-trans : {a b c : List ℕ} → Ws a b → Ws b c → Ws a c
ws-trans tight y = y
ws-trans (space h x) y = space h (ws-trans x y)

module _ (name : List ℕ → ℕ) where
  to-value : {s m : List ℕ} {head : Head} {c : Values} → Value name s head c m → RfcValue name s head c m
  to-value h =
      elim h as (λ s head c m h. RfcValue name s head c m) (λ o s vs m h. RfcValue name (opener o ∷ s) (head_of (kind_of o)) vs m)
      (λ o s head key c m h. RfcItem name o s head key c m) (λ o s vs m h. RfcOthers name o s vs m) [
        | scalar h ↦ plain h
        | container (h → k) ↦ k
        | Grammar.nothing {o} w ↦ nested {o = o} (around tight tight) (Rfc.nothing (around w tight))
        | Grammar.some {o} w (i → k) (r → l) ↦ nested {o = o} (around tight w) (Rfc.some k l)
        | Grammar.element (v → k) ↦ Rfc.element k
        | Grammar.member h a b (v → k) ↦ Rfc.member h (around a b) k
        | Grammar.closed w ↦ Rfc.closed (around w tight)
        | Grammar.next w x (i → k) (r → l) ↦ Rfc.next (around w x) k l
      ]

  to-messages : {s : List ℕ} {vs : Values} → Messages name s vs → RfcMessages name s vs
  to-messages Grammar.done = Rfc.done
  to-messages (Grammar.message v h w r) = Rfc.message (to-value v) h w (to-messages r)

  others-ws : {o : Container} {a s m : List ℕ} {vs : Values} → Ws a s → Others name o s vs m → Others name o a vs m
  others-ws x (Grammar.closed w) = Grammar.closed (ws-trans x w)
  others-ws x (Grammar.next w y i r) = Grammar.next (ws-trans x w) y i r

  content-ws : {o : Container} {a s m : List ℕ} {vs : Values} → Ws a s → Content name o s vs m → Content name o a vs m
  content-ws x (Grammar.nothing w) = Grammar.nothing (ws-trans x w)
  content-ws x (Grammar.some w i r) = Grammar.some (ws-trans x w) i r

  -- with the white space at both ends set apart
  abbrev ValueIn : List ℕ → Head → Values → List ℕ → Type 0
  ValueIn s head c m = (t : List ℕ) × (u : List ℕ) × Ws s t × Value name t head c u × Ws u m

  abbrev ItemIn : Container → List ℕ → Head → ℕ → Values → List ℕ → Type 0
  ItemIn o s head key c m = (t : List ℕ) × (u : List ℕ) × Ws s t × Item name o t head key c u × Ws u m

  abbrev ContentIn : Container → List ℕ → Values → List ℕ → Type 0
  ContentIn o s vs m = (u : List ℕ) × Content name o s vs u × Ws u m

  abbrev OthersIn : Container → List ℕ → Values → List ℕ → Type 0
  OthersIn o s vs m = (u : List ℕ) × Others name o s vs u × Ws u m

  nested-in : {o : Container} {s t m : List ℕ} {vs : Values} → Structural (opener o) s t → ContentIn o t vs m → ValueIn s (head_of (kind_of o)) vs m
  nested-in {o} (around {t = x} a b) h = (opener o ∷ x, h.0, a, container (content-ws b h.1), h.2)

  nothing-in : {o : Container} {s m : List ℕ} → Structural (closer o) s m → ContentIn o s none m
  nothing-in (around {t = x} a b) = (x, Grammar.nothing a, b)

  some_in : {o : Container} {s t m : List ℕ} {head : Head} {key : ℕ} {c vs : Values} → ItemIn o s head key c t → OthersIn o t vs m → ContentIn o s (value head key c vs) m
  some_in i r = (r.0, Grammar.some i.2 i.3 (others-ws i.4 r.1), r.2)

  member-in : {w s t m : List ℕ} {head : Head} {c : Values} → Word Grammar.chars w → Structural 0x3A s t → ValueIn t head c m →
      ItemIn object (quote ∷ (w ++ (quote ∷ s))) head (name w) c m
  member-in h (around a b) v = (_, v.1, tight, Grammar.member h a (ws-trans b v.2) v.3, v.4)

  close-in : {o : Container} {s m : List ℕ} → Structural (closer o) s m → OthersIn o s none m
  close-in (around {t = x} a b) = (x, Grammar.closed a, b)

  next-in : {o : Container} {s t u m : List ℕ} {head : Head} {key : ℕ} {c vs : Values} → Structural 0x2C s t → ItemIn o t head key c u → OthersIn o u vs m →
      OthersIn o s (value head key c vs) m
  next-in (around a b) i r = (r.0, Grammar.next a (ws-trans b i.2) i.3 (others-ws i.4 r.1), r.2)

  from-value : {s m : List ℕ} {head : Head} {c : Values} → RfcValue name s head c m → ValueIn s head c m
  from-value h =
      elim h as (λ s head c m h. ValueIn s head c m) (λ o s vs m h. ContentIn o s vs m) (λ o s head key c m h. ItemIn o s head key c m) (λ o s vs m h. OthersIn o s vs m) [
        | plain h ↦ (_, _, tight, scalar h, tight)
        | nested x (h → k) ↦ nested-in x k
        | Rfc.nothing x ↦ nothing-in x
        | Rfc.some (i → k) (r → l) ↦ some_in k l
        | Rfc.element (v → k) ↦ (k.0, k.1, k.2, Grammar.element k.3, k.4)
        | Rfc.member h x (v → k) ↦ member-in h x k
        | Rfc.closed x ↦ close-in x
        | Rfc.next x (i → k) (r → l) ↦ next-in x k l
      ]

  -- white space up to a white-space byte is at least one
  some-space : {a x : List ℕ} (b : ℕ) (t : List ℕ) → Ws a x → x ≡ b ∷ t → is_space b ≡ true → (d : ℕ) × (y : List ℕ) × (a ≡ d ∷ y) × (is_space d ≡ true) × Ws y t
  some-space b t tight e h = (b, t, e, h, tight)
  some-space b t (space {c} {s} {m} k w) e h = (c, s, refl, k, ws-trans w (subst (λ (z : List ℕ). Ws z t) (sym e) (space h tight)))

  from-messages : {s : List ℕ} {vs : Values} → RfcMessages name s vs → (t : List ℕ) × Ws s t × Messages name t vs
  from-messages Rfc.done = ([], tight, Grammar.done)
  from-messages (Rfc.message {t} {b} {head} {c} v h w r) =
      let x = from-value v in
      let y = from-messages r in
      let z = some-space b t x.4 refl h in
      (x.0, x.2, Grammar.message (subst (λ (u : List ℕ). Value name x.0 head c u) z.2 x.3) z.3 (ws-trans z.4 (ws-trans w y.1)) y.2)

pub like-rfc : LikeRfc
like-rfc name text ms = (from, to)
  where
    from : {s : List ℕ} {ms : Values} → RfcText name s ms → Text name s ms
    from (Rfc.text w h) = let x = from-messages name h in Grammar.text (ws-trans w x.1) x.2

    to : {s : List ℕ} {ms : Values} → Text name s ms → RfcText name s ms
    to (Grammar.text w h) = Rfc.text w (to-messages name h)
