-- The productions of RFC 8259 to the letter: white space on both sides of each of the six structural characters. The grammar has the
-- same texts.
use Rattle.std.specs.Prelude.{◌≡◌, true, ◌↔◌, List, [], ◌∷◌, ◌++◌, ℕ}
use Rattle.value_table.specs.Value.{Head, Values, none, value}
use Rattle.json_theory.specs.Rx.{Word}
use Rattle.json_theory.specs.Grammar.{quote, chars, is_space, Ws, Scalar, Container, array, object, head_of, kind_of, opener, closer, Text}

-- begin-array, begin-object, end-array, end-object, name-separator, value-separator: ws c ws
pub data Structural (c : ℕ) : List ℕ → List ℕ → Type 0 where
  around : {s t m : List ℕ} → Ws s (c ∷ t) → Ws t m → Structural c s m

module _ (name : List ℕ → ℕ) where
  mutual
    -- value = false / null / true / object / array / number / string
    pub data RfcValue : List ℕ → Head → Values → List ℕ → Type 0 where
      plain : {s m : List ℕ} {head : Head} → Scalar s head m → RfcValue s head none m
      nested : {o : Container} {s t m : List ℕ} {vs : Values} → Structural (opener o) s t → RfcContent o t vs m → RfcValue s (head_of (kind_of o)) vs m

    -- [ value *( value-separator value ) ] end-array, [ member *( value-separator member ) ] end-object
    pub data RfcContent : Container → List ℕ → Values → List ℕ → Type 0 where
      nothing : {o : Container} {s m : List ℕ} → Structural (closer o) s m → RfcContent o s none m
      some : {o : Container} {s t m : List ℕ} {head : Head} {key : ℕ} {c vs : Values} →
          RfcItem o s head key c t → RfcOthers o t vs m → RfcContent o s (value head key c vs) m

    -- value; member = string name-separator value
    pub data RfcItem : Container → List ℕ → Head → ℕ → Values → List ℕ → Type 0 where
      element : {s m : List ℕ} {head : Head} {c : Values} → RfcValue s head c m → RfcItem array s head 0 c m
      member : {w s t m : List ℕ} {head : Head} {c : Values} →
          Word chars w → Structural 0x3A s t → RfcValue t head c m → RfcItem object (quote ∷ (w ++ (quote ∷ s))) head (name w) c m

    -- *( value-separator .. ) end-..
    pub data RfcOthers : Container → List ℕ → Values → List ℕ → Type 0 where
      closed : {o : Container} {s m : List ℕ} → Structural (closer o) s m → RfcOthers o s none m
      next : {o : Container} {s t u m : List ℕ} {head : Head} {key : ℕ} {c vs : Values} →
          Structural 0x2C s t → RfcItem o t head key c u → RfcOthers o u vs m → RfcOthers o s (value head key c vs) m

  pub data RfcMessages : List ℕ → Values → Type 0 where
    done : RfcMessages [] none
    message : {s t u : List ℕ} {b : ℕ} {head : Head} {c vs : Values} →
        RfcValue s head c (b ∷ t) → is_space b ≡ true → Ws t u → RfcMessages u vs → RfcMessages s (value head 0 c vs)

  pub data RfcText : List ℕ → Values → Type 0 where
    text : {s t : List ℕ} {ms : Values} → Ws s t → RfcMessages t ms → RfcText s ms

-- the grammar has the texts of RFC 8259's own productions, which allow white space on both sides of every bracket
abbrev pub LikeRfc : Type 0
LikeRfc = (name : List ℕ → ℕ) (text : List ℕ) (ms : Values) → RfcText name text ms ↔ Text name text ms
