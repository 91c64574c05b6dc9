-- RFC 8259 with UTF-8 by RFC 3629, production by production. A relation between the text from some byte on and the text behind
-- the production says that the bytes between them are one of its words.
use Rattle.std.specs.Prelude.{◌≡◌, Bool, true, ◌||◌, List, [], ◌∷◌, ◌++◌, ℕ, eqb}
use Rattle.value_table.specs.Value.{Head, Values, none, value, record_kind, array_kind}
use Rattle.json_theory.specs.Rx.{Rx, empty, range, then, either, star, Word}

abbrev pub byte : ℕ → Rx
byte c = range c c

abbrev pub option : Rx → Rx
option a = either a empty

-- number = [ minus ] int [ frac ] [ exp ]
abbrev pub digit : Rx
digit = range 0x30 0x39

abbrev pub digits : Rx
digits = then digit (star digit)

abbrev pub int : Rx
int = either (byte 0x30) (then (range 0x31 0x39) (star digit))

abbrev pub frac : Rx
frac = then (byte 0x2E) digits

abbrev pub sign : Rx
sign = either (byte 0x2B) (byte 0x2D)

abbrev pub exp : Rx
exp = then (either (byte 0x45) (byte 0x65)) (then (option sign) digits)

abbrev pub fraction : Rx
fraction = then (option frac) (option exp)

abbrev pub number : Rx
number = then (option (byte 0x2D)) (then int fraction)

-- RFC 3629, section 4: UTF8-1 to UTF8-4
abbrev pub tail : Rx
tail = range 0x80 0xBF

abbrev pub tails2 : Rx
tails2 = then tail tail

abbrev pub tails3 : Rx
tails3 = then tail tails2

abbrev pub utf8-2 : Rx
utf8-2 = then (range 0xC2 0xDF) tail

abbrev pub utf8-3 : Rx
utf8-3 =
    either (then (byte 0xE0) (then (range 0xA0 0xBF) tail))
    (either (then (range 0xE1 0xEC) tails2)
    (either (then (byte 0xED) (then (range 0x80 0x9F) tail))
    (then (range 0xEE 0xEF) tails2)))

abbrev pub utf8-4 : Rx
utf8-4 =
    either (then (byte 0xF0) (then (range 0x90 0xBF) tails2))
    (either (then (range 0xF1 0xF3) tails3)
    (then (byte 0xF4) (then (range 0x80 0x8F) tails2)))

-- char = unescaped / escape ( .. ); unescaped = %x20-21 / %x23-5B / %x5D-10FFFF, in UTF-8
abbrev pub unescaped : Rx
unescaped = either (range 0x20 0x21) (either (range 0x23 0x5B) (either (range 0x5D 0x7F) (either utf8-2 (either utf8-3 utf8-4))))

abbrev pub hexdig : Rx
hexdig = either (range 0x30 0x39) (either (range 0x41 0x46) (range 0x61 0x66))

abbrev pub hex4 : Rx
hex4 = then hexdig (then hexdig (then hexdig hexdig))

-- " \ / b f n r t, or u and four hexadecimal digits
abbrev pub escaped : Rx
escaped =
    either (byte 0x22) (either (byte 0x5C) (either (byte 0x2F) (either (byte 0x62) (either (byte 0x66)
    (either (byte 0x6E) (either (byte 0x72) (either (byte 0x74) (then (byte 0x75) hex4))))))))

abbrev pub char : Rx
char = either unescaped (then (byte 0x5C) escaped)

abbrev pub chars : Rx
chars = star char

abbrev pub quote : ℕ
quote = 0x22

-- ws
abbrev pub is_space : ℕ → Bool
is_space c = eqb c 0x20 || eqb c 0x09 || eqb c 0x0A || eqb c 0x0D

pub data Ws : List ℕ → List ℕ → Type 0 where
  tight : {s : List ℕ} → Ws s s
  space : {c : ℕ} {s m : List ℕ} → is_space c ≡ true → Ws s m → Ws (c ∷ s) m

-- the head of a value of this kind, whose text tells no more
abbrev pub head_of : ℕ → Head
head_of kind = record { kind = kind }

-- null, false and true, number, string: kinds 1 to 4
pub data Scalar : List ℕ → Head → List ℕ → Type 0 where
  null : {m : List ℕ} → Scalar (0x6E ∷ 0x75 ∷ 0x6C ∷ 0x6C ∷ m) (head_of 1) m
  is_false : {m : List ℕ} → Scalar (0x66 ∷ 0x61 ∷ 0x6C ∷ 0x73 ∷ 0x65 ∷ m) (head_of 2) m
  is_true : {m : List ℕ} → Scalar (0x74 ∷ 0x72 ∷ 0x75 ∷ 0x65 ∷ m) (head_of 2) m
  is_number : {w m : List ℕ} → Word number w → Scalar (w ++ m) (head_of 3) m
  string : {w m : List ℕ} → Word chars w → Scalar (quote ∷ (w ++ (quote ∷ m))) (head_of 4) m

-- arrays and objects, with their brackets
pub data Container : Type 0 where
  array object : Container

abbrev pub kind_of : Container → ℕ
kind_of array = array_kind
kind_of object = record_kind

abbrev pub opener : Container → ℕ
opener array = 0x5B
opener object = 0x7B

abbrev pub closer : Container → ℕ
closer array = 0x5D
closer object = 0x7D

-- White space before [ and { and behind ] and } is that of what stands around them. `name` numbers a key by the bytes between its quotes.
module _ (name : List ℕ → ℕ) where
  mutual
    -- value: its head and content
    pub data Value : List ℕ → Head → Values → List ℕ → Type 0 where
      scalar : {s m : List ℕ} {head : Head} → Scalar s head m → Value s head none m
      container : {o : Container} {s m : List ℕ} {vs : Values} → Content o s vs m → Value (opener o ∷ s) (head_of (kind_of o)) vs m

    -- behind [ or {
    pub data Content : Container → List ℕ → Values → List ℕ → Type 0 where
      nothing : {o : Container} {s m : List ℕ} → Ws s (closer o ∷ m) → Content o s none m
      some : {o : Container} {s t u m : List ℕ} {head : Head} {key : ℕ} {c vs : Values} →
          Ws s t → Item o t head key c u → Others o u vs m → Content o s (value head key c vs) m

    -- an array's value, or an object's member: string name-separator value
    pub data Item : Container → List ℕ → Head → ℕ → Values → List ℕ → Type 0 where
      element : {s m : List ℕ} {head : Head} {c : Values} → Value s head c m → Item array s head 0 c m
      member : {w s t u m : List ℕ} {head : Head} {c : Values} →
          Word chars w → Ws s (0x3A ∷ t) → Ws t u → Value u head c m → Item object (quote ∷ (w ++ (quote ∷ s))) head (name w) c m

    -- *( value-separator .. ) and the closing bracket
    pub data Others : Container → List ℕ → Values → List ℕ → Type 0 where
      closed : {o : Container} {s m : List ℕ} → Ws s (closer o ∷ m) → Others o s none m
      next : {o : Container} {s t u v m : List ℕ} {head : Head} {key : ℕ} {c vs : Values} →
          Ws s (0x2C ∷ t) → Ws t u → Item o u head key c v → Others o v vs m → Others o s (value head key c vs) m

  -- messages, none or more, with at least one white-space byte behind each
  pub data Messages : List ℕ → Values → Type 0 where
    done : Messages [] none
    message : {s t u : List ℕ} {b : ℕ} {head : Head} {c vs : Values} →
        Value s head c (b ∷ t) → is_space b ≡ true → Ws t u → Messages u vs → Messages s (value head 0 c vs)

  -- the whole text, with its messages
  pub data Text : List ℕ → Values → Type 0 where
    text : {s t : List ℕ} {ms : Values} → Ws s t → Messages t ms → Text s ms
