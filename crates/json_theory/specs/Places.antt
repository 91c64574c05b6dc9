-- Where a text is refused with 6, 7, 11, 13 and 15, in the grammar's terms: which value begins at that byte, or which key ends there, and
-- what is wrong with it.
use Rattle.std.specs.Prelude.{◌≡◌, true, false, List, ◌∷◌, ◌++◌, ℕ, ◌*◌, ◌/◌, ◌≤◌, ◌<◌, length}
use Rattle.byte_records.specs.Number.{Bytes}
use Rattle.value_table.specs.Value.{Head, Values, none, value, join_values, Valid, size, count, keys, member, max_depth, max_fields, record_size}
use Rattle.json_theory.specs.Rx.{Word}
use Rattle.json_theory.specs.Grammar.{chars, quote, is_space, Ws, Container, array, object, head_of, kind_of, opener, Value, Item}
use Rattle.json_theory.specs.Steps.{Stack, base, level, add}
use Rattle.json_theory.specs.Book.{key_number}
use Rattle.json_theory.specs.Reader.{depth, items_in, keys_in, read}

-- A place in a text is given by the text from there on, with the open arrays and objects around it and the values before it in each.
module _ (name : List ℕ → ℕ) (text : List ℕ) where
  mutual
    -- here a message, an element or a member may begin
    pub data ItemAt : Stack → List ℕ → Type 0 where
      first_message : {s : List ℕ} → Ws text s → ItemAt (base none) s
      next_message : {s t u : List ℕ} {b : ℕ} {head : Head} {ms c : Values} →
          ItemAt (base ms) s → Value name s head c (b ∷ t) → is_space b ≡ true → Ws t u → ItemAt (add (value head 0 c none) (base ms)) u
      first_item : {o : Container} {s t : List ℕ} {key : ℕ} {outer : Stack} →
          ValueAt key outer (opener o ∷ s) → Ws s t → ItemAt (level o key none outer) t
      next_item : {o : Container} {s t u v : List ℕ} {head : Head} {k key : ℕ} {c done : Values} {outer : Stack} →
          ItemAt (level o key done outer) s → Item name o s head k c t → Ws t (0x2C ∷ u) → Ws u v →
          ItemAt (add (value head k c none) (level o key done outer)) v

    -- here a value with this key may begin; outside objects its key is 0
    pub data ValueAt : ℕ → Stack → List ℕ → Type 0 where
      as_message : {s : List ℕ} {ms : Values} → ItemAt (base ms) s → ValueAt 0 (base ms) s
      as_element : {s : List ℕ} {key : ℕ} {done : Values} {outer : Stack} →
          ItemAt (level array key done outer) s → ValueAt 0 (level array key done outer) s
      as_member : {w s t u : List ℕ} {around : Stack} → KeyAt w around (quote ∷ s) → Ws s (0x3A ∷ t) → Ws t u → ValueAt (name w) around u

    -- here stands the closing quote of the key w
    pub data KeyAt : List ℕ → Stack → List ℕ → Type 0 where
      key_end : {w s : List ℕ} {key : ℕ} {done : Values} {outer : Stack} →
          ItemAt (level object key done outer) (quote ∷ (w ++ (quote ∷ s))) → Word chars w → KeyAt w (level object key done outer) (quote ∷ s)

-- some value begins with byte c
abbrev pub Begins : (List ℕ → ℕ) → ℕ → Type 0
Begins name c = (s : List ℕ) × (head : Head) × (content : Values) × (m : List ℕ) × Value name (c ∷ s) head content m

-- the key that a value may have: 0, or in an object that is not full one that is listed and that no member before has
abbrev pub Keyed : ℕ → Stack → Type 0
Keyed key (base ms) = key ≡ 0
Keyed key (level array k _ outer) = key ≡ 0
Keyed key (level object k done outer) = (1 ≤ key) × (member key (keys done) ≡ false) × (count done < max_fields)

-- the messages, if the open arrays and objects ended here, with v behind the values of the innermost
unfoldable pub ended_with : Values → Stack → Values
ended_with v (base ms) = join_values ms v
ended_with v (level o key done outer) = ended_with (value (head_of (kind_of o)) key (join_values done v) none) outer

abbrev pub so_far : Stack → Values
so_far around = ended_with none around

-- the values that began before are valid and fit into a table of n bytes
pub record InOrder (n : ℕ) (around : Stack) : Type 0 where
  pub valid : Valid (so_far around)
  pub room : record_size * size (so_far around) ≤ n

-- A value begins at byte q, nothing before it is wrong, and this is wrong with it.
pub record ValueRefused (text book : List ℕ) (n q : ℕ) (Wrong : Stack → Type 0) : Type 0 where
  pub seen : List ℕ
  pub c : ℕ
  pub left : List ℕ
  pub key : ℕ
  pub around : Stack
  pub parts : text ≡ seen ++ (c ∷ left)
  pub place : q ≡ length seen
  pub stands : ValueAt (key_number book) text key around (c ∷ left)
  pub begins : Begins (key_number book) c
  pub keyed : Keyed key around
  pub in_order : InOrder n around
  pub wrong : Wrong around

-- A key ends at byte q, nothing before it is wrong, and this is wrong with it.
pub record KeyRefused (text book : List ℕ) (n q : ℕ) (Wrong : List ℕ → Stack → Type 0) : Type 0 where
  pub seen : List ℕ
  pub left : List ℕ
  pub spelled : List ℕ
  pub around : Stack
  pub parts : text ≡ seen ++ (quote ∷ left)
  pub place : q ≡ length seen
  pub stands : KeyAt (key_number book) text spelled around (quote ∷ left)
  pub in_order : InOrder n around
  pub wrong : Wrong spelled around

-- what a refusal with number f says of its place q
abbrev pub Means : ℕ → ((text book : List ℕ) (n q : ℕ) → Type 0) → Type 0
Means f Meaning = (text book : List ℕ) (n : ℕ) → Bytes text → (read text book n).outcome.number ≡ f → Meaning text book n (read text book n).outcome.place

-- 7: its depth would be 33
abbrev pub SevenMeans : Type 0
SevenMeans = Means 7 (λ text book n q. ValueRefused text book n q (λ around. depth around ≡ max_depth))

-- 11: its depth would be at most 32, and the values before it fill the table
abbrev pub ElevenMeans : Type 0
ElevenMeans = Means 11 (λ text book n q. ValueRefused text book n q (λ around. (depth around < max_depth) × (size (so_far around) ≡ n / record_size)))

-- 13: the book does not list it
abbrev pub ThirteenMeans : Type 0
ThirteenMeans = Means 13 (λ text book n q. KeyRefused text book n q (λ w around. key_number book w ≡ 0))

-- 6: it is listed, and a member before it in its object has it
abbrev pub SixMeans : Type 0
SixMeans = Means 6 (λ text book n q. KeyRefused text book n q (λ w around. (1 ≤ key_number book w) × (member (key_number book w) (keys_in around) ≡ true)))

-- 15: it is listed, no member before it has it, and its object has as many members as it may
abbrev pub FifteenMeans : Type 0
FifteenMeans = Means 15 (λ text book n q. KeyRefused text book n q (λ w around.
    (1 ≤ key_number book w) × (member (key_number book w) (keys_in around) ≡ false) × (items_in around ≡ max_fields)))
