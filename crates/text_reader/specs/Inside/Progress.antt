-- How far a text has been read, as the loop holds it: the state of the reading between two items, and the open values.
use Rattle.std.specs.Prelude.{◌≡◌, Bool, true, false, cond, List, ℕ, ◌≤◌, ◌<◌, eqb, length, get_or, drop}
use Rattle.value_table.specs.Value.{Values, none}
use Rattle.json_theory.specs.Grammar.{Container, array, object, kind_of, closer, is_space}
use Rattle.json_theory.specs.Parts.{Start, letters, number, string, open', nothing}
use Rattle.json_theory.specs.Steps.{Stack, base, level, State, gap, after, need, first, next_key, in_key, colon, in_string, in_number, in_literal, wrong}
use Rattle.json_theory.specs.Book.{key_number}
use Rattle.json_theory.specs.Reader.{depth, written, items_in, Reading, read_from}
use Rattle.json_theory.specs.Inside.Scanning.{byte_at, Leads}
use Rattle.text_reader.specs.declared.Level.{Level}

-- the reading of a text from state σ at byte p on, with the book's numbers
abbrev pub reads_from : (text book : List ℕ) → ℕ → State → ℕ → Reading
reads_from text book room σ p = read_from (key_number book) room σ p (drop p text)

abbrev pub is_object : Container → Bool
is_object array = false
is_object object = true

-- the state between two items of the innermost level: at the start, right behind a bracket, or behind a value
pub data Between : Bool → State → Stack → Type 0 where
  at_start : Between true (gap none) (base none)
  opened : {o : Container} {key : ℕ} {outer : Stack} → Between true (first o key outer) (level o key none outer)
  behind : {around : Stack} → Between false (after around) around

-- the state before an item of the innermost level
pub data AwaitsItem : State → Stack → Type 0 where
  message : {ms : Values} → AwaitsItem (gap ms) (base ms)
  first_item : {o : Container} {key : ℕ} {outer : Stack} → AwaitsItem (first o key outer) (level o key none outer)
  element : {key : ℕ} {done : Values} {outer : Stack} → AwaitsItem (need 0 (level array key done outer)) (level array key done outer)
  field : {key : ℕ} {done : Values} {outer : Stack} → AwaitsItem (next_key (level object key done outer)) (level object key done outer)

-- the byte c does not shut the innermost level
abbrev pub StaysOpen : Stack → ℕ → Type 0
StaysOpen (base ms) c = Unit {0}
StaysOpen (level o key _ outer) c = eqb c (closer o) ≡ false

-- an item may begin at byte p: a message only before the text's end, and right behind a bracket only what does not shut it again
abbrev pub Ready : List ℕ → State → ℕ → Type 0
Ready text (gap ms) p = p < length text
Ready text (after around) p = Unit {0}
Ready text (need key around) p = Unit {0}
Ready text (first o key outer) p = eqb (byte_at text p) (closer o) ≡ false
Ready text (next_key around) p = Unit {0}
Ready text (in_key part spelled around) p = Unit {0}
Ready text (colon key around) p = Unit {0}
Ready text (in_string part around) p = Unit {0}
Ready text (in_number part around) p = Unit {0}
Ready text (in_literal l ls around) p = Unit {0}
Ready text wrong p = Unit {0}

-- reading on from state σ at byte p comes to an item at byte q, whose first byte is no white space
pub record ItemAt (text : List ℕ) (σ : State) (p : ℕ) (around : Stack) (q : ℕ) : Type 0 where
  pub state : State
  pub awaits : AwaitsItem state around
  pub leads : Leads text σ p state q
  pub from : p ≤ q
  pub upto : q ≤ length text
  pub byte : is_space (byte_at text q) ≡ false
  pub ready : Ready text state q

-- the state before a value of the innermost level, with its key
pub data AwaitsValue : State → ℕ → Stack → Type 0 where
  message_value : {ms : Values} → AwaitsValue (gap ms) 0 (base ms)
  first_element : {key : ℕ} {outer : Stack} → AwaitsValue (first array key outer) 0 (level array key none outer)
  needed : {key : ℕ} {around : Stack} → AwaitsValue (need key around) key around

-- the kind of the value that a byte begins, or 0
abbrev pub kind_started : Start → ℕ
kind_started (letters kind l ls) = kind
kind_started (number part) = 3
kind_started string = 4
kind_started (open' o) = kind_of o
kind_started nothing = 0

-- whether the innermost level is an object
abbrev pub in_object : Stack → Bool
in_object (base ms) = false
in_object (level o key _ outer) = is_object o

-- the record of the innermost level
abbrev pub own_record : Stack → ℕ
own_record (base ms) = 0
own_record (level o key _ outer) = written outer

-- the innermost level as the loop holds it
pub record LevelIs (around : Stack) (lv : Level) : Type 0 where
  pub depth_is : depth around ≡ lv.depth
  pub record_is : own_record around ≡ lv.«record»
  pub object-is : in_object around ≡ lv.object
  pub items-are : items_in around ≡ lv.items

abbrev pub no_level : Level
no_level = record { «record» = 0; object = false; depth = 0; items = 0 }

-- the level around each open value, by depth
abbrev pub LevelsHold : List Level → Stack → Type 0
LevelsHold levels (base ms) = Unit {0}
LevelsHold levels (level o key _ outer) = LevelIs outer (get_or levels (depth outer) no_level) × LevelsHold levels outer

-- whether the byte c shuts the innermost of d levels
abbrev pub shuts : ℕ → Bool → ℕ → Bool
shuts d is_obj c = cond (eqb d 0) false (eqb c (cond is_obj 0x7D 0x5D))
