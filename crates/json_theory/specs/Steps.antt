-- A text is read from the left, byte by byte.
use Rattle.std.specs.Prelude.{Bool, cond, List, [], ◌∷◌, ◌++◌, ℕ, eqb}
use Rattle.value_table.specs.Value.{Values, none, value, join_values}
use Rattle.json_theory.specs.Grammar.{quote, is_space, Container, array, object, head_of, kind_of, closer}
use Rattle.json_theory.specs.Parts.{Turn, go, ended, stuck, StringPart, plain, next_in_string, NumberPart, next_in_number, may_end, Start, letters, number, string, open', nothing, start}

-- The open arrays and objects around a place in the text, the innermost first, each with its own key and the values so far.
pub data Stack : Type 0 where
  base : (ms : Values) → Stack
  level : (o : Container) (key : ℕ) (done : Values) (outer : Stack) → Stack

abbrev pub add : Values → Stack → Stack
add v (base ms) = base (join_values ms v)
add v (level o key done outer) = level o key (join_values done v) outer

-- Between messages; behind a value; before a value that has this key; right behind [ or {; behind a comma in an object; in a key,
-- behind these bytes of it; behind a key; in a string, a number, or a literal, with its next letters. A string, number or
-- literal counts among the values from its first byte on.
pub data State : Type 0 where
  gap : (ms : Values) → State
  after : (around : Stack) → State
  need : (key : ℕ) (around : Stack) → State
  first : (o : Container) (key : ℕ) (outer : Stack) → State
  next_key : (around : Stack) → State
  in_key : (part : StringPart) (spelled : List ℕ) (around : Stack) → State
  colon : (key : ℕ) (around : Stack) → State
  in_string : (part : StringPart) (around : Stack) → State
  in_number : (part : NumberPart) (around : Stack) → State
  in_literal : (l : ℕ) (ls : List ℕ) (around : Stack) → State
  wrong : State

-- the first byte of a value
unfoldable pub begin : Start → ℕ → Stack → State
begin (letters kind l ls) key around = in_literal l ls (add (value (head_of kind) key none none) around)
begin (number part) key around = in_number part (add (value (head_of 3) key none none) around)
begin string key around = in_string plain (add (value (head_of 4) key none none) around)
begin (open' o) key around = first o key around
begin nothing key around = wrong

-- the first byte of an element or a member
unfoldable pub item : Container → ℕ → Stack → State
item array c around = begin (start c) 0 around
item object c around = cond (eqb c quote) (in_key plain [] around) wrong

unfoldable pub behind_comma : Container → Stack → State
behind_comma array around = need 0 around
behind_comma object around = next_key around

-- an array or object ends
unfoldable pub shut : Container → ℕ → Values → Stack → State
shut o key done outer = after (add (value (head_of (kind_of o)) key done none) outer)

unfoldable pub step_after : Stack → ℕ → State
step_after (base ms) c = cond (is_space c) (gap ms) wrong
step_after (level o key done outer) c =
    cond (is_space c) (after (level o key done outer))
    (cond (eqb c 0x2C) (behind_comma o (level o key done outer))
    (cond (eqb c (closer o)) (shut o key done outer) wrong))

unfoldable pub step_literal : List ℕ → Stack → State
step_literal [] around = after around
step_literal (l ∷ ls) around = in_literal l ls around

unfoldable pub string_turn : Turn StringPart → Stack → State
string_turn (go part) around = in_string part around
string_turn ended around = after around
string_turn stuck around = wrong

unfoldable pub number_turn : Turn NumberPart → Bool → ℕ → Stack → State
number_turn (go part) end c around = in_number part around
number_turn ended end c around = cond end (step_after around c) wrong
number_turn stuck end c around = cond end (step_after around c) wrong

module _ (name : List ℕ → ℕ) where
  unfoldable pub key_turn : Turn StringPart → ℕ → List ℕ → Stack → State
  key_turn (go part) c spelled around = in_key part (spelled ++ (c ∷ [])) around
  key_turn ended c spelled around = colon (name spelled) around
  key_turn stuck c spelled around = wrong

  unfoldable pub step : State → ℕ → State
  step (gap ms) c = cond (is_space c) (gap ms) (begin (start c) 0 (base ms))
  step (after around) c = step_after around c
  step (need key around) c = cond (is_space c) (need key around) (begin (start c) key around)
  step (first o key outer) c =
      cond (is_space c) (first o key outer) (cond (eqb c (closer o)) (shut o key none outer) (item o c (level o key none outer)))
  step (next_key around) c = cond (is_space c) (next_key around) (item object c around)
  step (in_key part spelled around) c = key_turn (next_in_string part c) c spelled around
  step (colon key around) c = cond (is_space c) (colon key around) (cond (eqb c 0x3A) (need key around) wrong)
  step (in_string part around) c = string_turn (next_in_string part c) around
  step (in_number part around) c = number_turn (next_in_number part c) (may_end part) c around
  step (in_literal l ls around) c = cond (eqb c l) (step_literal ls around) wrong
  step wrong c = wrong
