-- What the functions between two items answer.
use Rattle.std.specs.Prelude.{◌≡◌, Bool, true, false, cond, Option, None, Some, Result, Ok, Err, List, [], ◌∷◌, ℕ, ◌+◌, ◌*◌, ◌-◌, ◌≤◌, ◌<◌, eqb, length, get_or, take, drop}
use Rattle.value_table.specs.Value.{record_size, Head, Values, none, value, size, max_depth, max_length}
use Rattle.json_theory.specs.Grammar.{is_space, Container, head_of}
use Rattle.json_theory.specs.Parts.{Start, open'}
use Rattle.json_theory.specs.Steps.{Stack, base, level, add, State, gap, after, first, need, colon, begin}
use Rattle.json_theory.specs.Book.{book_records}
use Rattle.json_theory.specs.Reader.{depth, written, items_in, fine, fault_at, read_from}
use Rattle.json_theory.specs.Inside.Scanning.{byte_at, Leads, Breaks}
use Rattle.text_reader.specs.Answer.{number_of_text_fault, outcome_of_text}
use Rattle.text_reader.specs.declared.call.TextError.{TextError}
use Rattle.byte_records.specs.Number.{zeros}
use Rattle.json_theory.specs.Reader.{Read}
use Rattle.text_reader.specs.Inside.Progress.{ItemAt, reads_from, is_object, kind_started, Between, LevelIs, LevelsHold, AwaitsValue, Ready}
use Rattle.text_reader.specs.Inside.Laid.{TableHolds}
use Rattle.json_tokens.specs.declared.scan.BadByte.{BadByte}
use Rattle.text_reader.specs.Inside.Marks.{mark_size, MarksHold}
use Rattle.text_reader.specs.declared.fault.TextFault.TheVariants.{Grammar}
use Rattle.text_reader.specs.declared.fault.Faulty.{Faulty}
use Rattle.text_reader.specs.declared.Level.{Level}
use Rattle.text_reader.specs.declared.field.Key.{Key}
use Rattle.text_reader.specs.declared.value.Kind.{Kind}
use Rattle.text_reader.specs.declared.value.Kind.TheVariants.{Null, Boolean, Number, String, Record, Array}
use Rattle.text_reader.specs.declared.value.Begun.{Begun}
use Rattle.text_reader.specs.declared.value.Begun.TheVariants.{Scalar, Opened}

-- the kinds of values, by the numbers that their records have, and 0 for none
abbrev pub kind_number : Kind → ℕ
kind_number Null = 1
kind_number Boolean = 2
kind_number Number = 3
kind_number String = 4
kind_number Record = 5
kind_number Array = 6

abbrev pub kind_or_none : Option Kind → ℕ
kind_or_none None = 0
kind_or_none (Some kind) = kind_number kind

-- the text ends, and these are all its messages
pub record EndsFine (text : List ℕ) (σ : State) (p : ℕ) (around : Stack) : Type 0 where
  pub messages : Values
  pub is_base : around ≡ base messages
  pub reads : (name : List ℕ → ℕ) (room : ℕ) → read_from name room σ p (drop p text) ≡ fine messages

abbrev pub NextIs : List ℕ → State → ℕ → Stack → Result (Option ℕ) BadByte → Type 0
NextIs text σ p around (Ok None) = EndsFine text σ p around
NextIs text σ p around (Ok (Some q)) = ItemAt text σ p around q
NextIs text σ p around (Err bad) = Breaks text σ p bad.at

-- the reading from state σ at byte p is refused
abbrev pub RefusedBy : (text book : List ℕ) → ℕ → State → ℕ → Faulty → Type 0
RefusedBy text book room σ p faulty = reads_from text book room σ p ≡ fault_at (number_of_text_fault faulty.why) faulty.at

-- a new key of the innermost level has been read and marked, and reading goes on in state τ at byte q
pub record KeyRead (text book seen : List ℕ) (room : ℕ) (σ : State) (p : ℕ) (around : Stack) (k : ℕ) (τ : State) (q : ℕ) : Type 0 where
  pub reads : reads_from text book room σ p ≡ reads_from text book room τ q
  pub marks : MarksHold (book_records book) seen around (k ∷ [])

-- where a key that was found from byte p on has led
abbrev pub KeyPlace : List ℕ → ℕ → Result Key Faulty → Type 0
KeyPlace text p (Ok key) = (p ≤ key.end) × (key.end ≤ length text)
KeyPlace text p (Err _) = Unit {0}

-- up to its closing quote, and up to its value
abbrev pub NewKeyIs : (text book seen : List ℕ) → ℕ → State → ℕ → Stack → Result Key Faulty → Type 0
NewKeyIs text book seen room σ p around (Ok key) = KeyRead text book seen room σ p around key.number (colon key.number around) key.end
NewKeyIs text book seen room σ p around (Err faulty) = RefusedBy text book room σ p faulty

abbrev pub FieldKeyIs : (text book seen : List ℕ) → ℕ → State → ℕ → Stack → Result Key Faulty → Type 0
FieldKeyIs text book seen room σ p around (Ok key) =
    KeyRead text book seen room σ p around key.number (need key.number around) key.end × (is_space (byte_at text key.end) ≡ false)
FieldKeyIs text book seen room σ p around (Err faulty) = RefusedBy text book room σ p faulty

-- the keys of the innermost level have their marks, and their mark is a number of two bytes
pub record LevelFits (listed : ℕ) (seen : List ℕ) (lv : Level) : Type 0 where
  pub room : mark_size * (max_depth * listed) ≤ length seen
  pub small : length seen ≤ 2 * max_length
  pub shallow : lv.depth ≤ max_depth
  pub deep : lv.object ≡ true → 1 ≤ lv.depth
  pub record-low : lv.record + 1 < 65536

-- the key of an item has been read and marked, or there is none, and its value begins at byte q
pub record ItemKey (text book seen : List ℕ) (room : ℕ) (σ : State) (p : ℕ) (around : Stack) (k q : ℕ) : Type 0 where
  pub state : State
  pub awaits : AwaitsValue state k around
  pub read : KeyRead text book seen room σ p around k state q
  pub byte : is_space (byte_at text q) ≡ false
  pub ready : Ready text state q

abbrev pub ItemKeyIs : (text book seen : List ℕ) → ℕ → State → ℕ → Stack → Result Key Faulty → Type 0
ItemKeyIs text book seen room σ p around (Ok key) = ItemKey text book seen room σ p around key.number key.end
ItemKeyIs text book seen room σ p around (Err faulty) = RefusedBy text book room σ p faulty

-- a scalar has been read up to byte q, and has its record
pub record ScalarRead (text book table : List ℕ) (room : ℕ) (σ : State) (p key : ℕ) (around : Stack) (q : ℕ) : Type 0 where
  pub head : Head
  pub reads : reads_from text book room σ p ≡ reads_from text book room (after (add (value head key none none) around)) q
  pub holds : TableHolds table (add (value head key none none) around)

-- an array or object is open at byte q, and has its record
pub record OpenRead (text book table : List ℕ) (room : ℕ) (σ : State) (p key : ℕ) (around : Stack) (q : ℕ) (is_obj : Bool) : Type 0 where
  pub container : Container
  pub is-object : is_obj ≡ is_object container
  pub reads : reads_from text book room σ p ≡ reads_from text book room (first container key around) q
  pub holds : TableHolds table (level container key none around)
  pub shallow : depth around < max_depth

abbrev pub ValueIs : (text book table : List ℕ) → ℕ → State → (p key : ℕ) → Stack → Result Begun Faulty → Type 0
ValueIs text book table room σ p key around (Ok (Scalar q)) = ScalarRead text book table room σ p key around q
ValueIs text book table room σ p key around (Ok (Opened q is_obj)) = OpenRead text book table room σ p key around q is_obj
ValueIs text book table room σ p key around (Err faulty) = RefusedBy text book room σ p faulty

-- where a value has led from byte p on
abbrev pub ValuePlace : List ℕ → ℕ → Result Begun Faulty → Type 0
ValuePlace text p (Ok (Scalar q)) = (p < q) × (q ≤ length text)
ValuePlace text p (Ok (Opened q _)) = (p < q) × (q ≤ length text)
ValuePlace text p (Err _) = Unit {0}

-- behind the first byte of a value, at p
abbrev pub BegunIs : List ℕ → Start → (p key : ℕ) → Stack → Result Begun Faulty → Type 0
BegunIs text st p key around (Ok (Scalar q)) = Leads text (begin st key around) p (after (add (value (head_of (kind_started st)) key none none) around)) q
BegunIs text st p key around (Ok (Opened q is_obj)) = (o : Container) × (st ≡ open' o) × (is_obj ≡ is_object o) × (q ≡ p)
BegunIs text st p key around (Err faulty) = (faulty.why ≡ Grammar) × Breaks text (begin st key around) p faulty.at

-- an item has been read: a scalar up to byte q, or an array or object that is open there; it has its record, and its key is marked
pub record ScalarItem (text book table seen : List ℕ) (room : ℕ) (σ : State) (p : ℕ) (around : Stack) (q : ℕ) : Type 0 where
  pub key : ℕ
  pub read : ScalarRead text book table room σ p key around q
  pub marks : MarksHold (book_records book) seen (add (value read.head key none none) around) []

pub record OpenItem (text book table seen : List ℕ) (room : ℕ) (σ : State) (p : ℕ) (around : Stack) (q : ℕ) (is_obj : Bool) : Type 0 where
  pub key : ℕ
  pub read : OpenRead text book table room σ p key around q is_obj
  pub marks : MarksHold (book_records book) seen (level read.container key none around) []

abbrev pub ItemIs : (text book table seen : List ℕ) → ℕ → State → ℕ → Stack → Result Begun Faulty → Type 0
ItemIs text book table seen room σ p around (Ok (Scalar q)) = ScalarItem text book table seen room σ p around q
ItemIs text book table seen room σ p around (Ok (Opened q is_obj)) = OpenItem text book table seen room σ p around q is_obj
ItemIs text book table seen room σ p around (Err faulty) = RefusedBy text book room σ p faulty

-- How far the text is read, between two items: the state, the open values, their records and marks, and that reading on from here is
-- reading the whole text.
pub record ReadUpTo (text book table seen : List ℕ) (room : ℕ) (levels : List Level) (p count : ℕ) (lv : Level) : Type 0 where
  pub state : State
  pub around : Stack
  pub between : Between (eqb lv.items 0) state around
  pub reads : reads_from text book room state p ≡ reads_from text book room (gap none) 0
  pub place : p ≤ length text
  pub inner : LevelIs around lv
  pub shallow : lv.depth ≤ max_depth
  pub counted : written around ≡ count
  pub outer : LevelsHold levels around
  pub holds : TableHolds table around
  pub marks : MarksHold (book_records book) seen around []

-- the whole text has been read: these are its messages, and the table begins with them
pub record AllRead (text book table : List ℕ) (room n : ℕ) : Type 0 where
  pub messages : Values
  pub reads : reads_from text book room (gap none) 0 ≡ fine messages
  pub counted : size messages ≡ n
  pub holds : TableHolds table (base messages)

abbrev pub ReadIs : (text book table : List ℕ) → ℕ → Result ℕ Faulty → Type 0
ReadIs text book table room (Ok n) = AllRead text book table room n
ReadIs text book table room (Err faulty) = RefusedBy text book room (gap none) 0 faulty

-- before the rest of the table is cleared: the answer is that of r, and the table begins with the records that it counts
pub record ReadInFront (r : Read) (answered : Result ℕ TextError) (table : List ℕ) : Type 0 where
  pub outcome : outcome_of_text answered ≡ r.outcome
  pub front : take (record_size * r.outcome.count) table ≡ take (record_size * r.outcome.count) r.table
  pub room : record_size * r.outcome.count ≤ length table
  pub rest : drop (record_size * r.outcome.count) r.table ≡ zeros (length table - record_size * r.outcome.count)
