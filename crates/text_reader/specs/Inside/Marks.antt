-- Marks at the keys of open objects, so that a repeated key is seen without a search. Each level of depth has a number for each key of the
-- book, and an object marks a key that it has with the number behind that of its own record. No two objects have one mark, so nothing
-- has to be cleared.
use Rattle.std.specs.Prelude.{◌≡◌, List, [], ◌∷◌, ◌++◌, ℕ, ◌+◌, ◌*◌, ◌-◌, ◌≤◌, ◌<◌, eqb, length, get_or}
use Rattle.byte_records.specs.Inside.Numbers.{numbers_of}
use Rattle.value_table.specs.Value.{keys, member, max_depth, max_length}
use Rattle.json_theory.specs.Steps.{Stack, base, level}
use Rattle.json_theory.specs.Reader.{depth, written}

abbrev pub mark_size : ℕ
mark_size = 2

-- the marks of `listed` keys at each level, and that of key k at one of them
abbrev pub marks_of : ℕ → List ℕ → List ℕ
marks_of listed seen = numbers_of mark_size (max_depth * listed) seen

abbrev pub slot_of : (listed d k : ℕ) → ℕ
slot_of listed d k = d * listed + (k - 1)

-- at this level the keys ks have this mark, and no others
abbrev pub RowMarked : (listed : ℕ) → List ℕ → (d mark : ℕ) → List ℕ → Type 0
RowMarked listed marks d mark ks = (k : ℕ) → 1 ≤ k → k ≤ listed → eqb (get_or marks (slot_of listed d k) 0) mark ≡ member k ks

-- Each level has marked the keys of its values so far, and of the one that is being read inside it; `begun` is that of the innermost
-- level, if there is one.
abbrev pub Marked : ℕ → List ℕ → Stack → List ℕ → Type 0
Marked listed marks (base ms) begun = Unit {0}
Marked listed marks (level o key done outer) begun =
    RowMarked listed marks (depth outer) (written outer + 1) (keys done ++ begun) × Marked listed marks outer (key ∷ [])

-- that, and no mark is above the number of records
pub record MarksHold (listed : ℕ) (seen : List ℕ) (around : Stack) (begun : List ℕ) : Type 0 where
  pub room : mark_size * (max_depth * listed) ≤ length seen
  pub low : (i : ℕ) → get_or (marks_of listed seen) i 0 ≤ written around
  pub marked : Marked listed (marks_of listed seen) around begun

-- key k of `listed` at a level has its place among the marks
pub record Slot (listed : ℕ) (seen : List ℕ) (d k : ℕ) : Type 0 where
  pub room : mark_size * (max_depth * listed) ≤ length seen
  pub small : length seen ≤ 2 * max_length
  pub level-low : d < max_depth
  pub some : 1 ≤ k
  pub listed-key : k ≤ listed
