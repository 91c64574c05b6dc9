-- The pass over a type under label, as the contracts inside state it: its bytes are read under kind, and added to what is there.
use Rattle.std.specs.Prelude.{Result, Ok, Err, ◌≡◌, Bool, cond, List, ◌++◌, ℕ, ◌+◌, ◌*◌, ◌<◌, ltb, length}
use Rattle.counting_theory.specs.Payload.{Payload}
use Rattle.counting_theory.specs.Trie.{node, size, insert, add}
use Rattle.counting_theory.specs.Inside.TrieLaws.{append}
use Rattle.counting_theory.specs.Label.{Label, Counting, CountingType}
use Rattle.counting_theory.specs.declared.equivalence.Equivalence.TheVariants.{Kind as by_kind, Label as by_label}
use Rattle.counting_theory.specs.Encoding.{type_size, type_payload, encode, type_of}
use Rattle.type_arena.specs.Inside.Arena.{label_at}
use Rattle.type_arena.specs.Inside.Addend.{body}
use Rattle.inference.specs.Inside.Inferring.{ArenaHolds, Starts, Grown}
use Rattle.folding.specs.declared.pass.Folded.{Folded}
use Rattle.folding.specs.declared.pass.Placed.{Placed}
use Rattle.type_arena.specs.declared.record_store.NoRoom.{NoRoom}
use Rattle.folding.specs.Fold.{kind_type}

-- if something stands at record i inside the sibling at `from`, a search inside may begin there
pub record Inside (i from : ℕ) (f : CountingType) : Type 0 where
  pub begins : (first : CountingType) (l : Label) (a : Payload) (c s : CountingType) → f ≡ append first (node l a c s) → from ≡ size first →
      i < size c → Starts i c

-- where it does begin, if the label was found there or not, with so many records inside
unfoldable pub start_inside : Bool → ℕ → ℕ → ℕ
start_inside same i held = cond same (cond (ltb i held) i 0) 0

-- the lower of two records, or just the second
unfoldable pub lowest_of : Bool → ℕ → ℕ → ℕ
lowest_of first low p = cond first p (cond (ltb p low) p low)

-- some siblings under kind to which a run is to be added, and one of them, or the end, at record `from`; the same, to be searched only;
-- and with a record inside that one
pub record HeldAt (field : Bool) (a : List ℕ) (n rest from : ℕ) : Type 0 where
  pub f : CountingType
  pub q : List ℕ
  pub free : List ℕ
  pub holds : ArenaHolds by_kind field a n rest f q free
  pub starts : Starts from f

pub record SomeHeld (field : Bool) (a : List ℕ) (n from : ℕ) : Type 0 where
  pub rest : ℕ
  pub held : HeldAt field a n rest from

pub record HeldInside (field : Bool) (a : List ℕ) (n rest from i : ℕ) : Type 0 where
  pub held : HeldAt field a n rest from
  pub inside : Inside i from held.f

-- the label of the first addend or field of x, and the siblings f with it and what stands inside it
abbrev pub first_label : List ℕ → Label
first_label x = label_at by_kind x 0

abbrev pub with_first : List ℕ → CountingType → CountingType
with_first x f = insert Counting (first_label x) (type_payload x 0) (add Counting (type_of by_kind (body x))) f

-- the siblings g are there, and a search may begin at the last number; or there is too little room for them
abbrev pub FoldedRun : CountingType → List ℕ → ℕ → Result Folded NoRoom → List ℕ → Type 0
FoldedRun g q rest (Err _) b = length b < type_size * (size g + rest)
FoldedRun g q rest (Ok folded) b = Grown g q folded.records b × Starts folded.low g

-- the same after one addend or field at this place, with where a search inside it may begin
abbrev pub FoldedFirst : CountingType → ℕ → List ℕ → ℕ → Result Placed NoRoom → List ℕ → Type 0
FoldedFirst g place q rest (Err _) b = length b < type_size * (size g + rest)
FoldedFirst g place q rest (Ok placed) b = Grown g q placed.records b × (placed.at ≡ place) × Inside placed.inside placed.at g

-- an arena begins with the n records of the folded type of b
pub record FoldedFront (b : List ℕ) (n : ℕ) (arena : List ℕ) : Type 0 where
  pub count : n ≡ size (kind_type (type_of by_label b))
  pub free : List ℕ
  pub bytes : arena ≡ encode (kind_type (type_of by_label b)) ++ free
