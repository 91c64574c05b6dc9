-- A whole type is added to nothing: what stands in front of the arena is its kind type, and the answer follows.
use mathlib.Core.Path.{◌≡◌, refl, ◌∙◌, ap}
use mathlib.Core.Bool.{true, false, not}
use mathlib.Core.List.{List, [], ◌++◌}
use Prim.Native.Nat.{ℕ, ◌*◌, ◌≤◌, ◌<◌}
use native.Mathlib.Omega.{arith}
use lib.ListN.{length, take, length-append}
use lib.Seq.{take_at}
use Rattle.value_table.specs.Value.{max_length}
use Rattle.folding.specs.declared.pass.Folded.{Folded}
use Rattle.std.proofs.Common.{Result, Ok, Err}
use Rattle.type_arena.specs.declared.record_store.NoRoom.{NoRoom}
use Rattle.answers.specs.declared.Refusal.TheVariants.{Room}
use Rattle.counting_theory.specs.Trie.{nil, size, add}
use Rattle.counting_theory.specs.Label.{Counting, CountingType}
use Rattle.counting_theory.specs.declared.equivalence.Equivalence.TheVariants.{Kind as by_kind, Label as by_label}
use Rattle.counting_theory.specs.Encoding.{type_size, encode, type_of}
use Rattle.counting_theory.specs.WellFormed.{within_limit, well_formed, bad_type_length, IsType}
use Rattle.counting_theory.specs.Answers.{merged_types, largest_arena}
use Rattle.answers.specs.Inside.Front.{WrittenInFront}
use Rattle.type_arena.specs.Inside.Addend.{Coded}
use Rattle.inference.specs.Inside.Inferring.{ArenaHolds}
use Rattle.folding.specs.Fold.{kind_type}
use Rattle.folding.specs.Inside.Folding.{HeldAt, FoldedRun, FoldedFront}
use Rattle.counting_theory.proofs.Encoding.Header.{length-encode}
use Rattle.counting_theory.proofs.Ways.Calls.{room-length}
use Rattle.type_arena.proofs.FirstAddend.{type-coded}
use Rattle.answers.proofs.Fronts.{front-stored, front-room, front-within}
use Rattle.folding.proofs.KindType.{kind-size}
use Rattle.folding.proofs.KindIsType.{kind-formed}
use Rattle.inference.proofs.InPlace.Seeking.{starts-zero}
use Rattle.folding.proofs.OnBytes.ReadByKind.{coded-kind, type-kind}
use Rattle.folding.proofs.OnBytes.RunAdded.{run-full, run-records}

-- nothing is in the arena
pub empty_holds : (a : List ℕ) → length a ≤ max_length → ArenaHolds by_kind false a 0 0 nil [] a
unfolding encode size
empty_holds a short = record { bytes = refl; count = refl; used = refl; short = short; siblings = record { tagged = tt; sorted = tt; numbers = tt } }

pub empty-held : (a : List ℕ) → length a ≤ max_length → HeldAt false a 0 0 0
empty-held a short = record { f = nil; q = []; free = a; holds = empty_holds a short; starts = starts-zero nil }

module _ {b : List ℕ} (t : IsType by_label b (type_of by_label b)) where
  abbrev kind : CountingType
  kind = kind_type (type_of by_label b)

  pub whole_run : Coded by_kind false b
  whole_run = coded-kind (type-coded t)

  is-kind : add Counting (type_of by_kind b) nil ≡ kind
  unfolding kind_type
  is-kind = ap (λ f. add Counting f nil) (type-kind (type-coded t))

  -- what is said of a run that was added to nothing
  module _ (a : List ℕ) {r : Result Folded NoRoom} (h : FoldedRun (add Counting (type_of by_kind b) nil) [] 0 r a) where
    pub whole-front : (folded : Folded) → r ≡ Ok folded → FoldedFront b folded.records a
    whole-front folded z =
        let g = (run-records _ [] 0 r a h folded z).0 in
        record { count = g.count ∙ ap size is-kind; free = g.free; bytes = g.bytes ∙ ap (λ f. encode f ++ ([] ++ g.free)) is-kind }

    pub whole-full : (e : NoRoom) → r ≡ Err e → length a < type_size * size kind
    whole-full e z = omega (arith, run-full _ [] 0 r a h e z, ap size is-kind)

  -- no type is larger than the largest arena
  pub never-full : (a : List ℕ) → length a ≡ largest_arena → length a < type_size * size kind → ⊥
  never-full a h k = omega (arith, kind-size (type_of by_label b), t.room)

  module _ (n : ℕ) (a : List ℕ) (h : FoldedFront b n a) where
    pub front-within-arena : type_size * n ≤ length a
    front-within-arena = omega (arith, ap length h.bytes ∙ length-append (encode kind) h.free, length-encode kind, h.count)

    pub front-is : take (type_size * n) a ≡ encode kind
    front-is = ap (take (type_size * n)) h.bytes ∙ take_at (encode kind) h.free (type_size * n) (omega (arith, length-encode kind, h.count))

    pub front-allowed : bad_type_length (length (take (type_size * n) a)) ≡ false
    front-allowed = rw front-is (room-length kind (omega (arith, kind-size (type_of by_label b), t.room)))

    -- the test of its limit by the rules of a type
    pub front-limit : well_formed by_kind (take (type_size * n) a) ≡ within_limit kind
    front-limit = ap (well_formed by_kind) front-is ∙ kind-formed t

    pub front-accepted : within_limit kind ≡ true → (m : ℕ) → length a ≡ m → WrittenInFront (merged_types kind m) (Ok n) a
    front-accepted limit m l =
        let k : length (encode kind) ≡ type_size * n = omega (arith, length-encode kind, h.count) in
        front-within kind m (ap not limit) (Ok n) a (front-stored kind m n a h.count (omega (arith, front-within-arena)) (rw k front-is))

  pub front-too-small : within_limit kind ≡ true → (m : ℕ) (a : List ℕ) → length a ≡ m → length a < type_size * size kind → WrittenInFront (merged_types kind m) (Err Room) a
  front-too-small limit m a l h = front-within kind m (ap not limit) (Err Room) a (front-room kind m a (omega (arith, length-encode kind)))
