-- A run is added to siblings, one addend or field after the other.
use mathlib.Core.Path.{◌≡◌, refl, sym, ◌∙◌, ap}
use mathlib.Core.Bool.{Bool}
use mathlib.Core.List.{List, ◌++◌}
use Prim.Native.Nat.{ℕ, ◌+◌, ◌*◌, ◌≤◌, ◌<◌}
use native.Mathlib.Omega.{arith}
use lib.ListN.{length}
use Rattle.value_table.specs.Value.{max_length}
use Rattle.folding.specs.declared.pass.Folded.{Folded}
use Rattle.folding.specs.declared.pass.Placed.{Placed}
use Rattle.std.proofs.Common.{Result, Ok, Err}
use Rattle.type_arena.specs.declared.record_store.NoRoom.{NoRoom}
use Rattle.counting_theory.specs.Trie.{size, add}
use Rattle.counting_theory.specs.Label.{Counting, CountingType}
use Rattle.counting_theory.specs.declared.equivalence.Equivalence.TheVariants.{Kind as by_kind}
use Rattle.counting_theory.specs.Encoding.{type_size, type_payload, encode, type_of}
use Rattle.type_arena.specs.Inside.Addend.{body, rest, Coded}
use Rattle.inference.specs.Inside.Inferring.{InferredSiblings, ArenaHolds, Starts, split, Grown}
use Rattle.folding.specs.Inside.Folding.{Inside, lowest_of, first_label, with_first, FoldedRun, FoldedFirst}
use Rattle.counting_theory.proofs.Label.{counting-laws}
use Rattle.counting_theory.proofs.Trie.Growth.{add-grows}
use Rattle.type_arena.proofs.FirstAddend.{addend}
use Rattle.inference.proofs.InPlace.Splits.{insert-split}
use Rattle.folding.proofs.OnBytes.Starts.{inside-zero, starts-kept, starts-lowest}
use Rattle.folding.proofs.OnBytes.FirstAdded.{nothing-added, first-siblings}

-- the two answers on a run
module _ (g : CountingType) (q : List ℕ) (rest : ℕ) (r : Result Folded NoRoom) (b : List ℕ) (h : FoldedRun g q rest r b) where
  pub run-full : (e : NoRoom) → r ≡ Err e → length b < type_size * (size g + rest)
  run-full e z = rw z at h

  pub run-records : (folded : Folded) → r ≡ Ok folded → Grown g q folded.records b × Starts folded.low g
  run-records folded z = rw z at h

-- the arena a holds the siblings g, to which y, what is left of the run x, is still to be added; the last one was placed so, and none
-- before `low`
pub record RanTo (field : Bool) (x : List ℕ) (f : CountingType) (q a y : List ℕ) (last : Placed) (low : ℕ) : Type 0 where
  pub g : CountingType
  pub free : List ℕ
  pub held : a ≡ encode g ++ (q ++ free)
  pub count : last.records ≡ size g
  pub siblings : InferredSiblings by_kind field g
  pub starts : Starts last.at g
  pub inside : Inside last.inside last.at g
  pub lowest : Starts low g
  pub coded : Coded by_kind field y
  pub same : add Counting (type_of by_kind y) g ≡ add Counting (type_of by_kind x) f

pub ran-start : {field : Bool} {x : List ℕ} {f : CountingType} {q a free : List ℕ} {n rest start : ℕ} → ArenaHolds by_kind field a n rest f q free → Starts start f →
    Coded by_kind field x → RanTo field x f q a x (record { at = start; records = n; inside = 0 }) start
ran-start {f = f} {free = free} {start = start} h s k =
    record {
      g = f;
      free = free;
      held = h.bytes;
      count = h.count;
      siblings = h.siblings;
      starts = s;
      inside = inside-zero start f;
      lowest = s;
      coded = k;
      same = refl;
    }

module _ {field : Bool} {x : List ℕ} {f : CountingType} {q a y : List ℕ} {last : Placed} {low : ℕ} (s : RanTo field x f q a y last low) where
  pub ran-holds : (rest : ℕ) → length q ≡ type_size * rest → length a ≤ max_length → ArenaHolds by_kind field a last.records rest s.g q s.free
  ran-holds rest u short = record { bytes = s.held; count = s.count; used = u; short = short; siblings = s.siblings }

  pub ran-end : length y ≡ 0 → Grown (add Counting (type_of by_kind x) f) q last.records a × Starts low (add Counting (type_of by_kind x) f)
  ran-end e =
      let z : s.g ≡ add Counting (type_of by_kind x) f = sym (nothing-added y e s.g) ∙ s.same in
      (record { count = s.count ∙ ap size z; free = s.free; bytes = s.held ∙ ap (λ g. encode g ++ (q ++ s.free)) z }, rw z at s.lowest)

  module _ (some : 0 < length y) where
    abbrev after : CountingType
    after = with_first y s.g

    -- what is left behind the first
    left-same : add Counting (type_of by_kind (rest y)) after ≡ add Counting (type_of by_kind x) f
    unfolding add
    left-same = ap (λ t. add Counting t s.g) (sym (addend s.coded some).is-type) ∙ s.same

    pub ran-full : (behind p : ℕ) (a' : List ℕ) {r : Result Placed NoRoom} (e : NoRoom) → r ≡ Err e → FoldedFirst after p q behind r a' → length a' < type_size * (size (add Counting (type_of by_kind x) f) + behind)
    ran-full behind p a' e o h =
        let k : length a' < type_size * (size after + behind) = rw o at h in
        omega (arith, (add-grows counting-laws (type_of by_kind (rest y)) after).sizes, ap size left-same)

    module _ (behind : ℕ) (put : Placed) (a' : List ℕ) {r : Result Placed NoRoom} (o : r ≡ Ok put) (h : FoldedFirst after (size (split (first_label y) s.g).before) q behind r a') where
      placed : Grown after q put.records a' × (put.at ≡ size (split (first_label y) s.g).before) × Inside put.inside put.at after
      placed = rw o at h

      here : Starts put.at after
      here = record { first = _; last = _; whole = insert-split _ (type_payload y 0) _ s.g; count = placed.1 }

      kept : low ≤ put.at → Starts low after
      kept n = starts-kept (first_label y) (type_payload y 0) (add Counting (type_of by_kind (body y))) low s.g s.lowest (omega (arith, placed.1))

      pub ran-next : (first : Bool) (low' : ℕ) → low' ≡ lowest_of first low put.at → (y' : List ℕ) → y' ≡ rest y → RanTo field x f q a' y' put low'
      ran-next first low' z y' w =
          rw (z, w) (record {
            g = after;
            free = placed.0.free;
            held = placed.0.bytes;
            count = placed.0.count;
            siblings = first-siblings s.coded some s.g s.siblings;
            starts = here;
            inside = placed.2;
            lowest = starts-lowest first low put.at after here kept;
            coded = (addend s.coded some).in_rest;
            same = left-same;
          })
