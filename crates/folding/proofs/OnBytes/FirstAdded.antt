-- The first addend or field of a run is added to siblings: they stay siblings, and take the room that is asked.
use mathlib.Core.Path.{◌≡◌, refl, sym, ◌∙◌, ap}
use mathlib.Core.Bool.{Bool, true, false, not, ◌&&◌}
use mathlib.Core.List.{List, [], ◌∷◌}
use Prim.Native.Nat.{ℕ, ◌+◌, ◌*◌, ◌<◌}
use native.Mathlib.Omega.{arith}
use lib.Dec.{eqb}
use lib.ListN.{length}
use Rattle.value_table.specs.Value.{record_kind}
use Rattle.inference.specs.declared.placing.Put.{Put}
use Rattle.std.proofs.Common.{Result, Ok, Err}
use Rattle.type_arena.specs.declared.record_store.NoRoom.{NoRoom}
use Rattle.counting_theory.specs.Payload.{Payload}
use Rattle.counting_theory.specs.Trie.{nil, node, size, add}
use Rattle.counting_theory.specs.Label.{Label, listed, label_of, Counting, CountingType}
use Rattle.counting_theory.specs.declared.equivalence.Equivalence.TheVariants.{Kind as by_kind}
use Rattle.counting_theory.specs.Encoding.{type_size, type_kind, type_key, type_payload, type_of, Tagged}
use Rattle.counting_theory.specs.Inside.TypeBytes.{Fitting}
use Rattle.type_arena.specs.Inside.Arena.{label_at}
use Rattle.type_arena.specs.Inside.Addend.{body, rest, Coded}
use Rattle.inference.specs.Inside.Inferring.{NumbersFit, InferredSiblings, ArenaHolds, split, grown, Counted, PlacedAt}
use Rattle.folding.specs.Inside.Folding.{first_label, with_first}
use Rattle.counting_theory.proofs.Label.{kind-eq, counting-laws}
use Rattle.counting_theory.proofs.Trie.Sorted.{sorted-add}
use Rattle.counting_theory.proofs.Trie.Growth.{add-grows}
use Rattle.counting_theory.proofs.Tagged.Parts.{tagged-parts, parts-tagged}
use Rattle.type_arena.proofs.FirstAddend.{Addend, addend, type-empty, coded-type}
use Rattle.inference.proofs.InPlace.Items.{insert-size}
use Rattle.type_arena.proofs.PayloadBytes.{kept-fitting}
use Rattle.inference.proofs.InPlace.Material.{numbers-add}
use Rattle.folding.proofs.KindTagged.{tagged-add}

-- the label that is searched for is the first one's
label-wanted : (x keys : List ℕ) (kind key : ℕ) → kind ≡ type_kind x 0 → key ≡ type_key x 0 → label_of by_kind kind key keys ≡ first_label x
unfolding label_at listed
label-wanted x keys kind key h i = rw (h, i) refl

-- it is placed under its own label, with its own payload
pub placed-first : (x keys : List ℕ) (kind key : ℕ) {a : Payload} (f : CountingType) (q : List ℕ) (rest : ℕ) (r : Result Put NoRoom) (b : List ℕ) → kind ≡ type_kind x 0 → key ≡ type_key x 0 → a ≡ type_payload x 0 →
    PlacedAt (label_of by_kind kind key keys) a f q rest r b → PlacedAt (first_label x) (type_payload x 0) f q rest r b
placed-first x keys kind key f q rest r b h i j z = rw (label-wanted x keys kind key h i, j) at z

first_kind : (x : List ℕ) → (first_label x).kind ≡ type_kind x 0
unfolding label_at
first_kind x = refl

-- what stands inside a label of this kind
pub inside-kind : (x : List ℕ) {kind : ℕ} {a : List ℕ} {n rest : ℕ} {f : CountingType} {q free : List ℕ} → kind ≡ type_kind x 0 →
    ArenaHolds by_kind (eqb (first_label x).kind record_kind) a n rest f q free → ArenaHolds by_kind (eqb kind record_kind) a n rest f q free
inside-kind x e h = rw (first_kind x, ← e) at h

-- fields stand inside it exactly if its kind is that of a record
fields-first : (field : Bool) (x : List ℕ) → Addend by_kind field x → (not field && eqb (type_kind x 0) record_kind) ≡ eqb (type_kind x 0) record_kind
unfolding label_at
fields-first true x h = sym (ap (λ k. eqb k record_kind) (kind-eq h.is-shape))
fields-first false x h = refl

pub coded-body : {field : Bool} {x : List ℕ} → Addend by_kind field x → {kind : ℕ} → type_kind x 0 ≡ kind → Coded by_kind (eqb kind record_kind) (body x)
coded-body {field} {x} h e = rw (fields-first field x h, e) at h.in_body

-- an empty run adds nothing
pub nothing-added : (y : List ℕ) → length y ≡ 0 → (c : CountingType) → add Counting (type_of by_kind y) c ≡ c
unfolding add
nothing-added [] h c = rw (type-empty by_kind) refl
nothing-added (n ∷ y) h c = absurd (omega arith)

numbers-fitting : (f : CountingType) → Fitting f → NumbersFit f
unfolding Fitting
numbers-fitting nil h = tt
numbers-fitting (node l a c s) h = ((h.0.0, h.0.1.1.0, kept-fitting a h.0.1.1.1.1), numbers-fitting c h.1, numbers-fitting s h.2)

module _ {field : Bool} {x : List ℕ} (k : Coded by_kind field x) (some : 0 < length x) where
  abbrev l : Label
  l = first_label x

  abbrev c : CountingType
  c = type_of by_kind (body x)

  abbrev s : CountingType
  s = type_of by_kind (rest x)

  is-node : k.trie ≡ node l (type_payload x 0) c s
  is-node = sym (coded-type k) ∙ (addend k some).is-type

  first-tagged : Tagged by_kind field (node l (type_payload x 0) c nil)
  first-tagged =
      let p = tagged-parts by_kind field l (type_payload x 0) c s (rw is-node at k.tagged) in
      parts-tagged by_kind field l (type_payload x 0) c nil (p.0, p.1, tt)

  first-numbers : NumbersFit (node l (type_payload x 0) c nil)
  first-numbers = let h = numbers-fitting (node l (type_payload x 0) c s) (rw is-node at k.fitting) in (h.0, h.1, tt)

  pub first-siblings : (f : CountingType) → InferredSiblings by_kind field f → InferredSiblings by_kind field (with_first x f)
  unfolding add
  first-siblings f h =
      let r : CountingType = node l (type_payload x 0) c nil in
      record {
        tagged = tagged-add field r f first-tagged h.tagged h.sorted;
        sorted = sorted-add counting-laws r f h.sorted;
        numbers = numbers-add r f first-numbers h.numbers;
      }

module _ (x : List ℕ) (f : CountingType) (q : List ℕ) (rest : ℕ) (r : Result Put NoRoom) (b : List ℕ) (h : PlacedAt (first_label x) (type_payload x 0) f q rest r b) where
  pub first_counted : (put : Put) → r ≡ Ok put → Counted (split (first_label x) f) (first_label x) (grown (split (first_label x) f).payload (type_payload x 0)) q put.at put.records b
  first_counted put z = rw z at h

  -- room that is missing for the label alone is missing for all that stands inside too
  pub first-full : (e : NoRoom) → r ≡ Err e → length b < type_size * (size (with_first x f) + rest)
  first-full e z =
      let c = type_of by_kind (body x) in
      let y = split (first_label x) f in
      let k : length b < type_size * (size y.before + (1 + (size y.content + size y.after)) + rest) = rw z at h in
      omega (arith, insert-size (first_label x) (type_payload x 0) (add Counting c) f, (add-grows counting-laws c y.content).sizes)
