-- The label of an item, by the key list in the working buffer, and the room that its siblings need.
use mathlib.Core.Path.{◌≡◌, refl, ◌∙◌, ap}
use mathlib.Core.Bool.{Bool, true, false, cond}
use mathlib.Core.List.{List, [], ◌∷◌}
use Prim.Native.Nat.{ℕ, suc, ◌+◌, ◌*◌, ◌/◌, ◌≤◌, ◌<◌}
use native.Mathlib.Omega.{arith}
use lib.Dec.{eqb, leb}
use lib.ListN.{length, take}
use lib.Seq.{length-take-le}
use Rattle.byte_records.proofs.Numbers.{numbers-cut}
use borrow.Author.Tests.{eq-eqb, ne_eqb}
use Rattle.value_table.specs.Value.{record_kind, Values, keys}
use Rattle.std.specs.Prelude.{Result, Ok, Err}
use Rattle.type_arena.specs.declared.record_store.NoRoom.{NoRoom}
use Rattle.inference.specs.declared.placing.Put.{Put}
use Rattle.counting_theory.specs.Payload.{Payload}
use Rattle.counting_theory.specs.Trie.{nil, node, size, insert, add, profile}
use Rattle.counting_theory.specs.Label.{Label, listed, Counting, CountingType}
use Rattle.counting_theory.specs.declared.equivalence.Equivalence.{Equivalence}
use Rattle.counting_theory.specs.declared.equivalence.Equivalence.TheVariants.{Kind as by_kind, Label as by_label}
use Rattle.counting_theory.specs.Raw.{insert_key, ascending, raw}
use Rattle.counting_theory.specs.Encoding.{type_size, sibling_keys}
use Rattle.counting_theory.specs.Inside.Times.{times}
use Rattle.type_arena.specs.Inside.Payload.{item_payload}
use Rattle.inference.specs.Inside.Inferring.{keys_per_record, keys_of, ListedIn, LabelListed, wanted, label_for, with_item, split, grown, InferredSiblings, TableRun, PlacedAt, CountedWithin}
use Rattle.counting_theory.proofs.Label.{counting-laws}
use Rattle.counting_theory.proofs.Trie.Growth.{add-grows, profile-grows}
use Rattle.counting_theory.proofs.Tagged.Profile.{inferred}
use Rattle.inference.proofs.InPlace.Append.{size-append}
use Rattle.inference.proofs.InPlace.Splits.{insert-split, content-siblings}
use Rattle.counting_theory.proofs.Times.{times-grows}

pub label_is : (e : Equivalence) (kind key n : ℕ) (w : List ℕ) (vs : Values) → listed e kind (keys_of n w) ≡ listed e kind (ascending (keys vs)) →
    wanted e kind key n w ≡ label_for e kind key vs
label_is e kind key n w vs h = λ i. record { kind = kind; key = key; keys = h i }

-- the keys at the front of w, cut off
pub wanted-listed : (e : Equivalence) (kind key n : ℕ) (w : List ℕ) → 2 * n ≤ length w →
    wanted e kind key (length (take (2 * n) w) / 2) (take (2 * n) w) ≡ wanted e kind key n w
wanted-listed e kind key n w h =
    let m : length (take (2 * n) w) / 2 ≡ n = omega (arith, length-take-le (2 * n) w h) in
    rw (m, numbers-cut 2 n w h) refl

-- no list is asked for under kind, nor of anything but a record
pub listed-kind : (kind : ℕ) (vs : Values) (w : List ℕ) → LabelListed by_kind kind vs (Ok 0) w
unfolding listed
listed-kind kind vs w = (refl, omega arith)

pub listed-other : (kind : ℕ) (vs : Values) (w : List ℕ) → (kind ≡ record_kind → ⊥) → LabelListed by_label kind vs (Ok 0) w
unfolding listed
listed-other kind vs w n = (rw (ne_eqb kind record_kind n) refl, omega arith)

pub listed-record : (kind : ℕ) (vs : Values) (r : Result ℕ NoRoom) (w : List ℕ) → kind ≡ record_kind → ListedIn vs r w → LabelListed by_label kind vs r w
listed-record kind vs (Ok n) w e h = (ap (listed by_label kind) h.0, h.1)
listed-record kind vs (Err _) w e h = (e, h)

module _ (l : Label) (a : Payload) (g : CountingType → CountingType) (f : CountingType) where
  pub insert-size : size (insert Counting l a g f) ≡ size (split l f).before + (1 + (size (g (split l f).content) + size (split l f).after))
  unfolding size
  insert-size = ap size (insert-split l a g f) ∙ size-append (split l f).before (node l (grown (split l f).payload a) (g (split l f).content) (split l f).after)

-- a place that is missing for the label alone is missing for the whole item
module _ (e : Equivalence) (kind key w : ℕ) (vs : Values) (f : CountingType) (q : List ℕ) (rest : ℕ) where
  abbrev l : Label
  l = label_for e kind key vs

  pub located : (r : Result Put NoRoom) (b : List ℕ) → PlacedAt l (item_payload w kind vs) f q rest r b → CountedWithin (size (with_item e kind key w vs f) + rest) (split l f) l (item_payload w kind vs) q r b
  located (Err _) b h =
      let r = times w (raw e (eqb kind record_kind) vs) in
      omega (arith, insert-size l (item_payload w kind vs) (add Counting r) f, (add-grows counting-laws r (split l f).content).sizes)
  located (Ok put) b h = h

length-insert : (k : ℕ) (xs : List ℕ) → length (insert_key k xs) ≡ suc (length xs)
unfolding insert_key
length-insert k [] = refl
length-insert k (x ∷ xs) = go (leb k x) (length-insert k xs)
  where
    go : (o : Bool) → length (insert_key k xs) ≡ suc (length xs) → length (cond o (k ∷ (x ∷ xs)) (x ∷ insert_key k xs)) ≡ suc (suc (length xs))
    go true i = refl
    go false i = ap suc i

length-ascending : (ks : List ℕ) → length (ascending ks) ≡ length ks
unfolding ascending
length-ascending [] = refl
length-ascending (k ∷ ks) = length-insert k (ascending ks) ∙ ap suc (length-ascending ks)

siblings-size : (f : CountingType) → length (sibling_keys f) ≤ size f
unfolding sibling_keys size
siblings-size nil = omega arith
siblings-size (node l a c s) = omega (arith, siblings-size s)

-- the fields of a record are at least as many records
fields-size : (e : Equivalence) (w : ℕ) (t : List ℕ) (vs : Values) (c : CountingType) → 1 ≤ w → TableRun true t vs → InferredSiblings e true c → length (keys vs) ≤ size (add Counting (times w (raw e true vs)) c)
fields-size e w t vs c o r h =
    let p = profile Counting (raw e true vs) in
    let i : sibling_keys p ≡ ascending (keys vs) = (inferred e true r.depth vs (rw (r.fields refl) at r.valid)).has-keys refl (r.distinct refl) in
    omega (arith, ap length i, length-ascending (keys vs), siblings-size p, (profile-grows counting-laws (raw e true vs) c h.sorted).sizes, times-grows w (raw e true vs) c o h.sorted)

pub too_many_lem : (e : Equivalence) (field : Bool) (kind key w : ℕ) (t : List ℕ) (vs : Values) (f : CountingType) → 1 ≤ w → kind ≡ record_kind → TableRun (eqb kind record_kind) t vs → InferredSiblings e field f →
    (rest k n : ℕ) → n < 2 * length (keys vs) → k ≤ keys_per_record * n → k < type_size * (size (with_item e kind key w vs f) + rest)
too_many_lem e field kind key w t vs f o z r h rest k n i j =
    let b = eq-eqb kind record_kind z in
    let l = label_for e kind key vs in
    let c = (split l f).content in
    let s : InferredSiblings e true c = rw b at (content-siblings l e field f h) in
    let grown : size (add Counting (times w (raw e (eqb kind record_kind) vs)) c) ≡ size (add Counting (times w (raw e true vs)) c) = ap (λ u. size (add Counting (times w (raw e u vs)) c)) b in
    omega (arith, insert-size l (item_payload w kind vs) (add Counting (times w (raw e (eqb kind record_kind) vs))) f, grown, fields-size e w t vs c o (rw b at r) s)
