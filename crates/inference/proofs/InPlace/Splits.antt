-- Where a label is counted among siblings: what a search says of the siblings around it, and what insert makes of them.
use mathlib.Core.Path.{◌≡◌, refl, sym, ap}
use mathlib.Core.Bool.{Bool, true, false}
use mathlib.Core.Option.{none, some}
use Prim.Native.Nat.Ordering.{eq}
use Prim.Native.Nat.Ordering.{gt}
use Prim.Native.Nat.Ordering.{lt}
use Prim.Native.Nat.{ℕ, ◌+◌, Ordering}
use native.Mathlib.Omega.{arith}
use lib.Dec.{eqb}
use Rattle.value_table.specs.Value.{record_kind}
use Rattle.std.specs.Prelude.{Ok, Err}
use Rattle.counting_theory.specs.Payload.{Payload}
use Rattle.counting_theory.specs.Trie.{nil, node, size, insert_step, insert}
use Rattle.counting_theory.specs.Inside.TrieLaws.{append}
use Rattle.counting_theory.specs.Label.{Label, compare_label, Counting, CountingType}
use Rattle.counting_theory.specs.declared.equivalence.Equivalence.{Equivalence}
use Rattle.inference.specs.Inside.Inferring.{Found, spot_here, spot, InferredSiblings, Split, split_here, split, grown}
use Rattle.counting_theory.proofs.Label.{kind-eq, label-order}
use Rattle.counting_theory.proofs.Tagged.Parts.{holds_fields, Shape, tagged-parts}
use Rattle.inference.proofs.InPlace.Append.{siblings-next}

-- the label stands at record p
pub record HereAt (x : Split) (l : Label) (at : ℕ) (f : CountingType) (p : ℕ) : Type 0 where
  pub spot_is : p ≡ at + size x.before
  pub held : Payload
  pub held-is : x.payload ≡ some held
  pub whole : f ≡ append x.before (node l held x.content x.after)

-- it would stand there
pub record MissingAt (x : Split) (at : ℕ) (f : CountingType) (p : ℕ) : Type 0 where
  pub spot_is : p ≡ at + size x.before
  pub whole : f ≡ append x.before x.after
  pub empty : x.content ≡ nil
  pub fresh : x.payload ≡ none

apart : (p o : ℕ) → ◌≡◌ {A = Found} (Ok p) (Err o) → ⊥
apart p o e = cc

-- a node holds fields exactly if its kind is that of a record
fields-inside : (e : Equivalence) (field : Bool) (k : Label) (c : CountingType) → Shape e field k c → holds_fields field k ≡ eqb k.kind record_kind
fields-inside e true k c h = sym (ap (λ i. eqb i record_kind) (kind-eq h))
fields-inside e false k c h = refl

module _ (l : Label) where
  here-node : (o : Ordering) (at p : ℕ) (k : Label) (n : Payload) (c s : CountingType) → compare_label l k ≡ o → Ok p ≡ spot_here o at (spot l (at + (1 + size c)) s) →
      (Ok p ≡ spot l (at + (1 + size c)) s → HereAt (split l s) l (at + (1 + size c)) s p) → HereAt (split_here o k n c s (split l s)) l at (node k n c s) p
  unfolding spot_here split_here append size
  here-node lt at p k n c s z e h = absurd (apart p at e)
  here-node eq at p k n c s z e h = let w : p ≡ at = cc in record { spot_is = omega arith; held = n; held-is = refl; whole = rw (label-order.compare-eq z) refl }
  here-node gt at p k n c s z e h = let v = h e in record { spot_is = omega (arith, v.spot_is); held = v.held; held-is = v.held-is; whole = ap (node k n c) v.whole }

  pub here-at : (at p : ℕ) (f : CountingType) → Ok p ≡ spot l at f → HereAt (split l f) l at f p
  unfolding spot split
  here-at at p nil e = absurd (apart p at e)
  here-at at p (node k n c s) e = here-node (compare_label l k) at p k n c s refl e (here-at (at + (1 + size c)) p s)

  missing-node : (o : Ordering) (at p : ℕ) (k : Label) (n : Payload) (c s : CountingType) → Err p ≡ spot_here o at (spot l (at + (1 + size c)) s) →
      (Err p ≡ spot l (at + (1 + size c)) s → MissingAt (split l s) (at + (1 + size c)) s p) → MissingAt (split_here o k n c s (split l s)) at (node k n c s) p
  unfolding spot_here split_here append size
  missing-node lt at p k n c s e h = let w : p ≡ at = cc in record { spot_is = omega arith; whole = refl; empty = refl; fresh = refl }
  missing-node eq at p k n c s e h = absurd (apart at p (sym e))
  missing-node gt at p k n c s e h =
      let v = h e in
      record { spot_is = omega (arith, v.spot_is); whole = ap (node k n c) v.whole; empty = v.empty; fresh = v.fresh }

  pub missing_at : (at p : ℕ) (f : CountingType) → Err p ≡ spot l at f → MissingAt (split l f) at f p
  unfolding spot split size append
  missing_at at p nil e = let w : p ≡ at = cc in record { spot_is = omega arith; whole = refl; empty = refl; fresh = refl }
  missing_at at p (node k n c s) e = missing-node (compare_label l k) at p k n c s e (missing_at (at + (1 + size c)) p s)

  module _ (a : Payload) (g : CountingType → CountingType) where
    abbrev Inserted : CountingType → Split → Type 0
    Inserted r x = r ≡ append x.before (node l (grown x.payload a) (g x.content) x.after)

    insert-node : (o : Ordering) (k : Label) (n : Payload) (c s : CountingType) → compare_label l k ≡ o → Inserted (insert Counting l a g s) (split l s) →
        Inserted (insert_step Counting o l a g k n c s (insert Counting l a g s)) (split_here o k n c s (split l s))
    unfolding insert_step split_here append grown
    insert-node lt k n c s z h = refl
    insert-node eq k n c s z h = rw (label-order.compare-eq z) refl
    insert-node gt k n c s z h = ap (node k n c) h

    pub insert-split : (f : CountingType) → Inserted (insert Counting l a g f) (split l f)
    unfolding insert split append grown
    insert-split nil = refl
    insert-split (node k n c s) = insert-node (compare_label l k) k n c s refl (insert-split s)

  -- the children where the label stands, if it does
  module _ (e : Equivalence) (field : Bool) where
    content-node : (o : Ordering) (k : Label) (n : Payload) (c s : CountingType) → compare_label l k ≡ o → InferredSiblings e field (node k n c s) →
        InferredSiblings e (eqb l.kind record_kind) (split l s).content → InferredSiblings e (eqb l.kind record_kind) (split_here o k n c s (split l s)).content
    unfolding split_here
    content-node lt k n c s z h i = record { tagged = tt; sorted = tt; numbers = tt }
    content-node eq k n c s z h i =
        let p = tagged-parts e field k n c s h.tagged in
        rw (label-order.compare-eq z) (record { tagged = rw (fields-inside e field k c p.0) at p.1; sorted = h.sorted.1; numbers = h.numbers.1 })
    content-node gt k n c s z h i = i

    pub content-siblings : (f : CountingType) → InferredSiblings e field f → InferredSiblings e (eqb l.kind record_kind) (split l f).content
    unfolding split
    content-siblings nil h = record { tagged = tt; sorted = tt; numbers = tt }
    content-siblings (node k n c s) h = content-node (compare_label l k) k n c s refl h (content-siblings s (siblings-next h))
