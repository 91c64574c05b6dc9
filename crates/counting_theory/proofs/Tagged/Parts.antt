-- The parts of a type at its first node, whether an addend or a field.
use mathlib.Core.Path.{◌≡◌, refl}
use mathlib.Core.Bool.{Bool, true, false, cond}
use mathlib.Core.List.{List, []}
use Prim.Native.Nat.{ℕ}
use lib.Dec.{eqb}
use Rattle.value_table.specs.Value.{record_kind}
use Rattle.counting_theory.specs.Payload.{Payload}
use Rattle.counting_theory.specs.Trie.{node}
use Rattle.counting_theory.specs.Label.{Label, field_kind, listed, label_of, field_label, CountingType}
use Rattle.counting_theory.specs.declared.equivalence.Equivalence.{Equivalence}
use Rattle.counting_theory.specs.declared.equivalence.Equivalence.TheVariants.{Kind as by_kind, Label as by_label}
use Rattle.counting_theory.specs.Encoding.{sibling_keys, AddendShape, Tagged}
use Rattle.counting_theory.proofs.Label.{kind-eq, keys-eq}

-- whether the children of a node with label l are fields
abbrev pub holds_fields : Bool → Label → Bool
holds_fields true l = false
holds_fields false l = eqb l.kind record_kind

-- what is asked of the node itself
abbrev pub Shape : Equivalence → Bool → Label → CountingType → Type 0
Shape eq true l c = l ≡ field_label l.key
Shape eq false l c = AddendShape eq l c

pub listed-field : (eq : Equivalence) (ks : List ℕ) → listed eq field_kind ks ≡ []
unfolding listed
listed-field by_kind ks = refl
listed-field by_label ks = refl

-- only the keys of a record matter, and only where the class lists them
pub listed-change : (eq : Equivalence) (kind : ℕ) (xs ys zs : List ℕ) → (eqb kind record_kind ≡ true → xs ≡ ys → zs ≡ xs) →
    listed eq kind xs ≡ listed eq kind ys → listed eq kind zs ≡ listed eq kind xs
unfolding listed
listed-change by_kind kind xs ys zs h e = refl
listed-change by_label kind xs ys zs h e = go (eqb kind record_kind) h e
  where
    go : (t : Bool) → (t ≡ true → xs ≡ ys → zs ≡ xs) → cond t xs [] ≡ cond t ys [] → cond t zs [] ≡ cond t xs []
    go true h e = h refl e
    go false h e = refl

pub listed-cong : (eq : Equivalence) (kind : ℕ) (xs ys : List ℕ) → (eqb kind record_kind ≡ true → xs ≡ ys) → listed eq kind xs ≡ listed eq kind ys
listed-cong eq kind xs ys h = listed-change eq kind ys ys xs (λ t e. h t) refl

-- A type is these parts, for addends and fields alike.
abbrev pub Parts : Equivalence → Bool → Label → CountingType → CountingType → Type 0
Parts eq field l c s = Shape eq field l c × Tagged eq (holds_fields field l) c × Tagged eq field s

pub tagged-parts : (eq : Equivalence) (field : Bool) (l : Label) (a : Payload) (c s : CountingType) → Tagged eq field (node l a c s) → Parts eq field l c s
tagged-parts eq true l a c s h = h
tagged-parts eq false l a c s h = h

pub parts-tagged : (eq : Equivalence) (field : Bool) (l : Label) (a : Payload) (c s : CountingType) → Parts eq field l c s → Tagged eq field (node l a c s)
parts-tagged eq true l a c s h = h
parts-tagged eq false l a c s h = h

pub shape-keys : (eq : Equivalence) (field : Bool) (l : Label) (c : CountingType) → Shape eq field l c → l.keys ≡ listed eq l.kind (sibling_keys c)
shape-keys eq true l c h = rw (kind-eq h, listed-field eq (sibling_keys c)) (keys-eq h)
shape-keys eq false l c h = keys-eq h.tagged

pub shape-label : (eq : Equivalence) (field : Bool) (l : Label) (c : CountingType) → Shape eq field l c → l ≡ label_of eq l.kind l.key (sibling_keys c)
shape-label eq field l c h = λ i. record { kind = l.kind; key = l.key; keys = shape-keys eq field l c h i }
