-- The parts of one of removal's types at its first node, whether an addend or a field.
use mathlib.Core.Path.{◌≡◌}
use mathlib.Core.Bool.{Bool, true, false}
use Rattle.counting_theory.proofs.Tagged.Parts.{holds_fields, listed-field}
use Rattle.removal_theory.specs.Payload.{Payload}
use Rattle.counting_theory.specs.Trie.{node}
use Rattle.counting_theory.specs.Label.{Label, listed, label_of, field_label}
use Rattle.counting_theory.specs.declared.equivalence.Equivalence.{Equivalence}
use Rattle.removal_theory.specs.Label.{CountingType}
use Rattle.removal_theory.specs.Encoding.{sibling_keys, AddendShape, Tagged}
use Rattle.counting_theory.proofs.Label.{kind-eq, keys-eq}

-- what is asked of the node itself
abbrev pub Shape : Equivalence → Bool → Label → CountingType → Type 0
Shape eq true l c = l ≡ field_label l.key
Shape eq false l c = AddendShape eq l c

-- A type is these parts, for addends and fields alike.
abbrev pub Parts : Equivalence → Bool → Label → CountingType → CountingType → Type 0
Parts eq field l c s = Shape eq field l c × Tagged eq (holds_fields field l) c × Tagged eq field s

pub tagged-parts : (eq : Equivalence) (field : Bool) (l : Label) (a : Payload) (c s : CountingType) → Tagged eq field (node l a c s) → Parts eq field l c s
tagged-parts eq true l a c s h = h
tagged-parts eq false l a c s h = h

pub parts-tagged : (eq : Equivalence) (field : Bool) (l : Label) (a : Payload) (c s : CountingType) → Parts eq field l c s → Tagged eq field (node l a c s)
parts-tagged eq true l a c s h = h
parts-tagged eq false l a c s h = h

pub shape-keys : (eq : Equivalence) (field : Bool) (l : Label) (c : CountingType) → Shape eq field l c → l.keys ≡ listed eq l.kind (sibling_keys c)
shape-keys eq true l c h = rw (kind-eq h, listed-field eq (sibling_keys c)) (keys-eq h)
shape-keys eq false l c h = keys-eq h.tagged

pub shape-label : (eq : Equivalence) (field : Bool) (l : Label) (c : CountingType) → Shape eq field l c → l ≡ label_of eq l.kind l.key (sibling_keys c)
shape-label eq field l c h = λ i. record { kind = l.kind; key = l.key; keys = shape-keys eq field l c h i }
