-- Document 000 on our tries, in its own terms: K (Definition 3.8), L (3.14), E-reduced (3.11), Reduce and Merge (3.12).
-- A structural type, or addend, is a node: its label, its count and its children. A record's fields are siblings too.
use Rattle.std.specs.Prelude.{◌≡◌, Bool, ◌⊎◌, ◌↔◌, ℕ}
use Rattle.value_table.specs.Value.{record_kind}
use Rattle.counting_theory.specs.Payload.{Payload, join}
use Rattle.counting_theory.specs.Trie.{nil, node, reduce, Sorted}
use Rattle.counting_theory.specs.Label.{Label, field_label, Counting, CountingType}
use Rattle.counting_theory.specs.declared.equivalence.Equivalence.{Equivalence}
use Rattle.counting_theory.specs.declared.equivalence.Equivalence.TheVariants.{Kind as by_kind, Label as by_label}
use Rattle.counting_theory.specs.Encoding.{Tagged}

-- node l a c stands among the siblings of f
abbrev pub Addend : Label → Payload → CountingType → CountingType → Type 0
Addend l a c nil = ⊥
Addend l a c (node m b d s) = ((l ≡ m) × (a ≡ b) × (c ≡ d)) ⊎ Addend l a c s

abbrev pub HasKey : ℕ → CountingType → Type 0
HasKey k c = (a : Payload) × (d : CountingType) × Addend (field_label k) a d c

-- 3.8: K relates two structural types of one kind
abbrev pub K : Label → CountingType → Label → CountingType → Type 0
K l c m d = l.kind ≡ m.kind

-- 3.14: L relates them too, but records only where they have the same keys
abbrev pub L : Label → CountingType → Label → CountingType → Type 0
L l c m d = (l.kind ≡ m.kind) × (l.kind ≡ record_kind → (k : ℕ) → HasKey k c ↔ HasKey k d)

abbrev pub E : Equivalence → Label → CountingType → Label → CountingType → Type 0
E by_kind = K
E by_label = L

-- addends are related by E, and the fields of a record by their key; an addend has key 0
abbrev pub Related : Equivalence → Label → CountingType → Label → CountingType → Type 0
Related eq l c m d = (l.key ≡ m.key) × E eq l c m d

-- no sibling in g is related to node l c
abbrev pub Alone : Equivalence → Label → CountingType → CountingType → Type 0
Alone eq l c g = (m : Label) (b : Payload) (d : CountingType) → Addend m b d g → ¬ Related eq l c m d

-- 3.11: no two siblings are related, at any level
abbrev pub EReduced : Equivalence → CountingType → Type 0
EReduced eq nil = Unit {0}
EReduced eq (node l a c s) = Alone eq l c s × EReduced eq c × EReduced eq s

-- 3.12: node l a c is the merge of two related siblings, one from f and one from g, whose payloads join and whose children are
-- reduced; or it stands alone in f or in g
pub data ReduceAddend (eq : Equivalence) (f g : CountingType) (l : Label) (a : Payload) (c : CountingType) : Type 0 where
  merged : (m : Label) (a₁ a₂ : Payload) (c₁ c₂ : CountingType) → Addend l a₁ c₁ f → Addend m a₂ c₂ g → Related eq l c₁ m c₂ →
      a ≡ join a₁ a₂ → c ≡ reduce Counting c₁ c₂ → ReduceAddend eq f g l a c
  first : Addend l a c f → Alone eq l c g → ReduceAddend eq f g l a c
  second : Addend l a c g → Alone eq l c f → ReduceAddend eq f g l a c

-- the reduce of two types is Reduce of document 000, for both equivalences: those addends and no other, and no two related
pub record IsReduce (eq : Equivalence) (f g h : CountingType) : Type 0 where
  pub addends : (l : Label) (a : Payload) (c : CountingType) → Addend l a c h ↔ ReduceAddend eq f g l a c
  pub reduced : EReduced eq h

abbrev pub Publishes : Type 0
Publishes = (eq : Equivalence) (field : Bool) (f g : CountingType) → Tagged eq field f → Tagged eq field g → Sorted Counting f → Sorted Counting g →
    IsReduce eq f g (reduce Counting f g)

-- two siblings of types have one label exactly if they are related
abbrev pub LabelsRelate : Type 0
LabelsRelate = (eq : Equivalence) (field : Bool) (f g : CountingType) → Tagged eq field f → Tagged eq field g → Sorted Counting f → Sorted Counting g →
    (l m : Label) (a b : Payload) (c d : CountingType) → Addend l a c f → Addend m b d g → (l ≡ m) ↔ Related eq l c m d
