-- Definition 3.4 of document 000: the meaning of a type, as the multisets of values that belong to it.
use Rattle.std.specs.Prelude.{◌≡◌, Bool, true, false, ℕ, length}
use mathlib.Core.List.{List, [], ◌∷◌, ◌++◌, Permᴰ}
use Rattle.value_table.specs.Value.{Values, Valid, record_kind, array_kind}
use Rattle.counting_theory.specs.Trie.{nil, node}
use Rattle.counting_theory.specs.Label.{CountingType}
use Rattle.counting_theory.specs.declared.equivalence.Equivalence.{Equivalence}
use Rattle.counting_theory.specs.Raw.{profile_of}
use Rattle.counting_theory.specs.Place.{Value, values_of, elements, field_values}
use Rattle.counting_theory.specs.Published.{HasKey}

abbrev pub OfKind : ℕ → List Value → Type 0
OfKind kind [] = Unit {0}
OfKind kind (v ∷ M) = (v.head.kind ≡ kind) × OfKind kind M

-- M belongs to the union f; or (field ≡ true) the records M have under each key of the fields f what belongs to its union
abbrev pub Means : Bool → CountingType → List Value → Type 0
Means true nil M = Unit {0}
Means true (node l a c s) M = Means false c (field_values l.key M) × Means true s M
Means false nil M = M ≡ []
Means false (node l a c s) M =
    (M₁ : List Value) × (M₂ : List Value) × Permᴰ M (M₁ ++ M₂) × (length M₁ ≡ a.count) × OfKind l.kind M₁
    × (l.kind ≡ record_kind → Means true c M₁ × ((k : ℕ) → ¬ HasKey k c → field_values k M₁ ≡ []))
    × (l.kind ≡ array_kind → Means false c (elements M₁))
    × Means false s M₂

-- Theorem 3.7: the messages belong to their inferred type
abbrev pub Sound : Type 0
Sound = (eq : Equivalence) (messages : Values) → Valid messages → Means false (profile_of eq messages) (values_of messages)
