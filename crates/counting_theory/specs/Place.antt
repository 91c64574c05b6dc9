-- How many values have a place, counted on the values themselves with the path operators of document 000 (Definition 3.3).
use Rattle.std.specs.Prelude.{Bool, cond, ◌&&◌, ◌↔◌, ◌≡◌, ℕ, ◌≤◌, eqb, length}
use mathlib.Core.List.{List, [], ◌∷◌, flat_map}
use Rattle.std.proofs.Math.Option.{Option, none as absent, some}
use Rattle.std.proofs.Math.Dec.{compare_is_eq}
use Rattle.value_table.specs.Value.{Head, Values, none, value, keys, member, Distinct, Valid, record_kind, array_kind}
use Rattle.counting_theory.specs.Payload.{Payload, one, one_field}
use Rattle.counting_theory.specs.Trie.{nil, node, ◌⊞◌ as join_option, lookup, total}
use Rattle.counting_theory.specs.Label.{Label, field_kind, field_label, compare_label, Counting, CountingType}
use Rattle.counting_theory.specs.declared.equivalence.Equivalence.{Equivalence}
use Rattle.counting_theory.specs.declared.equivalence.Equivalence.TheVariants.{Label as by_label}
use Rattle.counting_theory.specs.Raw.{class_of, profile_of}

-- a value without its key; a list of these stands for a multiset of document 000
pub record Value : Type 0 where
  pub head : Head
  pub content : Values

unfoldable pub values_of : Values → List Value
values_of none = []
values_of (value head key content next) = record { head = head; content = content } ∷ values_of next

unfoldable pub values_with : ℕ → Values → List Value
values_with k none = []
values_with k (value head key content next) = cond (eqb k key) (record { head = head; content = content } ∷ values_with k next) (values_with k next)

-- M/[*]: the elements of the arrays of M
abbrev pub elements_of : Value → List Value
elements_of v = cond (eqb v.head.kind array_kind) (values_of v.content) []

unfoldable pub elements : List Value → List Value
elements M = flat_map elements_of M

-- M/k: the values that the records of M have under key k
abbrev pub field_of : ℕ → Value → List Value
field_of k v = cond (eqb v.head.kind record_kind) (values_with k v.content) []

unfoldable pub field_values : ℕ → List Value → List Value
field_values k M = flat_map (field_of k) M

unfoldable pub select : (Value → Bool) → List Value → List Value
select test [] = []
select test (v ∷ M) = cond (test v) (v ∷ select test M) (select test M)

abbrev pub same_label : Label → Label → Bool
same_label l m = compare_is_eq (compare_label l m)

-- the values of M that have this class
unfoldable pub of_class : Equivalence → Label → List Value → List Value
of_class eq class M = select (λ v. same_label class (class_of eq v.head.kind v.content)) M

-- the records of M that have key k
unfoldable pub having : ℕ → List Value → List Value
having k M = select (λ v. eqb v.head.kind record_kind && member k (keys v.content)) M

-- Where a path has led: to the values of a class, or to the field k of the records M.
pub data Reached : Type 0 where
  values : (M : List Value) → Reached
  field : (k : ℕ) (M : List Value) → Reached

-- A place of document 01 is a path of labels: a message's class; then for a field's value the field's label and its own class,
-- and for an element its own class, which stands for the step "element" too. A path that ends in a field's label is that of a
-- field record.
unfoldable pub follow : Equivalence → Reached → Label → Reached
follow eq (values M) l = cond (same_label l (field_label l.key)) (field l.key M) (values (of_class eq l (elements M)))
follow eq (field k M) l = values (of_class eq l (field_values k M))

-- what some values give together, each as `give` says; none where there is no value
infixr 66 ◌⊞◌
abbrev pub ◌⊞◌ : Option Payload → Option Payload → Option Payload
x ⊞ y = join_option Counting x y

unfoldable pub gathered : (Value → Payload) → List Value → Option Payload
gathered give [] = absent
gathered give (v ∷ M) = some (give v) ⊞ gathered give M

abbrev pub value_payload : Value → Payload
value_payload v = one v.head v.content

unfoldable pub follow_all : Equivalence → Reached → List Label → Reached
follow_all eq r [] = r
follow_all eq r (l ∷ q) = follow_all eq (follow eq r l) q

-- where a place of the values M leads; the empty path is no place
unfoldable pub reached : Equivalence → List Value → List Label → Reached
reached eq M [] = values []
reached eq M (l ∷ q) = follow_all eq (values (of_class eq l M)) q

-- the values there, or the records there that have the field
unfoldable pub values_reached : Reached → List Value
values_reached (values M) = M
values_reached (field k M) = having k M

abbrev pub values_at : Equivalence → List Value → List Label → List Value
values_at eq M place = values_reached (reached eq M place)

-- what they give together: a value its own payload, a record that has the field one
unfoldable pub payload_reached : Reached → Option Payload
payload_reached (values M) = gathered value_payload M
payload_reached (field k M) = gathered (λ v. one_field) (having k M)

abbrev pub payload_at : Equivalence → List Value → List Label → Option Payload
payload_at eq M place = payload_reached (reached eq M place)

-- at each place the profile has what the values there give together
abbrev pub Counts : Type 0
Counts = (eq : Equivalence) (messages : Values) → Valid messages → (place : List Label) →
    lookup Counting (profile_of eq messages) place ≡ payload_at eq (values_of messages) place

-- a place stands in f, with some payload
abbrev pub Stands : CountingType → List Label → Type 0
Stands f place = (a : Payload) × (lookup Counting f place ≡ some a)

-- the profile has a place exactly if some value of the messages has it
abbrev pub StandsExactly : Type 0
StandsExactly = (eq : Equivalence) (messages : Values) → Valid messages → (place : List Label) →
    Stands (profile_of eq messages) place ↔ (1 ≤ length (values_at eq (values_of messages) place))

-- the count at a place is the number of values there; a field's is the number of records there that have it
abbrev pub count_of : Option Payload → ℕ
count_of absent = 0
count_of (some a) = a.count

abbrev pub CountIsNumber : Type 0
CountIsNumber = (eq : Equivalence) (M : List Value) (place : List Label) → count_of (payload_at eq M place) ≡ length (values_at eq M place)

-- a field's count is the total of its union
abbrev pub FieldTotals : CountingType → Type 0
FieldTotals nil = Unit {0}
FieldTotals (node l a c s) = (l.kind ≡ field_kind → a.count ≡ total Counting c) × FieldTotals c × FieldTotals s

-- under label, two records have one class exactly if they have the same keys
abbrev pub LabelsApart : Type 0
LabelsApart = (c d : Values) → Distinct (keys c) → Distinct (keys d) →
    (class_of by_label record_kind c ≡ class_of by_label record_kind d) ↔ ((k : ℕ) → member k (keys c) ≡ member k (keys d))
