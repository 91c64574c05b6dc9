-- Figure 1 of document 000, type inference: which type its rules give to some values, and that this is the profile.
use Rattle.std.specs.Prelude.{◌≡◌, Bool, false, ◌↔◌, ℕ, eqb}
use Rattle.value_table.specs.Value.{Head, Values, none, value, Valid, record_kind, join_values}
use Rattle.counting_theory.specs.Payload.{one}
use Rattle.counting_theory.specs.Trie.{nil, reduce, Sorted}
use Rattle.counting_theory.specs.Label.{label_of, Counting, CountingType}
use Rattle.counting_theory.specs.declared.equivalence.Equivalence.{Equivalence}
use Rattle.counting_theory.specs.Raw.{addend, profile_of}
use Rattle.counting_theory.specs.Encoding.{sibling_keys, Tagged}
use Rattle.counting_theory.specs.Published.{EReduced}

-- The type of one value: its kind, counted once, with the type of its fields or elements inside, whose keys tell the class of a
-- record. A field has that type under its key.
abbrev pub own_type : Equivalence → Bool → Head → ℕ → Values → CountingType → CountingType
own_type eq field head key content inside = addend field key (label_of eq head.kind 0 (sibling_keys inside)) (one head content) inside nil

-- The rules, on messages or elements, or (field ≡ true) on the fields of a record.
pub data Infers (eq : Equivalence) : Bool → Values → CountingType → Type 0 where
  -- (TypeEmptyMultiset): no value has the empty type
  empty : {field : Bool} → Infers eq field none nil
  -- the rules of scalars, records and arrays: a value has its own type, as soon as its fields or elements have theirs
  single : {field : Bool} {head : Head} {key : ℕ} {content : Values} {inside : CountingType} → Infers eq (eqb head.kind record_kind) content inside →
      Infers eq field (value head key content none) (own_type eq field head key content inside)
  -- (TypeUnionMultiset): two collections together have Reduce of their types; the fields of one record, whose keys differ, are only put in order by it
  union : {field : Bool} {xs ys : Values} {f g : CountingType} → Infers eq field xs f → Infers eq field ys g →
      Infers eq field (join_values xs ys) (reduce Counting f g)

-- what the rules give to some messages is their profile and no other type, whichever way the messages are taken apart
abbrev pub InfersProfile : Type 0
InfersProfile = (eq : Equivalence) (messages : Values) (t : CountingType) → Valid messages →
    Infers eq false messages t ↔ (t ≡ profile_of eq messages)

-- the profile is a type as the statements on Reduce ask for, in which no two addends of one union are related
pub record IsReduced (eq : Equivalence) (t : CountingType) : Type 0 where
  pub tagged : Tagged eq false t
  pub sorted : Sorted Counting t
  pub reduced : EReduced eq t

abbrev pub ProfileReduced : Type 0
ProfileReduced = (eq : Equivalence) (messages : Values) → Valid messages → IsReduced eq (profile_of eq messages)

-- the profile of two collections together is Reduce of their profiles
abbrev pub ProfileOfBoth : Type 0
ProfileOfBoth = (eq : Equivalence) (xs ys : Values) → profile_of eq (join_values xs ys) ≡ reduce Counting (profile_of eq xs) (profile_of eq ys)
