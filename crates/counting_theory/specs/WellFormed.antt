-- Which bytes are a well-formed type: 'Type arena' of document 01, rule by rule in its order, on any bytes.
use Rattle.std.specs.Prelude.{◌≡◌, ◌⊎◌, ◌↔◌, Bool, true, false, cond, not, ◌&&◌, ◌||◌, List, eqb, leb, ltb, length}
use Prim.Native.Nat.Ordering.{eq}
use Prim.Native.Nat.Ordering.{gt}
use Prim.Native.Nat.Ordering.{lt}
use Prim.Native.Nat.{ℕ, zero, suc, ◌+◌, ◌*◌, ◌%◌, ◌≤◌, ◌<◌, Ordering}
use Rattle.byte_records.specs.Number.{Bytes}
use Rattle.value_table.specs.Value.{record_size, max_length, max_depth, record_kind, array_kind, last_scalar, Values, none, value, Valid}
use Rattle.value_table.specs.Value as table
use Rattle.counting_theory.specs.Payload.{proper}
use Rattle.counting_theory.specs.Trie.{nil, node, size, lookup, reduce, Sorted, total, largest_total}
use Rattle.counting_theory.specs.Label.{Label, field_kind, compare_label, Counting, CountingType}
use Rattle.counting_theory.specs.declared.equivalence.Equivalence.{Equivalence}
use Rattle.counting_theory.specs.declared.equivalence.Equivalence.TheVariants.{Kind as by_kind, Label as by_label}
use Rattle.counting_theory.specs.Raw.{profile_of}
use Rattle.counting_theory.specs.Place.{◌⊞◌, count_of, Stands, FieldTotals}
use Rattle.counting_theory.specs.Encoding.{type_size, type_records, type_kind, type_zero, type_key, type_span, encode, type_of, Tagged}

-- the most that the counts of one union may total
abbrev pub max_total : ℕ
max_total = 1000000000000000

-- Kinds, zeros, keys, spans and depth are as said, and kinds 1 to 4 have span 1: the record of a field, whose union is not empty,
-- and the record of an addend at this depth.
abbrev pub field_record : List ℕ → ℕ → Bool
field_record b i = eqb (type_kind b i) field_kind && leb 1 (type_key b i) && leb 2 (type_span b i)

abbrev pub addend_record : List ℕ → ℕ → ℕ → Bool
addend_record b i depth =
    leb 1 (type_kind b i) && leb (type_kind b i) array_kind && eqb (type_key b i) 0 && leb depth max_depth
    && (ltb last_scalar (type_kind b i) || eqb (type_span b i) 1)

abbrev pub placed_record : List ℕ → ℕ → ℕ → Bool
placed_record b i end = eqb (type_zero b i) 0 && leb 1 (type_span b i) && leb (i + type_span b i) end

unfoldable pub type_record : List ℕ → ℕ → ℕ → Bool → ℕ → Bool
type_record b i end field depth = placed_record b i end && cond field (field_record b i) (addend_record b i depth)

-- what stands inside record i is a run of fields if the record is an addend of kind 5, else a union
abbrev pub holds_fields : List ℕ → ℕ → Bool → Bool
holds_fields b i field = not field && eqb (type_kind b i) record_kind

-- a field has its record's depth; the addends of a union are one deeper than what holds it
abbrev pub depth_inside : Bool → ℕ → ℕ
depth_inside fields depth = cond fields depth (depth + 1)

-- records i to end are a union, or (field ≡ true) a run of fields; k bounds the number of records
unfoldable pub laid_out : List ℕ → ℕ → ℕ → ℕ → Bool → ℕ → Bool
laid_out b zero i end field depth = eqb i end
laid_out b (suc k) i end field depth =
    elim (eqb i end) [
      | true ↦ true
      | false ↦ type_record b i end field depth
          && laid_out b k (i + 1) (i + type_span b i) (holds_fields b i field) (depth_inside (holds_fields b i field) depth)
          && laid_out b k (i + type_span b i) end field depth
    ]

-- each count is at least 1
unfoldable pub counted : CountingType → Bool
counted nil = true
counted (node l a c s) = leb 1 a.count && counted c && counted s

-- the counts of any union total at most 10^15
unfoldable pub within_limit : CountingType → Bool
within_limit f = leb (largest_total Counting f) max_total

-- Addends ascend by kind and, in one kind, strictly by key list, which is empty but for kind 5 under label; fields ascend strictly
-- by key.
abbrev pub is_lt : Ordering → Bool
is_lt lt = true
is_lt eq = false
is_lt gt = false

abbrev pub precedes : Label → CountingType → Bool
precedes l nil = true
precedes l (node m a c s) = is_lt (compare_label l m)

unfoldable pub ascends : CountingType → Bool
ascends nil = true
ascends (node l a c s) = precedes l s && ascends c && ascends s

-- a field's count is the total of its union
unfoldable pub field_totals : CountingType → Bool
field_totals nil = true
field_totals (node l a c s) = (not (eqb l.kind field_kind) || eqb a.count (total Counting c)) && field_totals c && field_totals s

-- under kind a field's count is at most its record's, under label equal to it
abbrev pub field_count : Equivalence → ℕ → ℕ → Bool
field_count by_kind count of_record = leb count of_record
field_count by_label count of_record = eqb count of_record

unfoldable pub fields_of : Equivalence → ℕ → CountingType → Bool
fields_of e of_record nil = true
fields_of e of_record (node l a c s) = field_count e a.count of_record && fields_of e of_record s

unfoldable pub field_counts : Equivalence → CountingType → Bool
field_counts e nil = true
field_counts e (node l a c s) = (not (eqb l.kind record_kind) || fields_of e a.count c) && field_counts e c && field_counts e s

-- what each payload asks
unfoldable pub measured : CountingType → Bool
measured nil = true
measured (node l a c s) = proper l.kind a (total Counting c) && measured c && measured s

abbrev pub obeys : Equivalence → CountingType → Bool
obeys e f = counted f && within_limit f && ascends f && field_totals f && field_counts e f && measured f

unfoldable pub well_formed : Equivalence → List ℕ → Bool
well_formed e b = laid_out b (type_records b) 0 (type_records b) false 1 && obeys e (type_of e b)

-- A length that is refused by 1.
unfoldable pub bad_type_length : ℕ → Bool
bad_type_length n = not (eqb (n % type_size) 0) || ltb max_length n

-- the keys of fields fit, and the depth of addends, from `depth` on, is at most 32
abbrev pub Shallow : Bool → ℕ → CountingType → Type 0
Shallow field depth nil = Unit {0}
Shallow true depth (node l a c s) = (1 ≤ l.key) × (l.key < 65536) × Shallow false (depth + 1) c × Shallow true depth s
Shallow false depth (node l a c s) =
    (depth ≤ max_depth) × Shallow (eqb l.kind record_kind) (depth_inside (eqb l.kind record_kind) depth) c × Shallow false depth s

-- f is a well-formed type, and b its bytes
pub record IsType (e : Equivalence) (b : List ℕ) (f : CountingType) : Type 0 where
  pub bytes : b ≡ encode f
  pub room : type_size * size f ≤ max_length
  pub tagged : Tagged e false f
  pub shallow : Shallow false 1 f
  pub sorted : Sorted Counting f
  pub counts : counted f ≡ true
  pub limit : within_limit f ≡ true
  pub totals : FieldTotals f
  pub fields : field_counts e f ≡ true
  pub payloads : measured f ≡ true

-- well_formed holds exactly of the bytes of well-formed types, and each is the bytes of one type alone
abbrev pub WellFormedIsType : Type 0
WellFormedIsType = (e : Equivalence) (b : List ℕ) → Bytes b → bad_type_length (length b) ≡ false →
    (well_formed e b ≡ true) ↔ IsType e b (type_of e b)

abbrev pub TypeUnique : Type 0
TypeUnique = (e : Equivalence) (b : List ℕ) (f : CountingType) → IsType e b f → f ≡ type_of e b

-- types are written in one order: those with the same payloads at the same places have the same bytes
abbrev pub OneOrder : Type 0
OneOrder = (e : Equivalence) (b c : List ℕ) (f g : CountingType) → IsType e b f → IsType e c g →
    ((place : List Label) → lookup Counting f place ≡ lookup Counting g place) → b ≡ c

-- each message fits a table
abbrev pub EachFits : Values → Type 0
EachFits none = Unit {0}
EachFits (value head key content next) = (record_size * (1 + table.size content) ≤ max_length) × EachFits next

-- within the limits the profile of such messages, if they are valid, is well formed
abbrev pub ProfileIsType : Type 0
ProfileIsType = (e : Equivalence) (messages : Values) → Valid messages → EachFits messages → type_size * size (profile_of e messages) ≤ max_length →
    within_limit (profile_of e messages) ≡ true → IsType e (encode (profile_of e messages)) (profile_of e messages)

-- within the limits the reduced type of two is well formed again
abbrev pub ReduceIsType : Type 0
ReduceIsType = (e : Equivalence) (a b : List ℕ) (f g : CountingType) → IsType e a f → IsType e b g →
    type_size * size (reduce Counting f g) ≤ max_length → within_limit (reduce Counting f g) ≡ true →
    IsType e (encode (reduce Counting f g)) (reduce Counting f g)

-- A place stands in the reduced type of f and g exactly if it stands in one of the two, with what they have there together; its count is
-- the sum of theirs, where a type without the place counts 0.
pub record MergedAt (f g : CountingType) (place : List Label) : Type 0 where
  pub stands : Stands (reduce Counting f g) place ↔ (Stands f place ⊎ Stands g place)
  pub payload : lookup Counting (reduce Counting f g) place ≡ lookup Counting f place ⊞ lookup Counting g place
  pub count : count_of (lookup Counting (reduce Counting f g) place) ≡ count_of (lookup Counting f place) + count_of (lookup Counting g place)

abbrev pub MergedPlaces : Type 0
MergedPlaces = (f g : CountingType) (place : List Label) → MergedAt f g place

-- a type merged with itself has the same places, each with twice its count
abbrev pub MergedTwice : Type 0
MergedTwice = (f : CountingType) (place : List Label) →
    (Stands (reduce Counting f f) place ↔ Stands f place) × (count_of (lookup Counting (reduce Counting f f) place) ≡ 2 * count_of (lookup Counting f place))
