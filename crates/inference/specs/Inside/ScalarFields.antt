-- Fields with a scalar that stand in the arena already, as the contracts inside state it: a run of which some is added, and the searches
-- by key alone and by kind alone.
use Rattle.std.specs.Prelude.{Ok, Err, ◌≡◌, Bool, true, false, cond, List, [], ◌++◌, ℕ, ◌*◌, ◌≤◌, ◌<◌, ltb, length, drop}
use Rattle.value_table.specs.Value.{max_length, record_size, Values, none, value, ValidAt}
use Rattle.value_table.specs.Value as table
use Rattle.counting_theory.specs.Trie.{size, add}
use Rattle.counting_theory.specs.Label.{Label, field_kind, Counting, CountingType}
use Rattle.counting_theory.specs.declared.equivalence.Equivalence.{Equivalence}
use Rattle.counting_theory.specs.Inside.Times.{times}
use Rattle.counting_theory.specs.Raw.{raw}
use Rattle.counting_theory.specs.Encoding.{type_size, type_key, encode}
use Rattle.inference.specs.Inside.Inferring.{Found, InferredSiblings, ArenaHolds, Starts, StandsAt, split, wanted, with_item, Grown}

-- what is left of the run vs from record i on, and the siblings g that it is to be added to, w times
pub record AddedSoFar (e : Equivalence) (field : Bool) (w : ℕ) (vs : Values) (f : CountingType) (q a t : List ℕ) (m i from : ℕ) : Type 0 where
  pub as_fields : Bool
  pub depth : ℕ
  pub left : Values
  pub g : CountingType
  pub free : List ℕ
  pub left-bytes : drop (record_size * i) t ≡ table.encode left
  pub valid : ValidAt as_fields depth left
  pub fields : field ≡ true → as_fields ≡ true
  pub held : a ≡ encode g ++ (q ++ free)
  pub count : m ≡ size g
  pub siblings : InferredSiblings e field g
  pub starts : Starts from g
  pub some : 1 ≤ w
  pub same : add Counting (times w (raw e field left)) g ≡ add Counting (times w (raw e field vs)) f

-- the same of some run, with the lengths that bound it
pub record SomeAddedSoFar (field : Bool) (w : ℕ) (a t : List ℕ) (n i from : ℕ) : Type 0 where
  pub equivalence : Equivalence
  pub vs : Values
  pub f : CountingType
  pub q : List ℕ
  pub rest : ℕ
  pub used : length q ≡ type_size * rest
  pub ran : AddedSoFar equivalence field w vs f q a t n i from
  pub short : length a ≤ max_length
  pub short-table : length t ≤ max_length

-- the label of a kind and a key, where it has no key list
abbrev pub plain : Equivalence → ℕ → ℕ → Label
plain e kind key = wanted e kind key 0 []

-- some siblings, and one of them, or the end, at record `from`
pub record SomeFrom (field : Bool) (b : List ℕ) (n from : ℕ) : Type 0 where
  pub equivalence : Equivalence
  pub rest : ℕ
  pub f : CountingType
  pub q : List ℕ
  pub free : List ℕ
  pub holds : ArenaHolds equivalence field b n rest f q free
  pub starts : Starts from f

-- P holds of any fields that stand in the first n records of b, where one of them, or the end, is at record `from`
abbrev pub OfFields : List ℕ → ℕ → ℕ → (Equivalence → CountingType → List ℕ → Type 0) → Type 0
OfFields b n from P = (e : Equivalence) (rest : ℕ) (f : CountingType) (q free : List ℕ) → ArenaHolds e true b n rest f q free → Starts from f → P e f q

-- some fields, of which one stands at record p
pub record SomeField (b : List ℕ) (p : ℕ) : Type 0 where
  pub equivalence : Equivalence
  pub n : ℕ
  pub rest : ℕ
  pub key : ℕ
  pub f : CountingType
  pub q : List ℕ
  pub free : List ℕ
  pub holds : ArenaHolds equivalence true b n rest f q free
  pub here : StandsAt (plain equivalence field_kind key) f p

-- where a search for a field begins: at `from`, unless there is none, or one with a larger key
abbrev pub field_start : List ℕ → ℕ → ℕ → ℕ → ℕ
field_start b from n key = cond (ltb from n) (cond (ltb key (type_key b from)) 0 from) 0

-- one of the fields f stands at record p of n, with a smaller key
pub record BelowAt (b : List ℕ) (n key : ℕ) (f : CountingType) (p : ℕ) : Type 0 where
  pub starts : Starts p f
  pub within : p < n
  pub below : type_key b p < key

-- the field stands there (Ok); or a search for it may begin there
abbrev pub SoughtIn : Label → CountingType → Found → Type 0
SoughtIn l f (Ok p) = StandsAt l f p
SoughtIn l f (Err p) = Starts p f

-- the fields f with one more of this scalar, w times
abbrev pub with_scalar : Equivalence → ℕ → ℕ → ℕ → CountingType → CountingType
with_scalar e key kind w f = with_item e field_kind key w (value (record { kind = kind }) key none none) f

-- whether the scalar is counted in its field; if not, nothing has changed
abbrev pub ScalarCounted : CountingType → List ℕ → ℕ → List ℕ → Bool → List ℕ → Type 0
ScalarCounted g q n a true b = Grown g q n b
ScalarCounted g q n a false b = b ≡ a

-- the field with its scalar is counted, at record p; or nothing has changed, and a search for the field may begin there
abbrev pub FieldCounted : Equivalence → ℕ → ℕ → ℕ → CountingType → List ℕ → ℕ → List ℕ → Found → List ℕ → Type 0
FieldCounted e key kind w f q n a (Ok p) b = Grown (with_scalar e key kind w f) q n b × (p ≡ size (split (plain e field_kind key) f).before)
FieldCounted e key kind w f q n a (Err p) b = (b ≡ a) × Starts p f
