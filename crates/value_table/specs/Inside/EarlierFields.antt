-- The earlier siblings of a record, as the code finds them: from the first one on by spans.
use Rattle.std.specs.Prelude.{◌≡◌, Option, None, Some, Bool, true, false, cond, List, ℕ, zero, suc, ◌+◌, ◌%◌, ◌≤◌, ◌<◌, eqb, length, get_or}
use Rattle.value_table.specs.Value.{key_at, span_at, record_kind}
use Rattle.value_table.specs.Judged.{fault}
use Rattle.byte_records.specs.Inside.Chain.{Chain}
use Rattle.value_table.specs.declared.Fault.{Fault}
use Rattle.value_table.specs.declared.faults.Level.{Level}
use Rattle.value_table.specs.Outcome.{number_of_fault}

-- the first field of a record that has had these keys before record i, or none outside records
pub data FieldsBefore (b : List ℕ) (i : ℕ) : Option ℕ → Bool → List ℕ → Type 0 where
  field : {first : ℕ} {ks : List ℕ} → Chain (span_at b) (key_at b) i first ks → FieldsBefore b i (Some first) true ks
  other : {ks : List ℕ} → FieldsBefore b i None false ks

pub record EarlierFields (b : List ℕ) (i first : ℕ) : Type 0 where
  pub keys : List ℕ
  pub chain : Chain (span_at b) (key_at b) i first keys

pub record Parent (b : List ℕ) (i : ℕ) (first : Option ℕ) : Type 0 where
  pub is_field : Bool
  pub keys : List ℕ
  pub before : FieldsBefore b i first is_field keys

-- how many buckets the keys are spread over, by their remainders
abbrev pub key_buckets : ℕ
key_buckets = 64

-- each bucket has the latest of its records before i, or a number above them
pub record Latest (b : List ℕ) (i : ℕ) (latest : List ℕ) : Type 0 where
  pub buckets : length latest ≡ key_buckets
  pub upto : (q : ℕ) → q < i → q ≤ get_or latest (key_at b q % key_buckets) 0

-- x is the fault of record i at this level and depth
abbrev pub FaultIs : ℕ → List ℕ → ℕ → Level → ℕ → ℕ → Type 0
FaultIs largest b i level depth x =
    (is_field : Bool) (ks : List ℕ) → FieldsBefore b i level.first is_field ks → (is_field ≡ true → length ks ≡ level.count) → x ≡ fault largest b i level.end is_field ks depth

abbrev pub no_level : Level
no_level = record { end = 0; first = None; count = 0 }

abbrev pub level_at : List Level → ℕ → Level
level_at levels depth = get_or levels depth no_level

-- the innermost of the levels up to `depth` that does not end at record i, or else the outermost
abbrev pub innermost : List Level → ℕ → ℕ → ℕ
innermost levels zero i = 0
innermost levels (suc depth) i = cond (eqb (level_at levels (suc depth)).end i) (innermost levels depth i) (suc depth)

-- the first field of a value of this kind at record i, if it is a record
abbrev pub first_of : ℕ → ℕ → Option ℕ
first_of kind i = cond (eqb kind record_kind) (Some (i + 1)) None

-- what a look at one record finds, 0 for nothing
abbrev pub number_of_finding : Option Fault → ℕ
number_of_finding None = 0
number_of_finding (Some fault) = number_of_fault fault
