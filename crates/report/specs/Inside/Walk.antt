-- What the walk over the records of a type expects of them, and what it leaves to the records inside.
use Rattle.std.specs.Prelude.{Bool, false, cond, ◌≡◌, List, ℕ, zero, suc, ◌+◌, ◌-◌, ◌*◌, ◌≤◌, ◌<◌, max, eqb, length, take, drop}
use Rattle.value_table.specs.Value.{max_length, record_kind}
use Rattle.counting_theory.specs.Trie.{nil, node, total}
use Rattle.counting_theory.specs.Label.{Counting, CountingType}
use Rattle.counting_theory.specs.declared.equivalence.Equivalence.{Equivalence}
use Rattle.counting_theory.specs.Encoding.{type_size, type_kind, type_key, type_span, type_of}
use Rattle.counting_theory.specs.Inside.TypeBytes.{type_count}
use Rattle.counting_theory.specs.WellFormed.{max_total, depth_inside}
use Rattle.counting_theory.specs.Inside.RecordsHold.{RecordsHold}
use Rattle.type_arena.specs.Inside.Addend.{Coded}
use Rattle.report.specs.Line.{share, line_of}
use Rattle.report.specs.Report.{whole_inside}

-- the bytes of records i to end, and the type that they are
abbrev pub bytes_in : List ℕ → ℕ → ℕ → List ℕ
bytes_in b i end = take (type_size * end - type_size * i) (drop (type_size * i) b)

abbrev pub type_in : Equivalence → List ℕ → ℕ → ℕ → CountingType
type_in e b i end = type_of e (bytes_in b i end)

-- the line of record p, the depth of the records inside it, and what their shares are against
abbrev pub line_at : List ℕ → (p depth whole width : ℕ) → List ℕ
line_at b p depth whole width = line_of depth (type_kind b p) (type_key b p) width (type_count b p) (share (type_count b p) whole)

abbrev pub depth_in : List ℕ → (p depth : ℕ) → ℕ
depth_in b p depth = depth_inside (eqb (type_kind b p) record_kind) depth

abbrev pub whole_in : Equivalence → List ℕ → ℕ → ℕ
whole_in e b p = cond (eqb (type_kind b p) record_kind) (type_count b p) (total Counting (type_in e b (p + 1) (p + type_span b p)))

-- the largest count in the k records from i on
unfoldable pub largest_from : List ℕ → ℕ → ℕ → ℕ
largest_from b zero i = 0
largest_from b (suc k) i = max (type_count b i) (largest_from b k (i + 1))

-- each count is at least 1 and at most what its share is against, which keeps the limit
abbrev pub Shares : ℕ → CountingType → Type 0
Shares whole nil = Unit {0}
Shares whole (node l a inner next) =
    (1 ≤ a.count) × (a.count ≤ whole) × (whole_inside l a.count inner ≤ max_total) × Shares (whole_inside l a.count inner) inner × Shares whole next

-- The records inside record p, up to `end`. They are fields if p is a record, else a union whose total keeps the limit.
pub record Inside (e : Equivalence) (b : List ℕ) (p end : ℕ) : Type 0 where
  pub ends : end ≡ p + type_span b p
  pub some : p < end
  pub within : type_size * end ≤ length b
  pub coded : (type_kind b p ≡ record_kind → ⊥) → Coded e false (bytes_in b (p + 1) end)
  pub limit : (type_kind b p ≡ record_kind → ⊥) → total Counting (type_in e b (p + 1) end) ≤ max_total

-- records i to end are a union or the fields of a record, with shares against `whole`; each level of depth has a record before i
pub record PrintedRun (e : Equivalence) (b : List ℕ) (i end depth whole : ℕ) : Type 0 where
  pub field : Bool
  pub holds : RecordsHold e b i end field depth (type_in e b i end)
  pub shares : Shares whole (type_in e b i end)
  pub limit : whole ≤ max_total
  pub deep : depth ≤ i + 1
  pub within : type_size * end ≤ length b
  pub short : length b ≤ max_length

-- record p stands in b, and its share against `whole` can be told
pub record Printable (b : List ℕ) (p whole : ℕ) : Type 0 where
  pub here : type_size * p + type_size ≤ length b
  pub count_low : 1 ≤ type_count b p
  pub count-high : type_count b p ≤ whole
  pub limit : whole ≤ max_total
