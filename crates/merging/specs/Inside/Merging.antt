-- The merge of two types on their bytes, as the code goes about it: what is stored, and where a limit is passed.
use Rattle.std.specs.Prelude.{◌≡◌, Bool, not, ◌||◌, List, ◌++◌, ℕ, ◌+◌, ltb, length}
use Rattle.std.proofs.lemmas.List.Edits.{sets}
use Rattle.counting_theory.specs.Payload.{join}
use Rattle.counting_theory.specs.Trie.{size, reduce, total, largest_below}
use Rattle.counting_theory.specs.Label.{Counting, CountingType}
use Rattle.counting_theory.specs.declared.equivalence.Equivalence.{Equivalence}
use Rattle.counting_theory.specs.Encoding.{type_kind, type_key, type_payload, encode, type_of}
use Rattle.counting_theory.specs.WellFormed.{max_total, within_limit}
use Rattle.type_arena.specs.Inside.Arena.{header_of}
use Rattle.type_arena.specs.Inside.Addend.{body}

-- some union, or some union inside, totals above the limit
unfoldable pub exceeds : CountingType → Bool
exceeds f = not (within_limit f)

unfoldable pub exceeds_below : CountingType → Bool
exceeds_below f = ltb max_total (largest_below Counting f)

-- the merge of two unions totals above the limit, whatever stands inside
abbrev pub exceeds_here : Equivalence → List ℕ → List ℕ → Bool
exceeds_here e x y = ltb max_total (total Counting (type_of e x) + total Counting (type_of e y))

-- the merge of two runs, and its bytes
unfoldable pub both : Equivalence → List ℕ → List ℕ → CountingType
both e x y = reduce Counting (type_of e x) (type_of e y)

unfoldable pub merged_bytes : Equivalence → List ℕ → List ℕ → List ℕ
merged_bytes e x y = encode (both e x y)

-- the merge of their first addends, which have one label
unfoldable pub joined_bytes : Equivalence → List ℕ → List ℕ → List ℕ
joined_bytes e x y =
    header_of (type_kind x 0) (type_key x 0) (1 + size (both e (body x) (body y))) (join (type_payload x 0) (type_payload y 0)) ++ merged_bytes e (body x) (body y)

-- the merge of a and b is stored from byte k₀ on, but for the tail t of a, which comes next, at byte k
pub record MergedSoFar (e : Equivalence) (a b out₀ : List ℕ) (k₀ : ℕ) (over₀ : Bool) (t out : List ℕ) (k : ℕ) (over : Bool) : Type 0 where
  pub bytes : sets out k t ≡ sets out₀ k₀ (merged_bytes e a b)
  pub upto : k + length t ≡ k₀ + length (merged_bytes e a b)
  pub seen : over ≡ (over₀ || exceeds_below (both e a b))

-- the merge of a and b, of n bytes, is stored from byte k on
pub record MergeStored (e : Equivalence) (a b out₀ : List ℕ) (k : ℕ) (out : List ℕ) (n : ℕ) (over : Bool) : Type 0 where
  pub bytes : out ≡ sets out₀ k (merged_bytes e a b)
  pub counted : n ≡ length (merged_bytes e a b)
  pub seen : over ≡ exceeds (both e a b)

-- the same of the first addends of x and y
pub record Joined (e : Equivalence) (x y out₀ : List ℕ) (k : ℕ) (out : List ℕ) (n : ℕ) (over : Bool) : Type 0 where
  pub bytes : out ≡ sets out₀ k (joined_bytes e x y)
  pub counted : n ≡ length (joined_bytes e x y)
  pub seen : over ≡ exceeds (both e (body x) (body y))
