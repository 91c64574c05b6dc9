-- The first addend or field of a run of 16-byte type records, on its bytes; and which bytes are a run.
use Rattle.std.specs.Prelude.{◌≡◌, Bool, List, ℕ, ◌+◌, ◌*◌, ◌-◌, ◌≤◌, length, take, drop}
use Rattle.std.proofs.lemmas.List.Edits.{sets}
use Rattle.counting_theory.specs.declared.equivalence.Equivalence.{Equivalence}
use Rattle.removal_theory.specs.Label.{CountingType}
use Rattle.removal_theory.specs.Encoding.{type_size, type_span, encode, Tagged}
use Rattle.removal_theory.specs.Inside.TypeBytes.{Fitting}

-- The first addend or field of a run x with what stands inside it, what stands inside it, and what follows it.
unfoldable pub front : List ℕ → List ℕ
front x = take (type_size * type_span x 0) x

unfoldable pub body : List ℕ → List ℕ
body x = take (type_size * type_span x 0 - type_size) (drop type_size x)

unfoldable pub rest : List ℕ → List ℕ
rest x = drop (type_size * type_span x 0) x

-- x has a whole first addend or field
pub record Headed (x : List ℕ) : Type 0 where
  pub some : 1 ≤ type_span x 0
  pub whole : type_size * type_span x 0 ≤ length x

-- the first addend of x is stored as it is, up to byte k, and r is left
pub record Kept (x out₀ : List ℕ) (k₀ : ℕ) (r out : List ℕ) (k : ℕ) : Type 0 where
  pub bytes : out ≡ sets out₀ k₀ (front x)
  pub upto : k ≡ k₀ + length (front x)
  pub left : r ≡ rest x

-- x is the bytes of a union, or (field ≡ true) of a run of fields
pub record Coded (e : Equivalence) (field : Bool) (x : List ℕ) : Type 0 where
  pub trie : CountingType
  pub bytes : x ≡ encode trie
  pub tagged : Tagged e field trie
  pub fitting : Fitting trie
