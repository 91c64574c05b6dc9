-- Records of 16 bytes that hold a type.
use Rattle.std.specs.Prelude.{◌≡◌, Bool, List, ◌++◌, ℕ, ◌+◌, ◌*◌, drop}
use Rattle.counting_theory.specs.Trie.{size}
use Rattle.counting_theory.specs.declared.equivalence.Equivalence.{Equivalence}
use Rattle.removal_theory.specs.Label.{CountingType}
use Rattle.removal_theory.specs.Encoding.{type_size, encode, Tagged}
use Rattle.removal_theory.specs.WellFormed.{Shallow}
use Rattle.removal_theory.specs.Inside.TypeBytes.{Fitting}

-- records i to end of b hold f, a union or (field ≡ true) a run of fields at this depth
pub record RecordsHold (e : Equivalence) (b : List ℕ) (i end : ℕ) (field : Bool) (depth : ℕ) (f : CountingType) : Type 0 where
  pub bytes : drop (type_size * i) b ≡ encode f ++ drop (type_size * end) b
  pub ends : i + size f ≡ end
  pub tagged : Tagged e field f
  pub shallow : Shallow field depth f
  pub fitting : Fitting f
