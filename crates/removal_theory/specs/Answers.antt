-- How a type of 16-byte records, which removal alone works on, is stored; and the merge of two such types, which says what removal gives.
use Rattle.std.specs.Prelude.{cond, not, ◌||◌, List, ℕ, ◌*◌, ◌/◌, ltb, length}
use Rattle.std.proofs.Math.Option.{Option, none, some}
use Rattle.value_table.specs.Value.{max_length}
use Rattle.value_table.specs.Outcome.{accepted}
use Rattle.counting_theory.specs.Trie.{size, reduce}
use Rattle.counting_theory.specs.declared.equivalence.Equivalence.{Equivalence}
use Rattle.counting_theory.specs.Answers.{equivalence_of, Written, turned_down}
use Rattle.removal_theory.specs.Label.{Counting, CountingType}
use Rattle.removal_theory.specs.Encoding.{type_size, encode, type_of}
use Rattle.removal_theory.specs.WellFormed.{within_limit, well_formed, bad_type_length}

-- 11: the resulting type has more records than the arena of n bytes
abbrev pub stored : ℕ → CountingType → Written
stored n f = cond (ltb n (type_size * size f)) (turned_down 11 0) (record { outcome = accepted (size f); bytes = encode f })

-- the largest allowed arena: as many whole records as the limit on lengths has room for
abbrev pub largest_arena : ℕ
largest_arena = type_size * (max_length / type_size)

-- The merge of two such types: 1, 2, 8, 9, 10, 11.
abbrev pub merged_types : CountingType → ℕ → Written
merged_types f n = cond (within_limit f) (stored n f) (turned_down 10 0)

abbrev pub merged_under : Option Equivalence → List ℕ → List ℕ → ℕ → Written
merged_under none first second n = turned_down 2 0
merged_under (some e) first second n =
    cond (not (well_formed e first)) (turned_down 8 0)
    (cond (not (well_formed e second)) (turned_down 9 0)
    (merged_types (reduce Counting (type_of e first) (type_of e second)) n))

unfoldable pub merged : List ℕ → List ℕ → ℕ → ℕ → Written
merged first second equivalence arena =
    cond (bad_type_length (length first) || bad_type_length (length second) || bad_type_length arena) (turned_down 1 0)
    (merged_under (equivalence_of equivalence) first second arena)
