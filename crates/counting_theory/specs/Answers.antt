-- 'The five calls' and 'When a call is turned down' of document 01: for each call on types its outcome, and every byte that it
-- leaves in the buffers lent to it, for every input.
use Rattle.std.specs.Prelude.{◌≡◌, Result, Ok, Err, Bool, cond, not, ◌||◌, List, [], ◌++◌, ℕ, zero, suc, ◌*◌, ◌-◌, ◌/◌, eqb, ltb, length}
use Rattle.std.proofs.Math.Option.{Option, none, some}
use Rattle.byte_records.specs.Number.{zeros}
use Rattle.value_table.specs.Value.{max_length}
use Rattle.value_table.specs.Outcome.{Outcome, accepted, refused}
use Rattle.value_table.specs.Judged.{bad_length, judged, messages}
use Rattle.counting_theory.specs.Trie.{size, reduce}
use Rattle.counting_theory.specs.Label.{Counting, CountingType}
use Rattle.counting_theory.specs.declared.equivalence.Equivalence.{Equivalence}
use Rattle.counting_theory.specs.declared.equivalence.Equivalence.TheVariants.{Kind as by_kind, Label as by_label}
use Rattle.counting_theory.specs.declared.equivalence.UnknownEquivalence.{UnknownEquivalence}
use Rattle.counting_theory.specs.Raw.{profile_of}
use Rattle.counting_theory.specs.Encoding.{type_size, type_records, encode, type_of}
use Rattle.counting_theory.specs.WellFormed.{within_limit, well_formed, bad_type_length}

-- equivalence 0 is kind, 1 is label, and there is no other
abbrev pub equivalence_of : ℕ → Option Equivalence
equivalence_of zero = some by_kind
equivalence_of (suc zero) = some by_label
equivalence_of (suc (suc n)) = none

abbrev pub equivalence_number : Equivalence → ℕ
equivalence_number by_kind = 0
equivalence_number by_label = 1

-- what the code answers for the equivalence of a number
abbrev pub IsEquivalence : ℕ → Result Equivalence UnknownEquivalence → Type 0
IsEquivalence number (Ok e) = equivalence_of number ≡ some e
IsEquivalence number (Err _) = equivalence_of number ≡ none

-- the equivalence of call 3: kind in document 01, label by change 5 of document 02
abbrev pub house_default : Equivalence
house_default = by_label

-- What a call that writes a type answers, and the bytes of that type; none where it is turned down.
pub record Written : Type 0 where
  pub outcome : Outcome
  pub bytes : List ℕ

abbrev pub turned_down : ℕ → ℕ → Written
turned_down number place = record { outcome = refused number place; bytes = [] }

-- an arena of n bytes afterwards: the type's bytes at the front, the rest zero
abbrev pub arena_with : ℕ → Written → List ℕ
arena_with n w = w.bytes ++ zeros (n - length w.bytes)

-- What a call leaves: its answer and the buffers lent to it. A merge has no working buffer.
pub record Left : Type 0 where
  pub outcome : Outcome
  pub arena : List ℕ
  pub work : List ℕ

abbrev pub leaves : Written → List ℕ → List ℕ → Left
leaves w arena work = record { outcome = w.outcome; arena = arena_with (length arena) w; work = zeros (length work) }

-- 11: the resulting type has more records than the arena of n bytes
abbrev pub stored : ℕ → CountingType → Written
stored n f = cond (ltb n (type_size * size f)) (turned_down 11 0) (record { outcome = accepted (size f); bytes = encode f })

-- the largest allowed arena: as many whole records as the limit on lengths has room for
abbrev pub largest_arena : ℕ
largest_arena = type_size * (max_length / type_size)

-- Call 4: 1, 2, then 8.
abbrev pub judged_under : Option Equivalence → List ℕ → Outcome
judged_under none b = refused 2 0
judged_under (some e) b = cond (well_formed e b) (accepted (type_records b)) (refused 8 0)

unfoldable pub judged_type : List ℕ → ℕ → Outcome
judged_type b equivalence = cond (bad_type_length (length b)) (refused 1 0) (judged_under (equivalence_of equivalence) b)

-- 1: a table or an arena of a wrong length, or a working buffer that is not as long as the arena
abbrev pub bad_buffers : ℕ → ℕ → ℕ → Bool
bad_buffers table arena work = bad_length table || bad_type_length arena || not (eqb work arena)

-- Call 2: 1, 2, the table's own refusal with its place, then 11. n is the arena's length.
abbrev pub inferred_from : Outcome → Equivalence → List ℕ → ℕ → Written
inferred_from o e table n = elim o.number [ zero ↦ stored n (profile_of e (messages table)) | suc k ↦ turned_down (suc k) o.place ]

abbrev pub inferred_under : Option Equivalence → List ℕ → ℕ → Written
inferred_under none table n = turned_down 2 0
inferred_under (some e) table n = inferred_from (judged table) e table n

unfoldable pub inferred : List ℕ → ℕ → ℕ → ℕ → Written
inferred table equivalence arena work =
    cond (bad_buffers (length table) arena work) (turned_down 1 0) (inferred_under (equivalence_of equivalence) table arena)

-- Call 3
abbrev pub inferred_default : List ℕ → ℕ → ℕ → Written
inferred_default table arena work = inferred table (equivalence_number house_default) arena work

-- Call 5: 1, 2, 8, 9, 10, 11.
abbrev pub merged_types : CountingType → ℕ → Written
merged_types f n = cond (within_limit f) (stored n f) (turned_down 10 0)

abbrev pub merged_under : Option Equivalence → List ℕ → List ℕ → ℕ → Written
merged_under none first second n = turned_down 2 0
merged_under (some e) first second n =
    cond (not (well_formed e first)) (turned_down 8 0)
    (cond (not (well_formed e second)) (turned_down 9 0)
    (merged_types (reduce Counting (type_of e first) (type_of e second)) n))

unfoldable pub merged : List ℕ → List ℕ → ℕ → ℕ → Written
merged first second equivalence arena =
    cond (bad_type_length (length first) || bad_type_length (length second) || bad_type_length arena) (turned_down 1 0)
    (merged_under (equivalence_of equivalence) first second arena)
