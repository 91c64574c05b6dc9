-- Change 6 of document 02: the entries beside a type, one for each addend of kind 5 in arena order.
use Rattle.std.specs.Prelude.{◌≡◌, cond, List, [], ◌∷◌, ◌++◌, ℕ, ◌+◌, ◌*◌, eqb, length}
use Rattle.std.specs.Int.Count.{ones}
use Rattle.byte_records.specs.Format.{Format, width_of, record_bytes}
use Rattle.value_table.specs.Value.{record_kind}
use Rattle.counting_theory.specs.Trie.{nil, node}
use Rattle.counting_theory.specs.Label.{Label, CountingType}
use Rattle.counting_theory.specs.Raw.{ascending}
use Rattle.counting_theory.specs.Encoding.{sibling_keys}
use Rattle.key_word.specs.Word.{word, WordOf}

-- a key set as one word, then the number of fields, which is the count of ones
abbrev pub entry_format : Format
entry_format = 8 ∷ 8 ∷ []

abbrev pub entry_size : ℕ
entry_size = width_of entry_format

abbrev pub entry_of : ℕ → List ℕ
entry_of w = record_bytes entry_format (w ∷ ones w ∷ [])

abbrev pub entry : List ℕ → List ℕ
entry keys = entry_of (word keys)

-- in preorder, as the records stand in the arena: an addend, then those inside it
unfoldable pub entries : CountingType → List ℕ
entries nil = []
entries (node l a children next) = cond (eqb l.kind record_kind) (entry (sibling_keys children)) [] ++ (entries children ++ entries next)

-- how many
unfoldable pub entry_count : CountingType → ℕ
entry_count nil = 0
entry_count (node l a children next) = cond (eqb l.kind record_kind) 1 0 + (entry_count children + entry_count next)

abbrev pub EntriesLength : Type 0
EntriesLength = (f : CountingType) → length (entries f) ≡ entry_size * entry_count f

-- The keys of an addend's fields ascend and are those in its label, and its word has exactly these keys.
pub record ExactEntry (l : Label) (children : CountingType) : Type 0 where
  pub label : l.keys ≡ sibling_keys children
  pub ascend : ascending (sibling_keys children) ≡ sibling_keys children
  pub exact : WordOf (sibling_keys children) (word (sibling_keys children))

-- that holds of each addend of kind 5
unfoldable pub Exact : CountingType → Type 0
Exact nil = Unit {0}
Exact (node l a children next) = (l.kind ≡ record_kind → ExactEntry l children) × Exact children × Exact next
