-- The same entries by one pass over the records of an arena, as the code writes them.
use Rattle.std.specs.Prelude.{Result, Ok, Err, ◌≡◌, cond, List, [], ◌++◌, ℕ, zero, suc, ◌+◌, ◌*◌, ◌≤◌, ◌<◌, eqb, length}
use Rattle.std.proofs.lemmas.List.Edits.{sets}
use Rattle.value_table.specs.Value.{record_kind}
use Rattle.counting_theory.specs.Encoding.{type_size, type_kind, type_key, type_span}
use Rattle.type_arena.specs.Inside.Arena.{keys_in}
use Rattle.key_word.specs.Inside.Fields.{WordFields}
use Rattle.type_arena.specs.declared.record_store.NoRoom.{NoRoom}
use Rattle.tag_bus.specs.Entries.{entry}

-- what is written for record i
unfoldable pub entry_at : List ℕ → ℕ → List ℕ
entry_at b i = cond (eqb (type_kind b i) record_kind) (entry (keys_in b i)) []

-- and for n records from i on
unfoldable pub entries_from : List ℕ → ℕ → ℕ → List ℕ
entries_from b zero i = []
entries_from b (suc n) i = entry_at b i ++ entries_from b n (i + 1)

-- record i stands in b, with fields whose keys a word can hold
pub record WordRecord (b : List ℕ) (i : ℕ) : Type 0 where
  pub whole : type_size * i + type_size ≤ length b
  pub within : type_size * (i + type_span b i) ≤ length b
  pub fields : WordFields (type_span b) (type_key b) (i + type_span b i) (i + 1) (keys_in b i)

-- so do all of kind 5 among the first n records of b
pub record WordRecords (b : List ℕ) (n : ℕ) : Type 0 where
  pub within : type_size * n ≤ length b
  pub each : (i : ℕ) → i < n → type_kind b i ≡ record_kind → WordRecord b i

-- the bytes es stand in the front of what was `before`, or have no room there
abbrev pub EntriesPut : List ℕ → List ℕ → Result ℕ NoRoom → List ℕ → Type 0
EntriesPut es before (Ok k) b = (k ≡ length es) × (k ≤ length before) × (b ≡ sets before 0 es)
EntriesPut es before (Err _) b = length before < length es
