-- 'Classes and places' of document 01 for the 16-byte records that removal alone works on: the counting trie over labels.
use Rattle.std.specs.Prelude.{cond, ℕ, eqb}
use Rattle.counting_theory.specs.Label.{field_kind, Label, compare_label}
use Rattle.removal_theory.specs.Payload.{Payload, join}
use Rattle.counting_theory.specs.Trie.{TrieOps, Trie}

-- the counts of a union total, those of a record's fields don't
abbrev pub weight_of : Label → Payload → ℕ
weight_of l a = cond (eqb l.kind field_kind) 0 a.count

abbrev pub Counting : TrieOps
Counting = record { Label = Label; Payload = Payload; compare = compare_label; join = join; weight = weight_of }

abbrev pub CountingType : Type 0
CountingType = Trie Counting
