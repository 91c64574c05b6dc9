-- What the counts of fields are in the types of 16-byte records that removal alone works on.
use Rattle.std.specs.Prelude.{◌≡◌}
use Rattle.counting_theory.specs.Trie.{nil, node, total}
use Rattle.counting_theory.specs.Label.{field_kind}
use Rattle.removal_theory.specs.Label.{Counting, CountingType}

-- a field's count is the total of its union
abbrev pub FieldTotals : CountingType → Type 0
FieldTotals nil = Unit {0}
FieldTotals (node l a c s) = (l.kind ≡ field_kind → a.count ≡ total Counting c) × FieldTotals c × FieldTotals s
