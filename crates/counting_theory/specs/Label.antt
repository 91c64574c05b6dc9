-- 'Classes and places' of document 01: labels, their order, and the counting trie over them.
use Rattle.std.specs.Prelude.{cond, List, [], eqb, length}
use Prim.Native.Nat.{ℕ, compare, Ordering}
use Rattle.value_table.specs.Value.{record_kind}
use Rattle.counting_theory.specs.Order.{then, compare_pair, compare_list, compare_on}
use Rattle.counting_theory.specs.Payload.{Payload, join}
use Rattle.counting_theory.specs.Trie.{TrieOps, Trie}
-- document 01's equivalence 0 and equivalence 1
use Rattle.counting_theory.specs.declared.equivalence.Equivalence.{Equivalence}
use Rattle.counting_theory.specs.declared.equivalence.Equivalence.TheVariants.{Kind as by_kind, Label as by_label}

abbrev pub field_kind : ℕ
field_kind = 7

-- What stands at one step of a place: the class of a value (key 0), or a field (its kind and key).
pub record Label : Type 0 where
  pub kind : ℕ
  pub key : ℕ
  pub keys : List ℕ

-- the key list that belongs to a class: that of a record, under label
unfoldable pub listed : Equivalence → ℕ → List ℕ → List ℕ
listed by_kind kind keys = []
listed by_label kind keys = cond (eqb kind record_kind) keys []

abbrev pub label_of : Equivalence → ℕ → ℕ → List ℕ → Label
label_of eq kind key keys = record { kind = kind; key = key; keys = listed eq kind keys }

abbrev pub field_label : ℕ → Label
field_label key = record { kind = field_kind; key = key; keys = [] }

-- the shorter list comes first, and of one length the first key that differs settles
unfoldable pub compare_keys : List ℕ → List ℕ → Ordering
compare_keys xs ys = then (compare (length xs) (length ys)) (compare_list compare xs ys)

-- by kind, then by key, then by key list
abbrev pub parts : Label → ℕ × (ℕ × List ℕ)
parts l = (l.kind, (l.key, l.keys))

abbrev pub compare_label : Label → Label → Ordering
compare_label = compare_on (compare_pair compare (compare_pair compare compare_keys)) parts

-- the counts of a union total, those of a record's fields don't
abbrev pub weight_of : Label → Payload → ℕ
weight_of l a = cond (eqb l.kind field_kind) 0 a.count

abbrev pub Counting : TrieOps
Counting = record { Label = Label; Payload = Payload; compare = compare_label; join = join; weight = weight_of }

abbrev pub CountingType : Type 0
CountingType = Trie Counting
