-- From a type under label to the type under kind, on tries. Definitions only.
use Rattle.std.specs.Prelude.{◌≡◌, List, []}
use Rattle.counting_theory.specs.Trie.{Forest, nil, node, lookup, profile}
use Rattle.counting_theory.specs.Label.{Label, Counting, CountingType}

-- a forest with other labels: siblings may then have one label, and be out of order
unfoldable pub relabel : {L P : Type 0} → (L → L) → Forest L P → Forest L P
relabel r nil = nil
relabel r (node l a c s) = node (r l) a (relabel r c) (relabel r s)

-- the class under kind of a class under label has no key list; a field has none under either
abbrev pub kind_label : Label → Label
kind_label l = record { kind = l.kind; key = l.key; keys = [] }

-- in every union the addends of one kind are reduced to one, and in every record those fields of one key that come together
unfoldable pub kind_type : CountingType → CountingType
kind_type f = profile Counting (relabel kind_label f)

-- a place under kind has what the places under label have together that become it without key lists
abbrev pub JoinsPlaces : Type 0
JoinsPlaces = (f : CountingType) (place : List Label) → lookup Counting (kind_type f) place ≡ lookup Counting (relabel kind_label f) place
