-- The entries of a type: their length, and that each has exactly the keys of its addend.
use mathlib.Core.Path.{◌≡◌, refl}
use mathlib.Core.Bool.{Bool, true, false, cond}
use mathlib.Core.List.{[]}
use Prim.Native.Nat.{◌+◌, ◌*◌}
use native.Mathlib.Omega.{arith}
use lib.Dec.{eqb}
use lib.ListN.{length, length-append}
use Rattle.byte_records.proofs.Format.{length-record}
use Rattle.value_table.specs.Value.{record_kind}
use Rattle.counting_theory.specs.Trie.{nil, node}
use Rattle.counting_theory.specs.Label.{Label, CountingType}
use Rattle.counting_theory.specs.Encoding.{sibling_keys}
use Rattle.key_word.proofs.Ascending.{word-exact}
use Rattle.tag_bus.specs.Entries.{entry_format, entry_size, entry, entries, entry_count, EntriesLength, ExactEntry, Exact}
use Rattle.tag_bus.proofs.Worded.{WordNode, Worded}

pub entries-length : EntriesLength
unfolding entries entry_count
entries-length nil = refl
entries-length (node l a c s) =
    rw (length-append, length-append, entries-length c, entries-length s) (go (eqb l.kind record_kind))
  where
    go : (b : Bool) → length (cond b (entry (sibling_keys c)) []) + (entry_size * entry_count c + entry_size * entry_count s) ≡ entry_size * (cond b 1 0 + (entry_count c + entry_count s))
    go true = rw (length-record entry_format) (omega arith)
    go false = omega arith

exact-entry : (l : Label) (c : CountingType) → WordNode l c → ExactEntry l c
exact-entry l c w = record { label = w.label; ascend = w.ascend; exact = word-exact (sibling_keys c) w.distinct w.within }

pub worded-exact : (f : CountingType) → Worded f → Exact f
unfolding Exact
worded-exact nil w = tt
worded-exact (node l a c s) w = (λ e. exact-entry l c (w.0 e), worded-exact c w.1, worded-exact s w.2)
