-- The trials hold, by computation.
use mathlib.Core.Path.{refl}
use mathlib.Core.List.{flat_map}
use Rattle.byte_records.specs.Number.{bytes_of, number_of, number_at}
use Rattle.byte_records.specs.Format.{field_at, fields_from, record_bytes}
use Rattle.counting_theory.specs.Payload.{numbers, of_numbers, join, proper}
use Rattle.counting_theory.specs.Order.{then, compare_pair, compare_list, compare_on}
use Rattle.counting_theory.specs.Trie as trie
use Rattle.counting_theory.specs.Label.{listed, compare_keys}
use Rattle.counting_theory.specs.Encoding as types
use Rattle.counting_theory.specs.WellFormed as rules
use Rattle.counting_theory.specs.Trials.{type_bytes}
use Rattle.folding.specs.Fold.{relabel, kind_type}
use Rattle.folding.specs.Folded.{folded}
use Rattle.folding.specs.Trials.{TrialsHold}

pub trials-hold : TrialsHold
unfolding type_bytes folded kind_type relabel flat_map bytes_of number_of number_at field_at fields_from record_bytes
    numbers of_numbers join proper listed then compare_pair compare_list compare_on compare_keys
    trie.size trie.insert_step trie.insert trie.add trie.total trie.largest_below trie.largest_total
    types.type_kind types.type_zero types.type_key types.type_span types.type_payload types.header types.encode types.sibling_keys types.decode types.type_of
    rules.type_record rules.laid_out rules.counted rules.within_limit rules.ascends rules.field_totals rules.fields_of rules.field_counts rules.measured rules.well_formed rules.bad_type_length
trials-hold =
    record {
      nine = refl;
      inside = refl;
      nothing = refl;
      as-it-is = refl;
      room = refl;
      no_room = refl;
      kind-only = refl;
      longer-first = refl;
      lengths = refl;
      wrong-lengths = refl;
      to-limit = refl;
      above-limit = refl;
      above-limit-no-room = refl;
      work = refl;
    }
