-- The trials hold, by computation.
use mathlib.Core.Path.{refl}
use mathlib.Core.List.{flat_map}
use Rattle.byte_records.specs.Number.{bytes_of, number_of, number_at}
use Rattle.byte_records.specs.Format.{field_at, fields_from, record_bytes}
use Rattle.removal_theory.specs.Payload.{numbers, of_numbers, proper}
use Rattle.counting_theory.specs.Order.{then, compare_pair, compare_list, compare_on}
use Rattle.counting_theory.specs.Trie as trie
use Rattle.counting_theory.specs.Label.{listed, compare_keys}
use Rattle.removal_theory.specs.Encoding as types
use Rattle.removal_theory.specs.WellFormed as rules
use Rattle.removal_theory.specs.Trials.{type_bytes}
use Rattle.removal.specs.Difference as less
use Rattle.removal.specs.Removed.{taken_by, taken, removed_type, removed}
use Rattle.removal.specs.Trials.{TrialsHold}

pub trials-hold : TrialsHold
unfolding type_bytes removed removed_type taken taken_by flat_map bytes_of number_of number_at field_at fields_from record_bytes
    numbers of_numbers proper listed then compare_pair compare_list compare_on compare_keys
    trie.size trie.total trie.largest_below trie.largest_total
    types.type_kind types.type_zero types.type_key types.type_span types.type_payload types.header types.encode types.sibling_keys types.decode types.type_of
    rules.type_record rules.laid_out rules.counted rules.within_limit rules.ascends rules.field_totals rules.fields_of rules.field_counts rules.measured rules.well_formed rules.bad_type_length
    less.kept less.emptied less.taken_node less.difference_step less.difference_node less.difference
trials-hold =
    record {
      kind = refl;
      label = refl;
      room = refl;
      no_room = refl;
      all-by-kind = refl;
      all-by-label = refl;
      nothing = refl;
      ill-formed-whole = refl;
      ill-formed-part = refl;
      lacking = refl;
      from_nothing = refl;
      too_many = refl;
      inside = refl;
      fields = refl;
    }
