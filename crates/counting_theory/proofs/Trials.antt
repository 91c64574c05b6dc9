-- The starred trials hold, by computation.
use mathlib.Core.Path.{refl}
use mathlib.Core.List.{flat_map}
use Rattle.byte_records.specs.Number.{bytes_of, number_of, number_at}
use Rattle.byte_records.specs.Format.{field_at, fields_from, record_bytes}
use Rattle.value_table.specs.Value as table
use Rattle.value_table.specs.Judged as judging
use Rattle.counting_theory.specs.Payload.{numbers, of_numbers, one, one_field, join, proper}
use Rattle.counting_theory.specs.Order.{then, compare_pair, compare_list, compare_on}
use Rattle.counting_theory.specs.Trie as trie
use Rattle.counting_theory.specs.Label.{listed, compare_keys}
use Rattle.counting_theory.specs.Raw.{insert_key, ascending, raw, profile_of}
use Rattle.counting_theory.specs.Encoding as types
use Rattle.counting_theory.specs.WellFormed as rules
use Rattle.counting_theory.specs.Answers.{inferred, merged}
use Rattle.counting_theory.specs.Trials.{table_bytes, type_bytes, trials, TrialsHold, ◌&◌, done}

pub trials-hold : TrialsHold
unfolding table_bytes type_bytes trials inferred merged flat_map bytes_of number_of number_at field_at fields_from record_bytes
    table.header table.kind_at table.zero_at table.key_at table.span_at table.keys table.count table.member
    judging.bad_length judging.bad_kind judging.bad_span judging.bad_key judging.too_large judging.repeated judging.too_many judging.too_deep judging.fault judging.fault_in
    judging.close judging.enter judging.walk judging.judged_up_to judging.judged judging.decode judging.messages
    numbers of_numbers one one_field join proper listed insert_key ascending raw profile_of then compare_pair compare_list compare_on compare_keys
    trie.size trie.insert_step trie.insert trie.add trie.reduce_step trie.reduce_node trie.reduce trie.total trie.largest_below trie.largest_total
    types.type_kind types.type_zero types.type_key types.type_span types.type_payload types.header types.encode types.sibling_keys types.decode types.type_of
    rules.type_record rules.laid_out rules.counted rules.within_limit rules.ascends rules.field_totals rules.fields_of rules.field_counts rules.measured rules.well_formed rules.bad_type_length
trials-hold =
    ((refl & refl & done) & (refl & refl & done) & done)
    & ((refl & done) & done)
    & ((refl & done) & done)
    & ((refl & done) & done)
    & ((refl & done) & done)
    & ((refl & done) & (refl & done) & done)
    & ((refl & done) & (refl & done) & done)
    & ((refl & done) & (refl & done) & done)
    & ((refl & done) & (refl & done) & done)
    & ((refl & done) & done)
    & ((refl & done) & done)
    & ((refl & done) & done)
    & ((refl & done) & (refl & done) & done)
    & ((refl & done) & (refl & done) & done)
    & ((refl & done) & (refl & done) & done)
    & ((refl & done) & (refl & done) & done)
    & ((refl & done) & (refl & done) & done)
    & done
