-- The trials hold, by computation.
use mathlib.Core.Path.{◌≡◌, refl, ◌∙◌, ap}
use mathlib.Core.List.{flat_map}
use Prim.Native.Nat.{◌+◌}
use lib.Count.{ones, ones_in}
use Rattle.byte_records.specs.Number.{bytes_of, number_of, number_at}
use Rattle.byte_records.specs.Format.{field_at, fields_from, record_bytes}
use Rattle.value_table.specs.Value as table
use Rattle.value_table.specs.Judged as judging
use Rattle.counting_theory.specs.Payload.{numbers, of_numbers, one, one_field, join}
use Rattle.counting_theory.specs.Order.{then, compare_pair, compare_list, compare_on}
use Rattle.counting_theory.specs.Trie as trie
use Rattle.counting_theory.specs.Label.{listed, compare_keys}
use Rattle.counting_theory.specs.Raw.{insert_key, ascending, raw, profile_of}
use Rattle.counting_theory.specs.Encoding as types
use Rattle.counting_theory.specs.WellFormed.{bad_type_length}
use Rattle.counting_theory.specs.Trials.{table_bytes, type_bytes, ◌&◌, done}
use Rattle.key_word.specs.Word.{word}
use Rattle.key_word.proofs.Word.{ones-zero, ones-add}
use Rattle.tag_bus.specs.Entries.{entries, entry_count}
use Rattle.tag_bus.specs.TagBus.{bad_entries_length, inferred_tag_bus}
use Rattle.tag_bus.specs.Trials.{entry_bytes, largest_key, trials, TrialHolds, TrialsHold}

-- `ones` computes in as many steps as the number says, so that the number of key 64 has a law's proof
ones-last : ones 9223372036854775808 ≡ 1
ones-last = ones-add 63 0 refl ∙ ap (λ n. 1 + n) ones-zero

largest-key : TrialHolds largest_key
unfolding table_bytes type_bytes entry_bytes inferred_tag_bus bad_entries_length entries entry_count word flat_map
    bytes_of number_of number_at field_at fields_from record_bytes
    table.header table.kind_at table.zero_at table.key_at table.span_at table.keys table.count table.member
    judging.bad_length judging.bad_kind judging.bad_span judging.bad_key judging.too_large judging.repeated judging.too_many judging.too_deep judging.fault judging.fault_in
    judging.close judging.enter judging.walk judging.judged_up_to judging.decode judging.messages
    numbers of_numbers one one_field join listed insert_key ascending raw profile_of then compare_pair compare_list compare_on compare_keys
    trie.size trie.insert_step trie.insert trie.add
    types.header types.encode types.sibling_keys bad_type_length
largest-key = rw ones-last refl

pub trials-hold : TrialsHold
unfolding trials table_bytes type_bytes entry_bytes inferred_tag_bus bad_entries_length ones ones_in entries entry_count word flat_map
    bytes_of number_of number_at field_at fields_from record_bytes
    table.header table.kind_at table.zero_at table.key_at table.span_at table.keys table.count table.member
    judging.bad_length judging.bad_kind judging.bad_span judging.bad_key judging.too_large judging.repeated judging.too_many judging.too_deep judging.fault judging.fault_in
    judging.close judging.enter judging.walk judging.judged_up_to judging.decode judging.messages
    numbers of_numbers one one_field join listed insert_key ascending raw profile_of then compare_pair compare_list compare_on compare_keys
    trie.size trie.insert_step trie.insert trie.add
    types.header types.encode types.sibling_keys bad_type_length
trials-hold = refl & refl & refl & refl & refl & refl & refl & refl & refl & largest-key & refl & refl & refl & refl & done
