-- The examples of the profile program hold, by computation.
use mathlib.Core.Path.{refl}
use Rattle.byte_records.specs.Number.{bytes_of, number_of, number_at}
use Rattle.value_table.specs.Value.{header, keys, member, kind_at, zero_at, key_at, span_at}
use Rattle.value_table.specs.Judged.{bad_length, bad_kind, bad_span, bad_key, too_large, repeated, too_many, too_deep, fault, fault_in, close, enter, walk, judged_up_to, judged, decode, messages}
use Rattle.byte_records.specs.Format.{field_at, fields_from, record_bytes}
use Rattle.counting_theory.specs.Payload.{numbers, of_numbers, one, one_field, join}
use Rattle.counting_theory.specs.Order.{then, compare_pair, compare_list, compare_on}
use Rattle.counting_theory.specs.Trie.{size, insert_step, insert, add, total}
use Rattle.counting_theory.specs.Label.{listed, compare_keys}
use Rattle.counting_theory.specs.Raw.{insert_key, ascending, raw, profile_of}
use Rattle.counting_theory.specs.Encoding as type
use Rattle.counting_theory.specs.WellFormed.{bad_type_length}
use Rattle.counting_theory.specs.Answers.{inferred}
use Rattle.report.specs.Decimal.{divisions, digit_count, digits}
use Rattle.report.specs.Line.{kind_word, rounded, without_false_end, share, line_of, refusal_line}
use Rattle.report.specs.Report.{lines_of, largest_count, report, printed}
use Rattle.report.specs.Example.{Examples}

pub examples : Examples
unfolding printed header bytes_of number_of number_at field_at fields_from record_bytes numbers of_numbers one one_field join keys member kind_at zero_at key_at span_at bad_length bad_kind bad_span bad_key too_large repeated too_many too_deep fault fault_in close enter walk judged_up_to judged decode messages then compare_pair compare_list compare_on compare_keys size insert_step insert add total listed insert_key ascending raw profile_of type.type_kind type.type_key type.type_span type.type_payload type.header type.encode type.sibling_keys type.decode type.type_of bad_type_length inferred report lines_of largest_count line_of kind_word rounded without_false_end share digit_count divisions digits refusal_line
examples =
    record {
      seven-lines = refl;
      nothing = refl;
      refusal = refl;
      halves = refl;
      widest = refl;
      nearly-all = refl;
      nearly-none = refl;
      shares = (refl, refl, (refl, refl, (refl, refl, (refl, refl, (refl, refl, (refl, refl, (refl, refl, tt)))))));
    }
