-- How the check of a type reads 16-byte records, whose payloads are counts alone.
use Rattle.std.specs.Prelude.{true, refl}
use Rattle.removal_theory.specs.Encoding.{type_kind, type_zero, type_key, type_span}
use Rattle.removal_theory.specs.Inside.TypeBytes.{type_count}
use Rattle.type_check.specs.Inside.Reading.{Reading}

abbrev pub counts_alone : Reading
counts_alone = record {
  kind = type_kind;
  zero = type_zero;
  key = type_key;
  span = type_span;
  count = type_count;
  proper = λ b p t. true;
  no_lengths = λ b p. true;
  other = λ b p t h. refl;
}
