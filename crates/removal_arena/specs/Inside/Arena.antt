-- 16-byte records of a type in bytes, as the contracts inside state it: the label of a record, the fields inside it, and what is stored.
use Rattle.std.specs.Prelude.{ℕ, ◌+◌, ◌*◌, ◌≤◌, List, [], length, take}
use Rattle.byte_records.specs.Format.{width_of}
use Rattle.value_table.specs.Value.{max_length}
use Rattle.removal_theory.specs.Payload.{Payload}
use Rattle.removal_arena.specs.declared.record_store.TypeRecord.{TypeRecord}
use Rattle.counting_theory.specs.Label.{Label}
use Rattle.counting_theory.specs.declared.equivalence.Equivalence.{Equivalence}
use Rattle.removal_theory.specs.Encoding.{type_format, type_size, type_kind, type_key, type_span, header}
use Rattle.type_arena.specs.Inside.Layout.{label_by, FieldsBy, LabelledBy}

-- the label of record p
abbrev pub label_at : Equivalence → List ℕ → ℕ → Label
label_at = label_by type_kind type_key type_span

-- record p stands in b, which is no longer than a type may be
pub record RecordIn (b : List ℕ) (p : ℕ) : Type 0 where
  pub whole : type_size * p + type_size ≤ length b
  pub short : length b ≤ max_length

-- the fields inside the record at p, which has been checked
abbrev pub FieldsInside : List ℕ → ℕ → Type 0
FieldsInside = FieldsBy type_size type_key type_span

-- record p stands in b, with what its label is read from
abbrev pub Labelled : List ℕ → ℕ → Type 0
Labelled = LabelledBy type_size type_kind type_key type_span

-- where the span stands in a type record, and the bytes of one
abbrev pub span_offset : ℕ
span_offset = width_of (take 3 type_format)

abbrev pub header_of : ℕ → ℕ → ℕ → Payload → List ℕ
header_of kind key span a = header (record { kind = kind; key = key; keys = [] }) span a

abbrev pub record_bytes_of : TypeRecord → List ℕ
record_bytes_of r = header_of r.kind r.key r.span (record { count = r.count })
