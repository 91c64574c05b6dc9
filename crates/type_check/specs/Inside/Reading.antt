-- How the check of a type reads its records, whatever their size.
use Rattle.std.specs.Prelude.{◌≡◌, ℕ, Bool, List}
use Rattle.value_table.specs.Value.{array_kind}
use Rattle.type_arena.specs.Inside.Layout.{Reader}
use Rattle.counting_theory.specs.Payload as theory
use Rattle.counting_theory.specs.Encoding.{type_kind, type_zero, type_key, type_span, type_payload}
use Rattle.counting_theory.specs.Inside.TypeBytes.{type_count}
use Rattle.counting_theory.proofs.Payload.{proper-other}

-- The fields of a record, whether its payload is proper above a total, and whether it has no lengths, which is all that is asked of the
-- payload of a record that is no array.
pub record Reading : Type 0 where
  pub kind : Reader
  pub zero : Reader
  pub key : Reader
  pub span : Reader
  pub count : Reader
  pub proper : List ℕ → ℕ → ℕ → Bool
  pub no_lengths : List ℕ → ℕ → Bool
  pub other : (b : List ℕ) (p t : ℕ) → ¬ (kind b p ≡ array_kind) → proper b p t ≡ no_lengths b p

-- of the records of document 01
abbrev pub full : Reading
full = record {
  kind = type_kind;
  zero = type_zero;
  key = type_key;
  span = type_span;
  count = type_count;
  proper = λ b p t. theory.proper (type_kind b p) (type_payload b p) t;
  no_lengths = λ b p. theory.no_lengths (type_payload b p);
  other = λ b p t h. proper-other (type_kind b p) (type_payload b p) t h;
}
