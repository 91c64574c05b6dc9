-- What each store makes of the table: a record at the end, or the span of the record that a bracket shuts.
use mathlib.Core.Path.{◌≡◌, refl, sym, ◌∙◌, ap}
use mathlib.Core.List.{List, ◌++◌, append_assoc, append-nil}
use Prim.Native.Nat.{ℕ, ◌+◌, ◌*◌, ◌≤◌}
use native.Mathlib.Omega.{arith}
use lib.ListN.{length, drop, length-append}
use lib.Seq.{sets, sets-eq}
use Rattle.byte_records.specs.Number.{bytes_of}
use Rattle.byte_records.proofs.Format.{sets_behind}
use Rattle.value_table.specs.Value.{record_size, Head, Values, none, value, size, encode, header, join_values}
use Rattle.value_table.specs.Inside.RecordBytes.{span_offset}
use Rattle.value_table.proofs.TableLayout.{length-encode, length-header, span-stored}
use Rattle.json_theory.specs.Grammar.{Container, head_of, kind_of}
use Rattle.json_theory.specs.Steps.{Stack, base, level, add}
use Rattle.json_theory.specs.Reader.{written}
use Rattle.text_reader.specs.Inside.Laid.{laid, TableHolds}

encode-join : (a b : Values) → encode (join_values a b) ≡ encode a ++ encode b
unfolding encode join_values
encode-join none b = refl
encode-join (value head key c n) b = rw (encode-join n b) (simp append_assoc)

pub laid-length : (around : Stack) → length (laid around) ≡ record_size * written around
unfolding laid written
laid-length (base ms) = length-encode ms
laid-length (level o key done outer) =
    simp length-append (omega (arith, laid-length outer, length-header (head_of (kind_of o)) key 1, length-encode done))

laid-add : (v : Values) (around : Stack) → laid (add v around) ≡ laid around ++ encode v
unfolding laid
laid-add v (base ms) = encode-join ms v
laid-add v (level o key done outer) = rw (encode-join done v) (simp append_assoc)

-- a value with nothing inside it is a record at the end
laid-scalar : (head : Head) (key : ℕ) (around : Stack) → laid (add (value head key none none) around) ≡ laid around ++ header head key 1
unfolding encode size
laid-scalar head key around = laid-add _ around ∙ ap (λ x. laid around ++ x) (append-nil (header head key 1))

laid-open : (o : Container) (key : ℕ) (around : Stack) → laid (level o key none around) ≡ laid around ++ header (head_of (kind_of o)) key 1
unfolding laid encode
laid-open o key around = ap (λ x. laid around ++ x) (append-nil (header (head_of (kind_of o)) key 1))

module _ {table table' : List ℕ} where
  -- a record stored behind the others
  behind : (around next : Stack) (head : Head) (key : ℕ) → laid next ≡ laid around ++ header head key 1 → TableHolds table around →
      record_size * written around + record_size ≤ length table → table' ≡ sets table (record_size * written around) (header head key 1) → TableHolds table' next
  behind around next head key e h room f =
      let x = header head key 1 in
      let n = laid-length around in
      let at : record_size * written around ≡ length (laid around) + 0 = omega arith in
      let long : 0 + length x ≤ length h.rest = omega (arith, length-header head key 1, ap length h.bytes, length-append (laid around) h.rest) in
      let stored : sets h.rest 0 x ≡ x ++ drop (0 + length x) h.rest = sets-eq x h.rest 0 long in
      record {
        rest = drop (0 + length x) h.rest;
        bytes = f ∙ rw (h.bytes, at, sets_behind (laid around) h.rest x 0, stored, e) (sym (append_assoc (laid around) x (drop (0 + length x) h.rest)));
      }

  pub scalar-stored : {around : Stack} (head : Head) (key : ℕ) → TableHolds table around → record_size * written around + record_size ≤ length table →
      table' ≡ sets table (record_size * written around) (header head key 1) → TableHolds table' (add (value head key none none) around)
  scalar-stored {around} head key = behind around _ head key (laid-scalar head key around)

  pub open-stored : {around : Stack} (o : Container) (key : ℕ) → TableHolds table around → record_size * written around + record_size ≤ length table →
      table' ≡ sets table (record_size * written around) (header (head_of (kind_of o)) key 1) → TableHolds table' (level o key none around)
  open-stored {around} o key = behind around _ (head_of (kind_of o)) key (laid-open o key around)

  -- a bracket shuts the record of the innermost level: only its span changes
  pub shut-stored : (o : Container) (key : ℕ) (done : Values) (outer : Stack) → TableHolds table (level o key done outer) →
      table' ≡ sets table (record_size * written outer + span_offset) (bytes_of 4 (1 + size done)) → TableHolds table' (add (value (head_of (kind_of o)) key done none) outer)
  unfolding laid encode
  shut-stored o key done outer h f =
      let head = head_of (kind_of o) in
      let n : record_size * written outer + span_offset ≡ length (laid outer) + span_offset = omega (arith, laid-length outer) in
      let whole : table ≡ laid outer ++ (header head key 1 ++ (encode done ++ h.rest)) = h.bytes ∙ simp append_assoc in
      record {
        rest = h.rest;
        bytes =
            f ∙ rw (whole, n, sets_behind (laid outer) (header head key 1 ++ (encode done ++ h.rest)) (bytes_of 4 (1 + size done)) span_offset, span-stored head key 1 (1 + size done) (encode done ++ h.rest))
            (rw (laid-add (value head key done none) outer) (simp (append_assoc, append-nil)));
      }
