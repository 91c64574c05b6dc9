-- The pass that stores entries, record by record.
use mathlib.Core.Path.{◌≡◌, refl, sym, ◌∙◌, ap}
use mathlib.Core.List.{List, ◌++◌, append-nil}
use Prim.Native.Nat.{ℕ, suc, ◌+◌, ◌-◌, ◌≤◌, ◌<◌}
use native.Mathlib.Omega.{arith}
use native.Mathlib.Nat.{zero-add, add-zero}
use native.Mathlib.Numerals.{unary_clauses}
use lib.ListN.{length, length-append}
use lib.Seq.{sets, length-sets}
use lib.Count.{ones}
use borrow.Author.Tests.{eq-eqb, ne_eqb}
use Rattle.byte_records.specs.Number.{bytes_of}
use Rattle.byte_records.specs.Format.{record_bytes}
use Rattle.byte_records.proofs.Number.{length-bytes_of}
use Rattle.byte_records.proofs.Format.{length-record}
use Rattle.byte_records.proofs.Sets.{sets-append}
use Rattle.value_table.specs.Value.{record_kind}
use Rattle.counting_theory.specs.Encoding.{type_kind}
use Rattle.type_arena.specs.Inside.Arena.{keys_in}
use Rattle.tag_bus.specs.Entries.{entry_format, entry_size, entry_of, entry}
use Rattle.tag_bus.specs.Inside.Flat.{entry_at, entries_from}

-- an entry by its two numbers
pub entry-stored : (w : ℕ) (l : List ℕ) (at : ℕ) → sets (sets l at (bytes_of 8 w)) (at + 8) (bytes_of 8 (ones w)) ≡ sets l at (entry_of w)
unfolding record_bytes
entry-stored w l at = rw (append-nil, sets-append (bytes_of 8 w) (bytes_of 8 (ones w)) l at, length-bytes_of 8 w) refl

entry-size : (keys : List ℕ) → length (entry keys) ≡ entry_size
entry-size keys = length-record entry_format _

module _ (b : List ℕ) (n : ℕ) (before : List ℕ) where
  -- those of the first i records stand in the front of out, up to byte `at`
  pub record Passed (i at : ℕ) (out : List ℕ) : Type 0 where
    pub room : at ≤ length out
    pub same : length out ≡ length before
    pub bytes : at + length (entries_from b (n - i) i) ≡ length (entries_from b n 0)
    pub stored : sets out at (entries_from b (n - i) i) ≡ sets before 0 (entries_from b n 0)

  pub pass-first : Passed 0 0 before
  pass-first = record { room = omega arith; same = refl; bytes = simp unary_clauses (zero-add _); stored = simp unary_clauses }

  module _ {i at : ℕ} {out : List ℕ} (p : Passed i at out) where
    next : i < n → entries_from b (n - i) i ≡ entry_at b i ++ entries_from b (n - (i + 1)) (i + 1)
    unfolding entries_from
    next h = let e : n - i ≡ suc (n - (i + 1)) = omega arith in rw e refl

    entry_next : i < n → type_kind b i ≡ record_kind → entries_from b (n - i) i ≡ entry (keys_in b i) ++ entries_from b (n - (i + 1)) (i + 1)
    unfolding entry_at
    entry_next h k = next h ∙ rw (eq-eqb (type_kind b i) record_kind k) refl

    none-next : i < n → (type_kind b i ≡ record_kind → ⊥) → entries_from b (n - i) i ≡ entries_from b (n - (i + 1)) (i + 1)
    unfolding entry_at
    none-next h k = next h ∙ rw (ne_eqb (type_kind b i) record_kind k) refl

    -- an addend of kind 5
    entry_length : i < n → type_kind b i ≡ record_kind → length (entries_from b (n - i) i) ≡ entry_size + length (entries_from b (n - (i + 1)) (i + 1))
    entry_length h k = ap length (entry_next h k) ∙ length-append (entry (keys_in b i)) _ ∙ rw (entry-size (keys_in b i)) refl

    pub pass-entry : i < n → type_kind b i ≡ record_kind → at + entry_size ≤ length out → Passed (i + 1) (at + entry_size) (sets out at (entry (keys_in b i)))
    pass-entry h k r =
        let e = sets-append (entry (keys_in b i)) (entries_from b (n - (i + 1)) (i + 1)) out at in
        record {
          room = rw length-sets r;
          same = length-sets out at (entry (keys_in b i)) ∙ p.same;
          bytes = omega (arith, p.bytes, entry_length h k);
          stored = rw (entry-size (keys_in b i)) at (sym e ∙ ap (sets out at) (sym (entry_next h k)) ∙ p.stored);
        }

    pub pass-full : i < n → type_kind b i ≡ record_kind → length out < at + entry_size → length before < length (entries_from b n 0)
    pass-full h k r = omega (arith, p.bytes, p.same, entry_length h k)

    -- any other record
    pub pass-other : i < n → (type_kind b i ≡ record_kind → ⊥) → Passed (i + 1) at out
    pass-other h k =
        record {
          room = p.room;
          same = p.same;
          bytes = rw (none-next h k) at p.bytes;
          stored = rw (none-next h k) at p.stored;
        }

    pub pass-end : n ≤ i → (at ≡ length (entries_from b n 0)) × (at ≤ length before) × (out ≡ sets before 0 (entries_from b n 0))
    unfolding entries_from
    pass-end h =
        let e : n - i ≡ 0 = omega arith in
        (rw (e, add-zero) at p.bytes, omega (arith, p.room, p.same), rw e at p.stored)
