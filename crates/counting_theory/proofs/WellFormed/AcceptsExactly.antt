-- The bytes of well-formed types are those that well_formed accepts, and each is the bytes of one type alone.
use mathlib.Core.Path.{◌≡◌, sym, ◌∙◌}
use mathlib.Core.Bool.{false, not}
use mathlib.Core.List.{List, append-nil}
use Prim.Native.Nat.{ℕ, ◌*◌, ◌%◌, ◌≤◌}
use native.Mathlib.Omega.{arith}
use lib.Dec.{eqb, ltb}
use lib.ListN.{length}
use lib.Seq.{drop-length}
use borrow.Author.Tests.{eqb-true, not-false, ltb-false}
use Rattle.value_table.specs.Value.{max_length}
use Rattle.byte_records.proofs.Tests.{or_parts, and_parts}
use Rattle.counting_theory.specs.Trie.{size}
use Rattle.counting_theory.specs.Label.{CountingType}
use Rattle.counting_theory.specs.declared.equivalence.Equivalence.{Equivalence}
use Rattle.counting_theory.specs.Encoding.{type_size, type_records, encode, type_of}
use Rattle.counting_theory.specs.WellFormed.{laid_out, obeys, well_formed, bad_type_length, IsType, WellFormedIsType, TypeUnique}
use Rattle.counting_theory.proofs.Encoding.Header.{length-encode}
use Rattle.counting_theory.proofs.Encoding.Decode.{decode-run}
use Rattle.counting_theory.proofs.WellFormed.Tests.{both}
use Rattle.counting_theory.proofs.WellFormed.Rules.{Rules, obeys-rules, rules-obeys}
use Rattle.counting_theory.proofs.WellFormed.Fitting.{type-fitting}
use Rattle.counting_theory.specs.Inside.RecordsHold.{RecordsHold}
use Rattle.counting_theory.proofs.WellFormed.LaidOut.{held-laid, laid-held}

-- no refusal 1
pub type-length : (n : ℕ) → bad_type_length n ≡ false → (n % type_size ≡ 0) × (n ≤ max_length)
unfolding bad_type_length
type-length n h =
    let p = or_parts (not (eqb (n % type_size) 0)) (ltb max_length n) h in
    (eqb-true (n % type_size) 0 (not-false _ p.0), ltb-false max_length n p.1)

module _ (e : Equivalence) (b : List ℕ) (f : CountingType) where
  -- the records of b hold f
  abbrev pub HoldsWhole : Type 0
  HoldsWhole = RecordsHold e b 0 (type_records b) false 1 f

  decoded : HoldsWhole → type_of e b ≡ f
  unfolding type_of
  decoded h = decode-run e b (type_records b) 0 (type_records b) false f h.tagged h.fitting (omega (arith, h.ends)) h.bytes h.ends

  pub type-holds : IsType e b f → HoldsWhole
  type-holds t =
      let n : type_size * size f ≡ length b = rw t.bytes (sym (length-encode f)) in
      let m : type_records b ≡ size f = omega arith in
      record {
        bytes = rw (m, n, drop-length) (t.bytes ∙ sym (append-nil (encode f)));
        ends = omega arith;
        tagged = t.tagged;
        shallow = t.shallow;
        fitting = type-fitting t;
      }

  pub type-rules : IsType e b f → Rules e f
  type-rules t = record { counts = t.counts; limit = t.limit; sorted = t.sorted; totals = t.totals; fields = t.fields; payloads = t.payloads }

  pub holds-type : bad_type_length (length b) ≡ false → HoldsWhole → Rules e f → IsType e b f
  holds-type fits h r =
      let p = type-length (length b) fits in
      let n : type_size * type_records b ≡ length b = omega (arith, p) in
      record {
        bytes = h.bytes ∙ rw (n, drop-length) (append-nil (encode f));
        room = omega (arith, h.ends, p);
        tagged = h.tagged;
        shallow = h.shallow;
        sorted = r.sorted;
        counts = r.counts;
        limit = r.limit;
        totals = r.totals;
        fields = r.fields;
        payloads = r.payloads;
      }

pub type-unique : TypeUnique
type-unique e b f t = sym (decoded e b f (type-holds e b f t))

pub well-formed-type : WellFormedIsType
unfolding well_formed
well-formed-type e b bytes fits = (
  λ w.
      let p = and_parts (laid_out b (type_records b) 0 (type_records b) false 1) (obeys e (type_of e b)) w in
      let h = laid-held e b (type_records b) 0 (type_records b) false 1 bytes (omega arith) p.0 in
      let z = decoded e b h.0 h.1 in
      rw z (holds-type e b h.0 fits h.1 (rw z at (obeys-rules e (type_of e b) p.1))),
  λ t.
      let h = type-holds e b (type_of e b) t in
      both (held-laid e b (type_records b) 0 (type_records b) false 1 (type_of e b) h t.counts t.totals (omega (arith, h.ends)))
      (rules-obeys e (type_of e b) (type-rules e b (type_of e b) t)),
)
