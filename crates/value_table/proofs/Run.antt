-- Records that hold a run of values, and the step from a value to its content and to the values behind it.
use mathlib.Core.Path.{◌≡◌, refl, ap, ◌∙◌}
use mathlib.Core.Bool.{Bool, true}
use mathlib.Core.List.{List, [], ◌∷◌, ◌++◌, append_assoc, append-nil}
use Prim.Native.Nat.{ℕ, suc, ◌+◌, ◌*◌, ◌^◌, ◌≤◌, ◌<◌}
use native.Mathlib.Omega.{arith}
use lib.Dec.{eqb}
use lib.ListN.{length, drop, length-append, length-drop}
use lib.Seq.{drop-drop, drop_at}
use borrow.Author.Tests.{eq-eqb, eqb-true}
use Rattle.byte_records.specs.Number.{Bytes}
use Rattle.byte_records.specs.Inside.Fits.{Fits}
use Rattle.value_table.specs.Value.{record_size, record_kind, max_length, value_format, head_at, record_numbers, kind_at, key_at, span_at, header, Values, none, value, size, count, keys, encode, Distinct, ValidAt, max_fields}
use Rattle.value_table.proofs.Header.{header-written}
use Rattle.value_table.specs.Inside.TableLayout.{Fields}
use Rattle.value_table.proofs.TableLayout.{length-encode, header_read, value-fits}
use Rattle.value_table.proofs.Keys.{distinct-new}
use Rattle.value_table.proofs.Faultless.{Faultless}

-- records i to end of b hold the run vs, valid at this depth behind fields or elements with the keys `before`
pub record Run (b : List ℕ) (i end : ℕ) (field : Bool) (before : List ℕ) (depth : ℕ) (vs : Values) : Type 0 where
  pub bytes : drop (record_size * i) b ≡ encode vs ++ drop (record_size * end) b
  pub ends : i + size vs ≡ end
  pub valid : ValidAt field depth vs
  pub distinct : field ≡ true → Distinct (before ++ keys vs)
  pub few : field ≡ true → length before + count vs ≤ max_fields

pub size-zero : (vs : Values) → size vs ≡ 0 → vs ≡ none
unfolding size
size-zero none e = refl
size-zero (value k y c s) e = absurd (omega arith)

pub run_none : (b : List ℕ) (i end : ℕ) (field : Bool) (before : List ℕ) (depth : ℕ) →
    i ≡ end → (field ≡ true → Distinct before × (length before ≤ max_fields)) → Run b i end field before depth none
unfolding encode size count keys ValidAt
run_none b i end field before depth e d =
    record { bytes = rw e refl; ends = omega arith; valid = tt; distinct = λ h. rw append-nil (d h).0; few = λ h. omega (arith, (d h).1) }

-- a run that is not empty: its first value is read at record i, and the records behind hold the content and then the other values
pub record First (b : List ℕ) (i end : ℕ) (field : Bool) (before after : List ℕ) (depth : ℕ) (vs : Values) : Type 0 where
  pub content : Values
  pub next : Values
  pub is-value : vs ≡ value (head_at b i) (key_at b i) content next
  pub faultless : Faultless b i end field before depth
  pub in-content : Run b (i + 1) (i + span_at b i) (eqb (kind_at b i) record_kind) [] (suc depth) content
  pub in-next : Run b (i + span_at b i) end field after depth next

-- `after` is `before` with the key of record i, which matters in a record only
module _ (b : List ℕ) (i end : ℕ) (field : Bool) (before after : List ℕ) (depth : ℕ) (grown : field ≡ true → after ≡ before ++ (key_at b i ∷ [])) where
  one_more : field ≡ true → length after ≡ length before + 1
  one_more h = rw (grown h, length-append) refl

  pub run_value : (c s : Values) → Bytes b → record_size * (i + 1) ≤ length b → Faultless b i end field before depth →
      Run b (i + 1) (i + span_at b i) (eqb (kind_at b i) record_kind) [] (suc depth) c →
      Run b (i + span_at b i) end field after depth s → Run b i end field before depth (value (head_at b i) (key_at b i) c s)
  unfolding encode size count keys ValidAt
  run_value c s bytes fits f content next =
      let e : 1 + size c ≡ span_at b i = omega (arith, content.ends) in
      record {
        bytes = header-written b i bytes fits f.zeroed ∙ rw (content.bytes, next.bytes, e) (simp append_assoc);
        ends = omega (arith, content.ends, next.ends);
        valid = (
          record {
            kind-low = f.kind-low;
            kind-high = f.kind-high;
            scalar = λ h. size-zero c (omega (arith, content.ends, f.scalar h));
            keyed = f.keyed;
            distinct = λ h. content.distinct (eq-eqb (kind_at b i) record_kind h);
            few = λ h. omega (arith, content.few (eq-eqb (kind_at b i) record_kind h));
            shallow = f.shallow;
          },
          content.valid,
          next.valid,
        );
        distinct = λ h. rw (grown h, append_assoc) at (next.distinct h);
        few = λ h. omega (arith, next.few h, one_more h);
      }

  pub run-first : (vs : Values) → length b ≤ max_length → i < end → Run b i end field before depth vs → First b i end field before after depth vs
  unfolding encode size count keys ValidAt
  run-first none short some r = absurd (omega (arith, r.ends))
  run-first (value head key c s) short some r =
      let last : List ℕ = encode s ++ drop (record_size * end) b in
      let rest : List ℕ = encode c ++ last in
      let e : drop (record_size * i) b ≡ header head key (1 + size c) ++ rest = r.bytes ∙ simp append_assoc in
      let small : 1 + size c < 2 ^ 32 = omega (arith, length-encode c, simp (length-append, length-drop) at (ap length e)) in
      let fit : Fits value_format (record_numbers head key (1 + size c)) = value-fits field depth head key c r.valid.0 small in
      let f : Fields b i head 0 key (1 + size c) rest = header_read b i head key (1 + size c) rest fit e in
      let p : record_size * (i + span_at b i) ≡ record_size * (i + 1) + record_size * size c = omega (arith, f.span-is) in
      let behind : drop (record_size * (i + span_at b i)) b ≡ last = rw (p, ← drop-drop, f.rest-is) (drop_at (encode c) last (record_size * size c) (length-encode c)) in
      let own : Run b i end field before depth (value (head_at b i) (key_at b i) c s) = rw (← f.head-is, ← f.key-is) at r in
      let proper = own.valid.0 in
      record {
        content = c;
        next = s;
        is-value = rw (f.head-is, f.key-is) refl;
        faultless =
            record {
              kind-low = proper.kind-low;
              kind-high = proper.kind-high;
              zeroed = f.zero_is;
              span-low = omega (arith, f.span-is);
              span_fits = omega (arith, f.span-is, r.ends);
              scalar = λ h. omega (arith, f.span-is, ap size (proper.scalar h));
              keyed = proper.keyed;
              fresh = λ h. distinct-new (key_at b i) before (keys s) (own.distinct h);
              few = λ h. omega (arith, own.few h);
              shallow = proper.shallow;
            };
        in-content =
            record {
              bytes = f.rest-is ∙ rw behind refl;
              ends = omega (arith, f.span-is);
              valid = own.valid.1;
              distinct = λ h. proper.distinct (eqb-true (kind_at b i) record_kind h);
              few = λ h. omega (arith, proper.few (eqb-true (kind_at b i) record_kind h));
            };
        in-next =
            record {
              bytes = behind;
              ends = omega (arith, f.span-is, r.ends);
              valid = own.valid.2;
              distinct = λ h. rw (grown h, append_assoc) (own.distinct h);
              few = λ h. omega (arith, own.few h, one_more h);
            };
      }
