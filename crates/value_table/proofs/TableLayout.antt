-- The laws of a table's layout and of its keys that upper crates use too.
use mathlib.Core.Path.{◌≡◌, refl, sym}
use mathlib.Core.Bool.{true, false, ◌||◌, or_assoc}
use mathlib.Core.List.{[], ◌∷◌}
use Prim.Native.Nat.{ℕ, ◌%◌}
use native.Mathlib.Omega.{arith}
use lib.Dec.{eqb, lit<}
use lib.ListN.{length-append}
use borrow.Author.Tests.{ltb-false, eqb-true, eqb-false, not-false, le-ltb, eq-eqb, ne_eqb}
use Rattle.byte_records.proofs.Tests.{or_parts}
use Rattle.byte_records.proofs.Format.{length-record, field-set, field-read, next-read}
use Rattle.value_table.specs.Value.{value_format, record_size, max_length, record_numbers, kind_at, zero_at, key_at, span_at, header, none, value, size, encode, member, Distinct}
use Rattle.value_table.specs.Judged.{bad_length}
use Rattle.value_table.specs.Inside.TableLayout.{EncodeLength, AllowedLength, KeyBelow, ValueFits, HeaderRead, HeaderLength, SpanStored, MemberAppend, DistinctSnoc, DistinctParts}

pub length-encode : EncodeLength
unfolding encode size header
length-encode none = refl
length-encode (value k y c s) = simp (length-append, length-record) (omega (arith, length-encode c, length-encode s))

pub length-fits : AllowedLength
unfolding bad_length
length-fits n = (
  λ e. let p = or_parts _ _ e in (eqb-true (n % record_size) 0 (not-false _ p.0), ltb-false max_length n p.1),
  λ h. rw (eq-eqb (n % record_size) 0 h.0, le-ltb max_length n h.1) refl,
)

pub key_below : KeyBelow
key_below true key h = h.1
key_below false key h = omega arith

pub value-fits : ValueFits
value-fits field depth head key content p h = (omega (arith, p.kind-high), (lit< tt, (key_below field key p.keyed, (h, tt))))

pub header_read : HeaderRead
unfolding header kind_at zero_at key_at span_at
header_read b i head key span rest h e =
    let read = field-read value_format (record_numbers head key span) b rest i e in
    record {
      head-is = λ j. record { kind = read 0 h.0 j };
      zero_is = read 1 h.1.0;
      key-is = read 2 h.1.1.0;
      span-is = read 3 h.1.1.1.0;
      rest-is = next-read value_format (record_numbers head key span) b rest i e;
    }

pub length-header : HeaderLength
unfolding header
length-header head key span = length-record value_format _

pub span-stored : SpanStored
unfolding header
span-stored head key span new rest = field-set value_format (record_numbers head key span) rest 3 new (lit< tt)

pub member-append : MemberAppend
unfolding member
member-append k [] ys = refl
member-append k (x ∷ xs) ys = rw (member-append k xs ys) (sym (or_assoc (eqb k x) (member k xs) (member k ys)))

pub eqb-sym : (a b : ℕ) → eqb a b ≡ false → eqb b a ≡ false
eqb-sym a b h = ne_eqb b a (λ e. eqb-false a b h (sym e))

pub distinct_snoc : DistinctSnoc
unfolding member Distinct
distinct_snoc k [] h d = (refl, tt)
distinct_snoc k (x ∷ xs) h d =
    let p = or_parts (eqb k x) (member k xs) h in
    (rw (member-append x xs (k ∷ []), d.0, eqb-sym k x p.0) refl, distinct_snoc k xs p.1 d.1)

pub distinct-parts : DistinctParts
unfolding member Distinct
distinct-parts k [] d = (tt, refl)
distinct-parts k (x ∷ xs) d =
    let p = or_parts (member x xs) (eqb x k || false) (rw (member-append x xs (k ∷ [])) at d.0) in
    let q = or_parts (eqb x k) false p.1 in
    let r = distinct-parts k xs d.1 in
    ((p.0, r.0), rw (eqb-sym x k q.0) r.1)
