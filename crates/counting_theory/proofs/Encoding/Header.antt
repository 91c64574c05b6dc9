-- Laws of the record format: what is read at a type record is what its header was written from, and the other way round.
use mathlib.Core.Path.{◌≡◌, refl, ◌∙◌, ap}
use mathlib.Core.List.{List, ◌++◌}
use Prim.Native.Nat.{ℕ, suc, ◌+◌, ◌*◌, ◌^◌, ◌<◌, ◌≤◌}
use native.Mathlib.Omega.{arith}
use lib.ListN.{length, drop, length-append}
use Rattle.byte_records.specs.Number.{Bytes}
use Rattle.byte_records.specs.Format.{fields_from, fields_at}
use Rattle.byte_records.specs.Inside.Fits.{Fits}
use Rattle.byte_records.proofs.Format.{length-record, field-read, fields_read, next-read, field_below, record-written, record-fits}
use Rattle.counting_theory.specs.Payload.{Payload, of_numbers}
use Rattle.counting_theory.specs.Trie.{nil, node, size}
use Rattle.counting_theory.specs.Label.{Label, CountingType}
use Rattle.counting_theory.specs.Encoding.{type_format, type_size, type_kind, type_zero, type_key, type_span, type_payload, record_numbers, header, encode}
use Rattle.counting_theory.specs.Inside.TypeBytes.{type_count}
use Rattle.counting_theory.proofs.Payload.{length-numbers, numbers-read, numbers-written}

pub length-encode : (f : CountingType) → length (encode f) ≡ type_size * size f
unfolding encode size header
length-encode nil = refl
length-encode (node l a c s) = simp (length-append, length-record) (omega (arith, length-encode c, length-encode s))

-- the count of a payload is the first of its fields
pub payload-count : (b : List ℕ) (i : ℕ) → (type_payload b i).count ≡ type_count b i
unfolding type_payload type_count of_numbers fields_from
payload-count b i = refl

-- the fields of record i, and the bytes after it
pub record Fields (b : List ℕ) (i kind zeroed key span : ℕ) (a : Payload) (rest : List ℕ) : Type 0 where
  pub kind-is : type_kind b i ≡ kind
  pub zero_is : type_zero b i ≡ zeroed
  pub key-is : type_key b i ≡ key
  pub span-is : type_span b i ≡ span
  pub payload-is : type_payload b i ≡ a
  pub rest-is : drop (type_size * (i + 1)) b ≡ rest

-- the same but for the payload, which may not fit
pub record Front (b : List ℕ) (i : ℕ) (l : Label) (span : ℕ) (rest : List ℕ) : Type 0 where
  pub kind-is : type_kind b i ≡ l.kind
  pub key-is : type_key b i ≡ l.key
  pub span-is : type_span b i ≡ span
  pub rest-is : drop (type_size * (i + 1)) b ≡ rest

pub header-front : (b : List ℕ) (i : ℕ) (l : Label) (span : ℕ) (a : Payload) (rest : List ℕ) → l.kind < 256 → l.key < 65536 → span < 2 ^ 32 →
    drop (type_size * i) b ≡ header l span a ++ rest → Front b i l span rest
unfolding header type_kind type_key type_span
header-front b i l span a rest hk hy hs e =
    let ns = record_numbers l span a in
    let read = field-read type_format ns b rest i e in
    record { kind-is = read 0 hk; key-is = read 2 hy; span-is = read 3 hs; rest-is = next-read type_format ns b rest i e }

length-numbers_of : (l : Label) (span : ℕ) (a : Payload) → length (record_numbers l span a) ≡ length type_format
length-numbers_of l span a = ap (λ n. suc (suc (suc (suc n)))) (length-numbers a)

pub header_read : (b : List ℕ) (i : ℕ) (l : Label) (span : ℕ) (a : Payload) (rest : List ℕ) → Fits type_format (record_numbers l span a) →
    drop (type_size * i) b ≡ header l span a ++ rest → Fields b i l.kind 0 l.key span a rest
unfolding header type_kind type_zero type_key type_span type_payload
header_read b i l span a rest h e =
    let ns = record_numbers l span a in
    let read = field-read type_format ns b rest i e in
    record {
      kind-is = read 0 h.0;
      zero_is = read 1 h.1.0;
      key-is = read 2 h.1.1.0;
      span-is = read 3 h.1.1.1.0;
      payload-is = ap (λ xs. of_numbers (drop 4 xs)) (fields_read type_format ns b rest i e h (length-numbers_of l span a)) ∙ numbers-read a;
      rest-is = next-read type_format ns b rest i e;
    }

module _ (b : List ℕ) (i : ℕ) (bytes : Bytes b) (fits : type_size * (i + 1) ≤ length b) where
  pub type_key-below : type_key b i < 65536
  unfolding type_key
  type_key-below = field_below type_format b i bytes fits 2

  -- the label of record i, with a key list
  abbrev label_there : List ℕ → Label
  label_there ks = record { kind = type_kind b i; key = type_key b i; keys = ks }

  numbers-there : type_zero b i ≡ 0 → (ks : List ℕ) → fields_at type_format b i ≡ record_numbers (label_there ks) (type_span b i) (type_payload b i)
  unfolding type_kind type_zero type_key type_span type_payload fields_from
  numbers-there z ks = rw (numbers-written (drop 4 (fields_at type_format b i)) refl, z) refl

  pub header-fits : type_zero b i ≡ 0 → (ks : List ℕ) → Fits type_format (record_numbers (label_there ks) (type_span b i) (type_payload b i))
  header-fits z ks = rw (numbers-there z ks) at (record-fits type_format b i bytes fits)

  pub header-written : type_zero b i ≡ 0 → (ks : List ℕ) →
      drop (type_size * i) b ≡ header (label_there ks) (type_span b i) (type_payload b i) ++ drop (type_size * (i + 1)) b
  unfolding header
  header-written z ks = rw (numbers-there z ks) at (record-written type_format b i bytes fits)
