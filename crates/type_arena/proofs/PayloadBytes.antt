-- The laws of payloads in the code: their bytes in a record, a payload joined to one that stands there, and what an item gives.
use Rattle.std.proofs.Common.{◌≡◌, ℕ, ◌+◌, ◌*◌, ◌/◌, ◌%◌, ◌^◌, ◌<◌, min, max, Bool, true, false, cond, eqb, List, [], ◌++◌, length, drop, sym, refl, ap, ◌∙◌, mul-one, arith, lit<, drop_at, eqb-true}
use lib.Seq.{sets}
use Rattle.byte_records.specs.Number.{bytes_of, number_of}
use Rattle.value_table.specs.Value.{array_kind, Head, Values}
use Rattle.value_table.specs.Value as table
use Rattle.byte_records.specs.Inside.Fits.{Fits}
use Rattle.byte_records.specs.Format.{field_at, fields_from, record_bytes}
use Rattle.byte_records.proofs.Number.{bytes_past, bytes-more}
use Rattle.byte_records.proofs.Format.{field_stored, field-read, sets_behind}
use Rattle.counting_theory.proofs.Payload.{count-size}
use Rattle.counting_theory.specs.Payload.{Payload, payload_format, numbers, of_numbers, one, one_field, join, copies}
use Rattle.counting_theory.specs.Label.{Label, field_kind}
use Rattle.counting_theory.specs.Encoding.{type_format, type_size, type_payload, record_numbers, header}
use Rattle.type_arena.specs.Inside.Arena.{header_of}
use Rattle.type_arena.specs.Inside.Payload.{payload_offset, payload_bytes, LengthsKept, item_payload}

-- the bytes of the code's join, whose sum may wrap
pub wrapped-join : (a b c : Payload) → c.count ≡ (a.count + b.count) % 2 ^ 64 → c.shortest ≡ min a.shortest b.shortest →
    c.longest ≡ max a.longest b.longest → payload_bytes c ≡ payload_bytes (join a b)
unfolding payload_bytes numbers join record_bytes
wrapped-join a b c e s l =
    let z : c.count + 256 ^ 8 * ((a.count + b.count) / 2 ^ 64) ≡ a.count + b.count = omega arith in
    rw (s, l) (ap (λ xs. xs ++ (bytes_of 4 (min a.shortest b.shortest) ++ (bytes_of 4 (max a.longest b.longest) ++ []))) (sym (bytes_past 8 c.count _) ∙ ap (bytes_of 8) z))

-- what an item gives, by the length of an array
pub item-is : (w kind n : ℕ) (content : Values) → n ≡ cond (eqb kind array_kind) (table.count content) 0 →
    record { count = w; shortest = n; longest = n } ≡ item_payload w kind content
unfolding copies one one_field
item-is w kind n content h = go (eqb kind field_kind) refl
  where
    go : (t : Bool) → eqb kind field_kind ≡ t →
        record { count = w; shortest = n; longest = n } ≡ copies w (cond t one_field (one (record { kind = kind }) content))
    go true e =
        let z : n ≡ 0 = h ∙ rw (eqb-true kind field_kind e) refl in
        λ i. record { count = sym (mul-one w) i; shortest = z i; longest = z i }
    go false e = λ i. record { count = sym (mul-one w) i; shortest = h i; longest = h i }

-- lengths that are read as they were stored
pub kept_field : LengthsKept one_field
unfolding one_field
kept_field = (lit< tt, lit< tt)

pub kept-one : (head : Head) (content : Values) → table.size content < 2 ^ 32 → LengthsKept (one head content)
unfolding one
kept-one head content h = go (eqb head.kind array_kind)
  where
    go : (t : Bool) → let n = cond t (table.count content) 0 in (n < 2 ^ 32) × (n < 2 ^ 32)
    go true = (omega (arith, count-size content), omega (arith, count-size content))
    go false = (lit< tt, lit< tt)

pub kept-join : (a b : Payload) → LengthsKept a → LengthsKept b → LengthsKept (join a b)
unfolding join
kept-join a b h k = (omega (arith, h, k), omega (arith, h, k))

pub kept-fitting : (a : Payload) → Fits payload_format (numbers a) → LengthsKept a
unfolding numbers
kept-fitting a h = (h.1.0, h.1.1.0)

-- a record depends on its payload through the payload's bytes alone, and a payload stored anew changes nothing else
pub header-same : (kind key span : ℕ) (a b : Payload) → payload_bytes a ≡ payload_bytes b → header_of kind key span a ≡ header_of kind key span b
unfolding header record_bytes payload_bytes
header-same kind key span a b e = ap (λ x. bytes_of 1 kind ++ (bytes_of 1 0 ++ (bytes_of 2 key ++ (bytes_of 4 span ++ x)))) e

payload-stored : (l : Label) (span : ℕ) (a b : Payload) (q : List ℕ) → sets (header l span a ++ q) payload_offset (payload_bytes b) ≡ header l span b ++ q
unfolding header record_bytes payload_bytes bytes_of
payload-stored l span a b q = refl

-- record i of b has the label l, this span and the payload a
module _ (b p : List ℕ) (i : ℕ) (l : Label) (span : ℕ) (a : Payload) (q : List ℕ) (e : b ≡ p ++ (header l span a ++ q)) (z : length p ≡ type_size * i) (kept : LengthsKept a)
    (m : Payload) where
  -- what is read of a count that may be too large gives the same bytes when it is joined
  join-read : payload_bytes (join (type_payload b i) m) ≡ payload_bytes (join a m)
  unfolding payload_bytes join numbers type_payload of_numbers fields_from record_bytes header
  join-read =
      let d : drop (type_size * i) b ≡ header l span a ++ q = rw e (drop_at p (header l span a ++ q) (type_size * i) z) in
      let ns = record_numbers l span a in
      let x : field_at type_format 4 b i ≡ number_of (bytes_of 8 a.count) = field_stored type_format ns b q i d 4 in
      let s : field_at type_format 5 b i ≡ a.shortest = field-read type_format ns b q i d 5 kept.0 in
      let t : field_at type_format 6 b i ≡ a.longest = field-read type_format ns b q i d 6 kept.1 in
      rw (x, s, t, bytes-more 8 a.count m.count) refl

  pub payload-joined : sets b (type_size * i + payload_offset) (payload_bytes (join (type_payload b i) m)) ≡ p ++ (header l span (join a m) ++ q)
  payload-joined = rw (join-read, e, ← z, sets_behind p (header l span a ++ q) (payload_bytes (join a m)) payload_offset, payload-stored l span a (join a m) q) refl
