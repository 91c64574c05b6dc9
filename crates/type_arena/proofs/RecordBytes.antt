-- The bytes of a type record, stored number by number.
use Rattle.std.proofs.Common.{◌≡◌, ℕ, ◌+◌, ◌/◌, ◌%◌, ◌<◌, ◌≤◌, List, [], ◌++◌, length, drop, refl, ◌∙◌, append-nil, zero-add, arith}
use native.Mathlib.Numerals.{towards_suc}
use lib.Seq.{sets, sets-eq}
use Rattle.byte_records.specs.Number.{bytes_of}
use Rattle.byte_records.specs.Format.{record_bytes}
use Rattle.byte_records.proofs.Number.{length-bytes_of}
use Rattle.byte_records.proofs.Sets.{sets-append}
use Rattle.byte_records.proofs.Format.{length-record}
use Rattle.counting_theory.specs.Payload.{Payload, numbers}
use Rattle.counting_theory.specs.Label.{Label}
use Rattle.counting_theory.specs.Encoding.{type_format, type_size, header}
use Rattle.type_arena.specs.Inside.Arena.{span_offset, header_of}
use Rattle.type_arena.specs.Inside.Payload.{payload_offset, payload_bytes}

pub length-header : (l : Label) (span : ℕ) (a : Payload) → length (header l span a) ≡ type_size
unfolding header
length-header l span a = length-record type_format _

-- a payload in its parts
pub sets-payload : (a : Payload) (l : List ℕ) (at : ℕ) →
    sets (sets (sets l (at + payload_offset) (bytes_of 8 a.count)) (at + 16) (bytes_of 4 a.shortest)) (at + 20) (bytes_of 4 a.longest)
    ≡ sets l (at + payload_offset) (payload_bytes a)
unfolding record_bytes numbers payload_bytes
sets-payload a l at =
    let c = bytes_of 8 a.count in
    let s = bytes_of 4 a.shortest in
    let second : at + payload_offset + length c ≡ at + 16 = rw (length-bytes_of 8 a.count) (omega arith) in
    let third : at + 16 + length s ≡ at + 20 = rw (length-bytes_of 4 a.shortest) (omega arith) in
    rw (append-nil, sets-append c (s ++ bytes_of 4 a.longest) l (at + payload_offset), second, sets-append s (bytes_of 4 a.longest) (sets l (at + payload_offset) c) (at + 16), third) refl

-- a type record in its parts, the first with the zero byte behind the kind
pub sets-record : (kind key span : ℕ) (a : Payload) (l : List ℕ) (at : ℕ) → kind < 256 →
    sets (sets (sets (sets l at (bytes_of 2 kind)) (at + 2) (bytes_of 2 key)) (at + span_offset) (bytes_of 4 span)) (at + payload_offset) (payload_bytes a)
    ≡ sets l at (header_of kind key span a)
unfolding header bytes_of record_bytes numbers payload_bytes
sets-record kind key span a l at h =
    let high : kind / 256 % 256 ≡ 0 = omega arith in
    rw high (simp towards_suc)

-- a record stored over the first one
pub sets_first : (kind key span : ℕ) (a : Payload) (l x : List ℕ) {out : List ℕ} → type_size ≤ length l → drop type_size l ≡ x → out ≡ sets l 0 (header_of kind key span a) →
    out ≡ header_of kind key span a ++ x
sets_first kind key span a l x h e f =
    let n = length-header (record { kind = kind; key = key; keys = [] }) span a in
    f ∙ sets-eq (header_of kind key span a) l 0 (omega (arith, n)) ∙ rw (zero-add, n, e) refl
