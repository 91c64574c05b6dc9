-- Each element of a type's encoding is a byte.
use mathlib.Core.List.{◌++◌}
use Prim.Native.Nat.{◌+◌}
use native.Mathlib.Omega.{arith}
use Rattle.byte_records.specs.Number.{Bytes}
use Rattle.byte_records.proofs.Format.{bytes-append, bytes-record}
use Rattle.counting_theory.specs.Trie.{nil, node, size}
use Rattle.counting_theory.specs.Label.{CountingType}
use Rattle.counting_theory.specs.Encoding.{type_format, record_numbers, header, encode}

pub bytes-encode : (f : CountingType) → Bytes (encode f)
unfolding encode header
bytes-encode nil = λ p. omega arith
bytes-encode (node l a c s) =
    bytes-append (header l (1 + size c) a) (encode c ++ encode s) (bytes-record type_format (record_numbers l (1 + size c) a))
    (bytes-append (encode c) (encode s) (bytes-encode c) (bytes-encode s))
