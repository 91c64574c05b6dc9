-- Reading 16-byte records by the spans gives back the type that was written.
use mathlib.Core.Path.{◌≡◌, refl, sym}
use mathlib.Core.Bool.{Bool}
use mathlib.Core.List.{List, ◌++◌, append-nil}
use Prim.Native.Nat.{ℕ, zero, suc, ◌+◌, ◌*◌, ◌/◌, ◌≤◌}
use native.Mathlib.Omega.{arith}
use lib.ListN.{length, drop}
use lib.Seq.{drop-length}
use borrow.Author.Tests.{lt-ltb, le-ltb}
use Rattle.counting_theory.specs.Trie.{nil, node, size}
use Rattle.counting_theory.specs.declared.equivalence.Equivalence.{Equivalence}
use Rattle.removal_theory.specs.Label.{CountingType}
use Rattle.removal_theory.specs.Encoding.{type_size, type_span, encode, decode, type_of, Tagged}
use Rattle.removal_theory.specs.Inside.TypeBytes.{Fitting}
use Rattle.counting_theory.proofs.Tagged.Parts.{holds_fields}
use Rattle.removal_theory.proofs.Tagged.Parts.{tagged-parts, shape-label}
use Rattle.removal_theory.proofs.Encoding.Header.{length-encode}
use Rattle.removal_theory.proofs.Encoding.Node.{node-read}

module _ (eq : Equivalence) where
  -- records i to end hold f
  pub decode-run : (b : List ℕ) (k i end : ℕ) (field : Bool) (f : CountingType) → Tagged eq field f → Fitting f → size f ≤ k →
      drop (type_size * i) b ≡ encode f ++ drop (type_size * end) b → i + size f ≡ end → decode eq b k i end ≡ f
  unfolding decode encode size Fitting
  decode-run b zero i end field nil t fit h e n = refl
  decode-run b zero i end field (node l a c s) t fit h e n = absurd (omega arith)
  decode-run b (suc k) i end field nil t fit h e n = rw (le-ltb i end (omega arith), decode) refl
  decode-run b (suc k) i end field (node l a c s) t fit h e n =
      let r = tagged-parts eq field l a c s t in
      let f = node-read b i end l a c s fit e in
      rw (
        lt-ltb i end (omega arith),
        decode,
        decode-run b k (i + 1) (i + type_span b i) (holds_fields field l) c r.1 fit.1 (omega arith) f.in-children (omega (arith, f.span-is)),
        decode-run b k (i + type_span b i) end field s r.2 fit.2 (omega arith) f.in-next (omega (arith, f.span-is)),
        f.kind-is,
        f.key-is,
        f.payload-is,
        ← shape-label eq field l c r.0,
      )
      refl

  pub decode-encode : (field : Bool) (f : CountingType) → Tagged eq field f → Fitting f → type_of eq (encode f) ≡ f
  unfolding type_of
  decode-encode field f t fit =
      let n : length (encode f) / type_size ≡ size f = omega (arith, length-encode f) in
      rw n (decode-run (encode f) (size f) 0 (size f) field f t fit (omega arith)
      (rw (← length-encode f, drop-length) (sym (append-nil _))) (omega arith))
