-- A payload is added at a label: to that of its record, or in a new record in a gap.
use mathlib.Core.Path.{◌≡◌, refl, ◌∙◌, ap}
use mathlib.Core.Bool.{Bool}
use mathlib.Core.List.{List, ◌++◌, append_assoc}
use Prim.Native.Nat.{ℕ, ◌+◌, ◌-◌, ◌*◌, ◌≤◌, ◌<◌}
use native.Mathlib.Omega.{arith}
use lib.ListN.{length, take, drop, length-append}
use lib.Seq.{take_at, drop-append-add, sets}
use borrow.Rule.Slice.PartMut.{put_mid}
use Rattle.counting_theory.specs.Payload.{Payload, join}
use Rattle.counting_theory.specs.Trie.{node, size}
use Rattle.counting_theory.specs.Label.{Label, CountingType}
use Rattle.counting_theory.specs.declared.equivalence.Equivalence.{Equivalence}
use Rattle.counting_theory.specs.Encoding.{type_size, type_payload, header, encode}
use Rattle.type_arena.specs.Inside.Arena.{header_of}
use Rattle.type_arena.specs.Inside.Payload.{payload_offset, payload_bytes, LengthsKept}
use Rattle.type_arena.proofs.PayloadBytes.{payload-joined}
use Rattle.inference.specs.Inside.Inferring.{ArenaHolds, Split, grown, Counted}
use Rattle.counting_theory.proofs.Encoding.Header.{length-encode}
use Rattle.inference.proofs.InPlace.Part.{tail-part, tail-put}
use Rattle.inference.proofs.InPlace.Append.{encode-append, size-append, siblings-last}
use Rattle.inference.proofs.InPlace.Splits.{HereAt, MissingAt}

pub encode-node : (l : Label) (a : Payload) (c s : CountingType) → encode (node l a c s) ≡ header l (1 + size c) a ++ (encode c ++ encode s)
unfolding encode
encode-node l a c s = refl

module _ {e : Equivalence} {field : Bool} {a : List ℕ} {n rest : ℕ} {f : CountingType} {q free : List ℕ} (h : ArenaHolds e field a n rest f q free) where
  pub holds-length : length a ≡ type_size * n + type_size * rest + length free
  holds-length = ap length h.bytes ∙ simp length-append (omega (arith, length-encode f, h.count, h.used))

  module _ (l : Label) (x : Split) (p : ℕ) where
    module _ (v : HereAt x l 0 f p) where
      here-front : length (encode x.before) ≡ type_size * p
      here-front = omega (arith, length-encode x.before, v.spot_is)

      abbrev here-tail : List ℕ
      here-tail = header l (1 + size x.content) v.held ++ (encode x.content ++ (encode x.after ++ (q ++ free)))

      here-bytes : a ≡ encode x.before ++ here-tail
      here-bytes = h.bytes ∙ ap (λ g. encode g ++ (q ++ free)) v.whole ∙ simp (encode-append, encode-node, append_assoc)

      here-kept : LengthsKept v.held
      here-kept = (siblings-last x.before (rw v.whole at h.siblings)).numbers.0.2

      here-count : n ≡ size x.before + (1 + (size x.content + size x.after))
      unfolding size
      here-count = h.count ∙ ap size v.whole ∙ size-append _ _

      pub here-within : p < n
      here-within = omega (arith, here-count, v.spot_is)

      -- nothing is counted yet
      pub here-as-is : Counted x l v.held q p n a
      here-as-is = record { place = omega (arith, v.spot_is); count = here-count; free = free; bytes = here-bytes }

      pub here-counted : (w : Payload) (b : List ℕ) → b ≡ sets a (type_size * p + payload_offset) (payload_bytes (join (type_payload a p) w)) →
          Counted x l (grown x.payload w) q p n b
      unfolding grown
      here-counted w b z =
          record {
            place = omega (arith, v.spot_is);
            count = here-count;
            free = free;
            bytes = z ∙ payload-joined a (encode x.before) p l (1 + size x.content) v.held _ here-bytes here-front here-kept w ∙ rw v.held-is refl;
          }

    module _ (v : MissingAt x 0 f p) where
      missing-front : length (encode x.before) ≡ type_size * p
      missing-front = omega (arith, length-encode x.before, v.spot_is)

      missing-bytes : a ≡ encode x.before ++ ((encode x.after ++ q) ++ free)
      missing-bytes = h.bytes ∙ ap (λ g. encode g ++ (q ++ free)) v.whole ∙ simp (encode-append, append_assoc)

      missing-count : n ≡ size x.before + size x.after
      missing-count = h.count ∙ ap size v.whole ∙ size-append _ _

      pub missing-within : p ≤ n
      missing-within = omega (arith, missing-count, v.spot_is)

      moved_length : length (encode x.after ++ q) ≡ type_size * (n + rest) - type_size * p
      moved_length = simp length-append (omega (arith, length-encode x.after, missing-count, v.spot_is, h.used))

      -- no record is free for it
      pub missing-full : (k : ℕ) → k - type_size * (n + rest) < type_size → type_size * (n + rest) ≤ k →
          k < type_size * (size x.before + (1 + (size x.content + size x.after)) + rest)
      missing-full k i j = omega (arith, missing-count)

      pub missing-counted : (w : Payload) (b : List ℕ) → let t = take (length a - type_size * p) (drop (type_size * p) a) in let k = type_size * (n + rest) - type_size * p in
          b ≡ header_of l.kind l.key 1 w ++ (take k t ++ drop (k + type_size) t) →
          Counted x l (grown x.payload w) q p (n + 1) (put_mid (type_size * p) (length a - type_size * p) a b)
      unfolding size encode header grown
      missing-counted w b z =
          let none : size x.content ≡ 0 = ap size v.empty in
          let k = type_size * (n + rest) - type_size * p in
          let moved : List ℕ = encode x.after ++ q in
          let first : take k (moved ++ free) ≡ moved = take_at moved free k moved_length in
          let last : drop (k + type_size) (moved ++ free) ≡ drop type_size free = rw (← moved_length) (drop-append-add moved free type_size) in
          let u : b ≡ header l 1 w ++ (moved ++ drop type_size free) =
          rw (tail-part a (encode x.before) (moved ++ free) (type_size * p) missing-bytes missing-front, first, last) at z in
          record {
            place = omega (arith, v.spot_is);
            count = omega (arith, missing-count);
            free = drop type_size free;
            bytes = tail-put a (encode x.before) (moved ++ free) _ missing-bytes missing-front b ∙ rw (u, v.empty, v.fresh) (simp append_assoc);
          }
