-- An item is counted and what is below it added: its record's span is stored once that has grown.
use mathlib.Core.Path.{◌≡◌, refl, ◌∙◌, ap}
use mathlib.Core.Bool.{Bool}
use mathlib.Core.List.{List, ◌++◌, append_assoc}
use Prim.Native.Nat.{ℕ, ◌+◌, ◌-◌, ◌*◌, ◌^◌, ◌≤◌, ◌<◌}
use native.Mathlib.Omega.{arith}
use lib.Dec.{eqb}
use lib.ListN.{length, take, drop, length-append, length-take, length-drop}
use lib.Seq.{sets}
use borrow.Rule.Slice.PartMut.{put_mid}
use Rattle.byte_records.specs.Number.{bytes_of}
use Rattle.value_table.specs.Value.{max_length, record_kind, Values}
use Rattle.std.specs.Prelude.{Result, Ok, Err}
use Rattle.type_arena.specs.declared.record_store.NoRoom.{NoRoom}
use Rattle.byte_records.proofs.Format.{field-set, field-read, sets_behind}
use Rattle.counting_theory.specs.Payload.{Payload}
use Rattle.counting_theory.specs.Trie.{size, insert, add}
use Rattle.counting_theory.specs.Label.{Label, Counting, CountingType}
use Rattle.counting_theory.specs.declared.equivalence.Equivalence.{Equivalence}
use Rattle.counting_theory.specs.Raw.{raw}
use Rattle.counting_theory.specs.Encoding.{type_format, type_size, type_span, record_numbers, header, encode}
use Rattle.counting_theory.specs.Inside.Times.{times}
use Rattle.type_arena.specs.Inside.Arena.{span_offset}
use Rattle.type_arena.proofs.RecordBytes.{length-header}
use Rattle.inference.specs.Inside.Inferring.{TableRun, InferredSiblings, ArenaHolds, Starts, Split, split, grown, Counted, Grown, Added}
use Rattle.counting_theory.proofs.Encoding.Header.{length-encode}
use Rattle.inference.proofs.InPlace.Runs.{none_left}
use Rattle.inference.proofs.InPlace.Part.{tail-drop, tail-part, tail-put}
use Rattle.inference.proofs.InPlace.Append.{encode-append}
use Rattle.inference.proofs.InPlace.Splits.{insert-split, content-siblings}
use Rattle.inference.proofs.InPlace.Placing.{encode-node}
use Rattle.inference.proofs.InPlace.Items.{insert-size}

span-stored : (l : Label) (n : ℕ) (a : Payload) (k : ℕ) (x : List ℕ) → sets (header l n a ++ x) span_offset (bytes_of 4 k) ≡ header l k a ++ x
unfolding header
span-stored l n a k x = field-set type_format (record_numbers l n a) x 3 k (omega arith)

span-read : (b : List ℕ) (i : ℕ) (l : Label) (n : ℕ) (a : Payload) (x : List ℕ) → n < 2 ^ 32 → drop (type_size * i) b ≡ header l n a ++ x → type_span b i ≡ n
unfolding type_span header
span-read b i l n a x h e = field-read type_format (record_numbers l n a) b x i e 3 h

-- what is asked of adding an item: the siblings that are held, where a search may begin, and the run below the item
pub record Task (e : Equivalence) (kind from n rest : ℕ) (a t : List ℕ) : Type 0 where
  pub field : Bool
  pub f : CountingType
  pub q : List ℕ
  pub free : List ℕ
  pub vs : Values
  pub holds : ArenaHolds e field a n rest f q free
  pub starts : Starts from f
  pub run : TableRun (eqb kind record_kind) t vs

module _ {l : Label} {w : Payload} (f : CountingType) {q : List ℕ} (rest : ℕ) (used : length q ≡ type_size * rest) {b : List ℕ} (short : length b ≤ max_length) {p m : ℕ} (y : Counted (split l f) l w q p m b) where
  abbrev x : Split
  x = split l f

  abbrev head : List ℕ
  head = encode x.before ++ header l (1 + size x.content) w

  abbrev tail : List ℕ
  tail = encode x.content ++ ((encode x.after ++ q) ++ y.free)

  head_tail : b ≡ head ++ tail
  head_tail = y.bytes ∙ simp append_assoc

  before-length : length (encode x.before) ≡ type_size * p
  before-length = omega (arith, length-encode x.before, y.place)

  head-length : length head ≡ type_size * p + type_size
  head-length = simp (length-append, length-header, before-length)

  pub step-length : length b ≡ type_size * (m + rest) + length y.free
  step-length =
      ap length head_tail
      ∙ simp (length-append, length-header, before-length) (omega (arith, length-encode x.content, length-encode x.after, y.count, y.place))

  pub step-within : p + (1 + size x.content) ≤ m
  step-within = omega (arith, y.count, y.place)

  pub step-span : type_span b p ≡ 1 + size x.content
  step-span =
      span-read b p l (1 + size x.content) w _ (omega (arith, step-length, step-within))
      (tail-drop b (encode x.before) _ (type_size * p) y.bytes before-length)

  -- nothing is below the item
  pub step-empty : (a : Payload) → w ≡ grown x.payload a → (g : CountingType → CountingType) → ((c : CountingType) → g c ≡ c) → Grown (insert Counting l a g f) q m b
  step-empty a z g e =
      record {
        count = omega (arith, insert-size l a g f, ap size (e x.content), y.count);
        free = y.free;
        bytes = y.bytes ∙ rw (z, insert-split l a g f, e x.content) (simp (encode-append, encode-node, append_assoc));
      }

  module _ (s : ℕ) (es : s ≡ 1 + size x.content) where
    pub step-holds : (e : Equivalence) (field : Bool) → InferredSiblings e field f →
        ArenaHolds e (eqb l.kind record_kind) (take (length b - (type_size * p + type_size)) (drop (type_size * p + type_size) b)) (s - 1) (m + rest - p - s) x.content (encode x.after ++ q) y.free
    step-holds e field h =
        record {
          bytes = tail-part b head tail (type_size * p + type_size) head_tail head-length;
          count = omega arith;
          used = simp length-append (omega (arith, length-encode x.after, y.count, y.place));
          short = simp (length-take, length-drop) (omega arith);
          siblings = content-siblings l e field f h;
        }

    module _ (a : Payload) (is : w ≡ grown x.payload a) (g : CountingType → CountingType) where
      pub step-full : (z : List ℕ) → length z < type_size * (size (g x.content) + (m + rest - p - s)) →
          length (put_mid (type_size * p + type_size) (length b - (type_size * p + type_size)) b z) < type_size * (size (insert Counting l a g f) + rest)
      step-full z h =
          rw (tail-put b head tail (type_size * p + type_size) head_tail head-length z)
          (simp (length-append, length-header, before-length) (omega (arith, insert-size l a g f, y.count, y.place)))

      step-put : (z : List ℕ) → put_mid (type_size * p + type_size) (length b - (type_size * p + type_size)) b z ≡ encode x.before ++ (header l (1 + size x.content) w ++ z)
      step-put z = tail-put b head tail (type_size * p + type_size) head_tail head-length z ∙ append_assoc (encode x.before) (header l (1 + size x.content) w) z

      pub step-grown : (k : ℕ) (z b' : List ℕ) → Grown (g x.content) (encode x.after ++ q) k z →
          b' ≡ sets (put_mid (type_size * p + type_size) (length b - (type_size * p + type_size)) b z) (type_size * p + span_offset) (bytes_of 4 (k + 1)) →
          Grown (insert Counting l a g f) q (m + (k + 1) - s) b'
      step-grown k z b' v h =
          let i : k + 1 ≡ 1 + size (g x.content) = omega (arith, v.count) in
          record {
            count = omega (arith, insert-size l a g f, y.count, y.place, v.count);
            free = v.free;
            bytes = h
                ∙ rw (step-put z, ← before-length, sets_behind (encode x.before) (header l (1 + size x.content) w ++ z) (bytes_of 4 (k + 1)) span_offset, span-stored, i, v.bytes, insert-split l a g f, is)
                (simp (encode-append, encode-node, append_assoc));
          }

      -- as many records as before are below it
      pub step_kept : (z : List ℕ) → Grown (g x.content) (encode x.after ++ q) (s - 1) z →
          Grown (insert Counting l a g f) q m (put_mid (type_size * p + type_size) (length b - (type_size * p + type_size)) b z)
      step_kept z v =
          let i : size x.content ≡ size (g x.content) = omega (arith, v.count) in
          record {
            count = omega (arith, insert-size l a g f, y.count, y.place, v.count);
            free = v.free;
            bytes = rw (step-put z, i, v.bytes, insert-split l a g f, is) (simp (encode-append, encode-node, append_assoc));
          }

-- an empty run adds nothing
pub nothing-added : (field : Bool) (t : List ℕ) → length t ≡ 0 → {vs : Values} → TableRun field t vs → (e : Equivalence) (w : ℕ) (c : CountingType) → add Counting (times w (raw e field vs)) c ≡ c
unfolding raw times add
nothing-added field t z {vs} r e w c = rw (none_left t 0 vs (omega arith) r.bytes) refl

-- the two answers on what is below
module _ (g : CountingType) (q : List ℕ) (rest : ℕ) (b : List ℕ) where
  pub added_full : (r : Result ℕ NoRoom) (e : NoRoom) → r ≡ Err e → Added g q rest r b → length b < type_size * (size g + rest)
  added_full r o e h = rw e at h

  pub added-records : (r : Result ℕ NoRoom) (k : ℕ) → r ≡ Ok k → Added g q rest r b → Grown g q k b
  added-records r k e h = rw e at h

pub grown-length : {g : CountingType} {q : List ℕ} {k : ℕ} {b : List ℕ} → Grown g q k b → type_size * k ≤ length b
grown-length {g} {q} {k} {b} x = omega (arith, simp length-append at (ap length x.bytes), length-encode g, x.count)
