-- The merge of two runs on their bytes, one addend at a time.
use mathlib.Core.Path.{◌≡◌, refl, sym, ap, ◌∙◌}
use mathlib.Core.Bool.{Bool, false, ◌||◌}
use mathlib.Core.List.{List, [], ◌∷◌, ◌++◌, append_assoc, append-nil}
use mathlib.Core.Logic.{◌⊎◌, inl, inr}
use Prim.Native.Nat.Ordering.{eq}
use Prim.Native.Nat.Ordering.{gt}
use Prim.Native.Nat.Ordering.{lt}
use Prim.Native.Nat.{ℕ, ◌+◌, ◌*◌, ◌≤◌, ◌<◌, max}
use native.Mathlib.Decide.{dec_lt}
use native.Mathlib.Omega.{arith}
use lib.Dec.{ltb}
use lib.ListN.{length, length-append}
use borrow.Author.Tests.{le-ltb, lt-ltb}
use Rattle.type_arena.specs.declared.level.Level.{Level}
use Rattle.counting_theory.specs.Payload.{Payload, join}
use Rattle.counting_theory.specs.Trie.{node, size, reduce_step, reduce_node, reduce, total, largest_below, largest_total}
use Rattle.counting_theory.specs.Label.{Counting, CountingType}
use Rattle.counting_theory.specs.declared.equivalence.Equivalence.{Equivalence}
use Rattle.counting_theory.specs.Encoding.{type_size, type_kind, type_key, type_payload, encode, type_of}
use Rattle.counting_theory.specs.WellFormed.{max_total}
use Rattle.type_arena.specs.Inside.Arena.{label_at, header_of}
use Rattle.type_arena.specs.Inside.Addend.{front, body, rest, Coded}
use Rattle.type_arena.specs.Inside.Runs.{TypeRun}
use Rattle.merging.specs.Inside.Merging.{exceeds, exceeds_below, both, merged_bytes, joined_bytes}
use Rattle.counting_theory.proofs.Label.{counting-laws}
use Rattle.counting_theory.proofs.WellFormed.Limit.{limit-totals, over-limit}
use Rattle.counting_theory.proofs.Trie.Sizes.{reduce-nil, size-reduce, total-reduce}
use Rattle.counting_theory.proofs.Encoding.Header.{length-encode}
use Rattle.type_arena.proofs.RecordBytes.{length-header}
use Rattle.type_arena.proofs.FirstAddend.{header-first, coded-type, coded-length, type-empty}
use Rattle.type_arena.proofs.Runs.{At, order, Head}

max-over : (m p q : ℕ) → ltb m (max p q) ≡ (ltb m p || ltb m q)
max-over m p q = go (dec_lt m p)
  where
    later : Dec (m < q) → p ≤ m → ltb m (max p q) ≡ ltb m q
    later (yes h) i = lt-ltb m (max p q) (omega arith) ∙ sym (lt-ltb m q h)
    later (no h) i = le-ltb m (max p q) (omega arith) ∙ sym (le-ltb m q (omega arith))

    go : Dec (m < p) → ltb m (max p q) ≡ (ltb m p || ltb m q)
    go (yes h) = lt-ltb m (max p q) (omega arith) ∙ rw (lt-ltb m p h) refl
    go (no h) = rw (le-ltb m p (omega arith)) (later (dec_lt m q) (omega arith))

module _ (e : Equivalence) where
  -- one step of the merge: z is stored, x' and y' are left, and p says whether z exceeds a limit
  pub record Step (x y z x' y' : List ℕ) (p : Bool) : Type 0 where
    pub is-bytes : merged_bytes e x y ≡ z ++ merged_bytes e x' y'
    pub is-over : exceeds_below (both e x y) ≡ (p || exceeds_below (both e x' y'))

  -- the merge begins with a node with the label, the count and the children c of w
  step : (x y w x' y' : List ℕ) (count : Payload) (c : CountingType) → both e x y ≡ node (label_at e w 0) count c (both e x' y') →
      Step x y (header_of (type_kind w 0) (type_key w 0) (1 + size c) count ++ encode c) x' y' (exceeds c)
  unfolding merged_bytes encode exceeds exceeds_below largest_below largest_total
  step x y w x' y' count c h =
      record {
        is-bytes = rw (h, header-first e w (1 + size c) count) (sym (append_assoc (header_of (type_kind w 0) (type_key w 0) (1 + size c) count) (encode c) (encode (both e x' y'))));
        is-over = rw (h, over-limit c) (max-over max_total (max (total Counting c) (largest_below Counting c)) (largest_below Counting (both e x' y')));
      }

light-body : {level : Level} {w : List ℕ} → Head level w → exceeds (type_of (At level) (body w)) ≡ false
unfolding exceeds
light-body h = rw h.in_body.limit refl

module _ {level : Level} {x y : List ℕ} where
  -- the first addend of w as it is
  kept : {w x' y' : List ℕ} → Head level w →
      both (At level) x y ≡ node (label_at (At level) w 0) (type_payload w 0) (type_of (At level) (body w)) (both (At level) x' y') →
      Step (At level) x y (front w) x' y' false
  kept {w} {x'} {y'} h z =
      let c : CountingType = type_of (At level) (body w) in
      let s : Step (At level) x y (header_of (type_kind w 0) (type_key w 0) (1 + size c) (type_payload w 0) ++ encode c) x' y' (exceeds c) =
      step (At level) x y w x' y' (type_payload w 0) c z in
      rw (light-body h, h.first.is_body, ← h.first.is_front) at s

  module _ (h : Head level x) (g : Head level y) where
    pub step_less : lt ≡ order (At level) x y → Step (At level) x y (front x) (rest x) y false
    unfolding both reduce reduce_node reduce_step
    step_less i = kept h (rw (h.first.is-type, g.first.is-type, ← i) refl)

    pub step-more : gt ≡ order (At level) x y → Step (At level) x y (front y) x (rest y) false
    unfolding both reduce reduce_node reduce_step
    step-more i = kept g (rw (h.first.is-type, g.first.is-type, ← i) refl)

    pub step_same : eq ≡ order (At level) x y → Step (At level) x y (joined_bytes (At level) x y) (rest x) (rest y) (exceeds (both (At level) (body x) (body y)))
    unfolding both reduce reduce_node reduce_step joined_bytes merged_bytes
    step_same i =
        step (At level) x y x (rest x) (rest y) (join (type_payload x 0) (type_payload y 0)) (both (At level) (body x) (body y)) (rw (h.first.is-type, g.first.is-type, ← i) refl)

-- one of two has run out: the merge is the other
pub record Alone (x : List ℕ) (f : CountingType) : Type 0 where
  pub is-bytes : encode f ≡ x
  pub light : exceeds f ≡ false
  pub light-below : exceeds_below f ≡ false

module _ {level : Level} (x : List ℕ) (p : TypeRun level x) where
  alone : {f : CountingType} → f ≡ type_of (At level) x → Alone x f
  unfolding exceeds exceeds_below largest_total
  alone z =
      record {
        is-bytes = ap encode (z ∙ coded-type p.coded) ∙ sym p.coded.bytes;
        light = rw (z, p.limit) refl;
        light-below = rw z (le-ltb max_total (largest_below Counting (type_of (At level) x)) (omega (arith, limit-totals (type_of (At level) x) p.limit)));
      }

  pub second-out : Alone x (both (At level) x [])
  unfolding both
  second-out = alone (rw (type-empty (At level)) (reduce-nil Counting _))

  first_out : Alone x (both (At level) [] x)
  unfolding both reduce
  first_out = alone (rw (type-empty (At level)) refl)

-- either of two has run out: the merge is what is left of both
pub record Ended (e : Equivalence) (x y : List ℕ) : Type 0 where
  pub is-bytes : merged_bytes e x y ≡ y ++ x
  pub light-below : exceeds_below (both e x y) ≡ false

pub ended : {level : Level} (x y : List ℕ) → TypeRun level x → TypeRun level y → (length x ≡ 0) ⊎ (length y ≡ 0) → Ended (At level) x y
unfolding merged_bytes
ended [] y p q h =
    let w = first_out y q in
    record { is-bytes = w.is-bytes ∙ sym (append-nil y); light-below = w.light-below }
ended (v ∷ x) [] p q h = let w = second-out (v ∷ x) p in record { is-bytes = w.is-bytes; light-below = w.light-below }
ended (v ∷ x) (w ∷ y) p q (inl h) = absurd (omega arith)
ended (v ∷ x) (w ∷ y) p q (inr h) = absurd (omega arith)

module _ (e : Equivalence) (x y : List ℕ) where
  pub length_merged : length (merged_bytes e x y) ≡ type_size * size (both e x y)
  unfolding merged_bytes
  length_merged = length-encode (both e x y)

  pub length-joined : length (joined_bytes e x y) ≡ type_size + length (merged_bytes e (body x) (body y))
  unfolding joined_bytes
  length-joined =
      simp length-append (rw (length-header (record { kind = type_kind x 0; key = type_key x 0; keys = [] }) (1 + size (both e (body x) (body y))) (join (type_payload x 0) (type_payload y 0))) refl)

  -- no run is longer than both together
  pub merged-le : {f g : Bool} → Coded e f x → Coded e g y → length (merged_bytes e x y) ≤ length x + length y
  unfolding both
  merged-le h i = omega (arith, length_merged, size-reduce Counting (type_of e x) (type_of e y), coded-length h, coded-length i)

  pub union-over : exceeds (both e x y) ≡ (ltb max_total (total Counting (type_of e x) + total Counting (type_of e y)) || exceeds_below (both e x y))
  unfolding exceeds exceeds_below largest_total both
  union-over =
      let f : CountingType = reduce Counting (type_of e x) (type_of e y) in
      over-limit f ∙ max-over max_total (total Counting f) (largest_below Counting f) ∙ rw (total-reduce counting-laws (type_of e x) (type_of e y)) refl
