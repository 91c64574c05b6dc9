-- The loop of the merge: what holds at its head, a turn of each kind, and what is stored once it is left.
use mathlib.Core.Path.{◌≡◌, refl, sym, ap, ◌∙◌}
use mathlib.Core.Bool.{Bool, false, ◌||◌, or_assoc, or-false}
use mathlib.Core.List.{List, [], ◌∷◌}
use mathlib.Core.Logic.{◌⊎◌}
use Prim.Native.Nat.Ordering.{eq}
use Prim.Native.Nat.Ordering.{gt}
use Prim.Native.Nat.Ordering.{lt}
use Prim.Native.Nat.{ℕ, ◌+◌, ◌-◌, ◌/◌, ◌≤◌}
use native.Mathlib.Nat.{le_refl}
use native.Mathlib.Omega.{arith}
use lib.Dec.{ltb}
use lib.ListN.{length, length-append}
use lib.Seq.{sets, length-sets}
use Rattle.type_arena.specs.declared.level.Level.{Level}
use Rattle.counting_theory.specs.Payload.{Payload, join}
use Rattle.counting_theory.specs.Trie.{size, total}
use Rattle.counting_theory.specs.Label.{Counting}
use Rattle.counting_theory.specs.declared.equivalence.Equivalence.{Equivalence}
use Rattle.counting_theory.specs.Encoding.{type_payload, type_size, type_kind, type_key, type_of}
use Rattle.counting_theory.specs.WellFormed.{max_total}
use Rattle.type_arena.specs.Inside.Arena.{header_of}
use Rattle.type_arena.specs.Inside.Addend.{front, body, rest, Kept}
use Rattle.type_arena.specs.Inside.Runs.{TypeRun, inside_of}
use Rattle.merging.specs.Inside.Merging.{exceeds_below, both, merged_bytes, joined_bytes, MergedSoFar, MergeStored, Joined}
use Rattle.type_arena.specs.Inside.Payload.{payload_bytes}
use Rattle.type_arena.proofs.PayloadBytes.{header-same}
use Rattle.byte_records.proofs.Sets.{sets-append, sets_last}
use Rattle.type_arena.proofs.RecordBytes.{length-header}
use Rattle.type_arena.proofs.FirstAddend.{body-rest, front_rest}
use Rattle.type_arena.proofs.Runs.{At, order, Head}
use Rattle.merging.proofs.TypeMerge.OneAddend.{Step, step_less, step-more, step_same, second-out, ended, length_merged, length-joined, merged-le, union-over}

-- what is left to do: x and y are still to be merged into out from byte k on, as against a and b at the start
pub record State (level : Level) (a b out₀ : List ℕ) (k₀ : ℕ) (over₀ : Bool) (x y out : List ℕ) (k : ℕ) (over : Bool) : Type 0 where
  pub first : TypeRun level x
  pub second : TypeRun level y
  pub long : length out ≡ length out₀
  pub room : k + length x + length y ≤ k₀ + length a + length b
  pub bytes : sets out k (merged_bytes (At level) x y) ≡ sets out₀ k₀ (merged_bytes (At level) a b)
  pub upto : k + length (merged_bytes (At level) x y) ≡ k₀ + length (merged_bytes (At level) a b)
  pub seen : (over || exceeds_below (both (At level) x y)) ≡ (over₀ || exceeds_below (both (At level) a b))

pub start : {level : Level} {a b : List ℕ} (out : List ℕ) (k : ℕ) (over : Bool) → TypeRun level a → TypeRun level b → State level a b out k over a b out k over
start out k over p q = record { first = p; second = q; long = refl; room = le_refl _; bytes = refl; upto = refl; seen = refl }

module _ {level : Level} {a b out₀ : List ℕ} {k₀ : ℕ} {over₀ : Bool} {x y out : List ℕ} {k : ℕ} {over : Bool}
    (s : State level a b out₀ k₀ over₀ x y out k over) where
  turn : (z x' y' : List ℕ) (p : Bool) → Step (At level) x y z x' y' p → TypeRun level x' → TypeRun level y' → length z + length x' + length y' ≤ length x + length y →
      State level a b out₀ k₀ over₀ x' y' (sets out k z) (k + length z) (over || p)
  turn z x' y' p t u v h =
      record {
        first = u;
        second = v;
        long = length-sets out k z ∙ s.long;
        room = omega (arith, s.room);
        bytes = sym (sets-append z (merged_bytes (At level) x' y') out k) ∙ ap (sets out k) (sym t.is-bytes) ∙ s.bytes;
        upto = omega (arith, s.upto, ap length t.is-bytes, length-append z (merged_bytes (At level) x' y'));
        seen = or_assoc over p (exceeds_below (both (At level) x' y')) ∙ ap (λ q. over || q) (sym t.is-over) ∙ s.seen;
      }

  module _ (h : Head level x) (g : Head level y) where
    pub turn-less : {out' r : List ℕ} {k' : ℕ} → lt ≡ order (At level) x y → Kept x out k r out' k' → State level a b out₀ k₀ over₀ r y out' k' over
    turn-less i z =
        rw (z.bytes, z.upto, z.left)
        (rw or-false at (turn (front x) (rest x) y false (step_less h g i) h.in_rest s.second (omega (arith, front_rest h.first))))

    pub turn_more : {out' r : List ℕ} {k' : ℕ} → gt ≡ order (At level) x y → Kept y out k r out' k' → State level a b out₀ k₀ over₀ x r out' k' over
    turn_more i z =
        rw (z.bytes, z.upto, z.left)
        (rw or-false at (turn (front y) x (rest y) false (step-more h g i) s.first g.in_rest (omega (arith, front_rest g.first))))

    grows : length (joined_bytes (At level) x y) + length (rest x) + length (rest y) ≤ length x + length y
    grows =
        omega (arith, length-joined (At level) x y, merged-le (At level) (body x) (body y) h.first.in_body g.first.in_body, body-rest h.first, body-rest g.first)

    pub turn-same : {out' u v : List ℕ} {n : ℕ} {p : Bool} → eq ≡ order (At level) x y → Joined (At level) x y out k out' n p →
        u ≡ rest x → v ≡ rest y → State level a b out₀ k₀ over₀ u v out' (k + n) (over || p)
    turn-same i j f z =
        rw (f, z, j.bytes, j.counted, j.seen) (turn (joined_bytes (At level) x y) (rest x) (rest y) _ (step_same h g i) h.in_rest g.in_rest grows)

    pub joined-room : {out' : List ℕ} {n : ℕ} {p : Bool} → Joined (At level) x y out k out' n p → k + n ≤ k₀ + length a + length b
    joined-room j = omega (arith, j.counted, grows, s.room)

-- no merge of two addends is longer than both together
pub inside-fits : {level : Level} {x y v w out out₁ : List ℕ} {at n : ℕ} {p : Bool} → Head level x → Head level y → v ≡ body x → w ≡ body y →
    MergeStored (At level) v w out at out₁ n p → type_size + n ≤ length x + length y
inside-fits {level} {x} {y} h g e f m =
    omega (
      arith,
      (rw (e, f) at m).counted,
      merged-le (At level) (body x) (body y) h.first.in_body g.first.in_body,
      body-rest h.first,
      body-rest g.first,
    )

-- the second is empty from the start
pub first-only : {level : Level} {a b out out' : List ℕ} {at : ℕ} → TypeRun level a → length b ≡ 0 → out' ≡ sets out at a →
    MergeStored (At level) a b out at out' (length a) false
unfolding merged_bytes
first-only {a = a} {b = []} {out = out} {at = at} p h e =
    let w = second-out a p in
    record { bytes = e ∙ ap (sets out at) (sym w.is-bytes); counted = ap length (sym w.is-bytes); seen = sym w.light }
first-only {b = v ∷ b} p h e = absurd (omega arith)

pub stored-inside : (level : Level) (kind : ℕ) {inner : Level} {v w out out₁ : List ℕ} {at n : ℕ} {p : Bool} → inner ≡ inside_of level kind →
    MergeStored (At inner) v w out at out₁ n p → MergeStored (At level) v w out at out₁ n p
stored-inside level kind e m = rw e at m

-- the merge inside, and then the header before it
pub addend-done : {e : Equivalence} {x y v w out out₁ out₂ : List ℕ} {at n kind key : ℕ} {p : Bool} (i j k : Payload) → v ≡ body x → w ≡ body y →
    MergeStored e v w out (at + type_size) out₁ n p → kind ≡ type_kind x 0 → key ≡ type_key x 0 → i ≡ type_payload x 0 → j ≡ type_payload y 0 → payload_bytes k ≡ payload_bytes (join i j) →
    out₂ ≡ sets out₁ at (header_of kind key ((type_size + n) / type_size) k) → Joined e x y out at out₂ (type_size + n) p
unfolding joined_bytes
addend-done {e} {x} {y} {v} {w} {out} {out₁} {at = at} {n = n} {p = p} i j u f g m a b c d h z =
    let r : MergeStored e (body x) (body y) out (at + type_size) out₁ n p = rw (f, g) at m in
    let span : ℕ = 1 + size (both e (body x) (body y)) in
    let l : (type_size + n) / type_size ≡ span = omega (arith, r.counted, length_merged e (body x) (body y)) in
    let H : List ℕ = header_of (type_kind x 0) (type_key x 0) span (join (type_payload x 0) (type_payload y 0)) in
    let k : at + type_size ≡ at + length H = ap (λ u. at + u) (sym (length-header (record { kind = type_kind x 0; key = type_key x 0; keys = [] }) span (join (type_payload x 0) (type_payload y 0)))) in
    record {
      bytes = z ∙ rw (r.bytes, header-same _ _ _ u (join i j) h, a, b, c, d, l, k) (sets_last H (merged_bytes e (body x) (body y)) out at);
      counted = omega (arith, r.counted, length-joined e x y);
      seen = r.seen;
    }

-- either run has run out, and what is left of the second is stored
pub run-done : {level : Level} {a b out₀ x y out out₁ : List ℕ} {k₀ k k₁ : ℕ} {o over : Bool} → State level a b out₀ k₀ o x y out k over →
    (length x ≡ 0) ⊎ (length y ≡ 0) → (out₁ ≡ sets out k y) × (k₁ ≡ k + length y) → MergedSoFar (At level) a b out₀ k₀ o x out₁ k₁ over
run-done {level} {x = x} {y = y} {out = out} {k = k} {over = over} s h e =
    let w = ended x y s.first s.second h in
    record {
      bytes = rw (e.0, e.1) (sym (sets-append y x out k)) ∙ ap (sets out k) (sym w.is-bytes) ∙ s.bytes;
      upto = omega (arith, e.1, s.upto, ap length w.is-bytes, length-append y x);
      seen = sym (or-false over) ∙ ap (λ q. over || q) (sym w.light-below) ∙ s.seen;
    }

-- and then what is left of the first
pub union-done : {e : Equivalence} {a b out out₁ out₂ t : List ℕ} {at k k' : ℕ} {o p : Bool} →
    o ≡ ltb max_total (total Counting (type_of e a) + total Counting (type_of e b)) → MergedSoFar e a b out at o t out₁ k p →
    (out₂ ≡ sets out₁ k t) × (k' ≡ k + length t) → MergeStored e a b out at out₂ (k' - at) p
union-done {e} {a} {b} z r h =
    record {
      bytes = h.0 ∙ r.bytes;
      counted = omega (arith, h.1, r.upto);
      seen = r.seen ∙ rw z (sym (union-over e a b));
    }
