-- The loop of removal: what holds at its head, a turn of each kind, and what is stored once it is left.
use mathlib.Core.Path.{◌≡◌, refl, sym, ap, ◌∙◌}
use mathlib.Core.Bool.{true, cond, not, ◌&&◌}
use mathlib.Core.List.{List, [], ◌∷◌}
use mathlib.Core.Option.{Option, none, some}
use Prim.Native.Nat.Ordering.{eq}
use Prim.Native.Nat.Ordering.{gt}
use Prim.Native.Nat.Ordering.{lt}
use Prim.Native.Nat.{ℕ, ◌+◌, ◌≤◌, ◌<◌}
use native.Mathlib.Nat.{le_refl}
use native.Mathlib.Omega.{arith}
use lib.Dec.{eqb}
use borrow.Author.Tests.{le-ltb, lt-ltb}
use Rattle.std.specs.declared.option.Option as code
use Rattle.std.proofs.Common.{Some, None}
use lib.ListN.{length}
use lib.Seq.{sets, length-sets}
use Rattle.value_table.specs.Value.{record_kind}
use Rattle.counting_theory.specs.declared.equivalence.Equivalence.TheVariants.{Kind as by_kind}
use Rattle.removal_theory.specs.Encoding.{type_payload, type_kind, type_of}
use Rattle.removal_theory.specs.Inside.TypeBytes.{type_count}
use Rattle.counting_theory.specs.WellFormed.{max_total}
use Rattle.removal_theory.specs.WellFormed.{field_counts}
use Rattle.removal_theory.proofs.WellFormed.Nodes.{field_counts-parts}
use Rattle.removal_theory.proofs.Encoding.Header.{payload-count}
use Rattle.type_arena.specs.declared.level.Level.{Level}
use Rattle.removal_arena.specs.Inside.Arena.{label_at}
use Rattle.removal_arena.specs.Inside.Addend.{front, body, rest, Kept}
use Rattle.removal_arena.specs.Inside.Runs.{TypeRun}
use Rattle.type_arena.specs.Inside.Runs.{inside_of}
use Rattle.removal_arena.proofs.FirstAddend.{front_rest}
use Rattle.removal_arena.proofs.Runs.{At, order, Head}
use Rattle.removal.specs.Inside.Removing.{WholeRun, run_left, addend_left, placed, AddendRemoved, remainder_at}
use Rattle.removal.proofs.OnBytes.Placing.{unless, placed-none, placed-some, lost-next, placed-next, lost}
use Rattle.removal.proofs.OnBytes.Steps.{Step, step_less, step-more, step_same, whole_out}

-- the runs that a whole's first addend leads to keep what is asked of the whole
module _ {level : Level} {limit : ℕ} {x : List ℕ} (h : Head level x) (w : WholeRun level limit x) where
  parts : (field_counts by_kind (type_of (At level) (body x)) ≡ true) × (field_counts by_kind (type_of (At level) (rest x)) ≡ true)
  parts =
      let p = field_counts-parts by_kind (label_at (At level) x 0) (type_payload x 0) (type_of (At level) (body x)) (type_of (At level) (rest x)) (rw h.first.is-type at w.fields) in
      (p.1, p.2)

  pub whole-rest : WholeRun level limit (rest x)
  whole-rest = record { run = h.in_rest; fields = parts.1; limited = w.limited }

  pub whole-inside : (n : ℕ) → WholeRun (inside_of level (type_kind x 0)) (cond (not level.field && eqb (type_kind x 0) record_kind) n max_total) (body x)
  whole-inside n = record { run = h.in_body; fields = parts.0; limited = λ z. rw z refl }

-- what is left to do: y is still to be taken out of x, into out from byte k on, as against b and a at the start
pub record State (level : Level) (limit : ℕ) (a b out₀ : List ℕ) (k₀ : ℕ) (x y out : List ℕ) (k : ℕ) : Type 0 where
  pub whole : WholeRun level limit x
  pub part : TypeRun level y
  pub long : length out ≡ length out₀
  pub from : k₀ ≤ k
  pub room : k + length x ≤ k₀ + length a
  pub left : placed out k (run_left (At level) limit x y) ≡ placed out₀ k₀ (run_left (At level) limit a b)

pub start : {level : Level} {limit : ℕ} {a b : List ℕ} (out : List ℕ) (k : ℕ) → WholeRun level limit a → TypeRun level b → State level limit a b out k a b out k
start out k p q = record { whole = p; part = q; long = refl; from = le_refl _; room = le_refl _; left = refl }

module _ {level : Level} {limit : ℕ} {a b out₀ : List ℕ} {k₀ : ℕ} {x y out : List ℕ} {k : ℕ} (s : State level limit a b out₀ k₀ x y out k) where
  abbrev Lost : Type 0
  Lost = none ≡ placed out₀ k₀ (run_left (At level) limit a b)

  nothing : run_left (At level) limit x y ≡ none → Lost
  nothing z = sym (placed-none out k) ∙ ap (placed out k) (sym z) ∙ s.left

  turn : (p : Option (List ℕ)) (x' y' out' : List ℕ) (k' : ℕ) → Step (At level) limit x y p x' y' → WholeRun level limit x' → TypeRun level y' →
      length out' ≡ length out → k ≤ k' → k' + length x' ≤ k + length x → some (out', k') ≡ placed out k p → State level limit a b out₀ k₀ x' y' out' k'
  turn p x' y' out' k' t u v n m r h =
      record {
        whole = u;
        part = v;
        long = n ∙ s.long;
        from = omega (arith, s.from);
        room = omega (arith, s.room);
        left = placed-next out out' k k' p (run_left (At level) limit x' y') h ∙ ap (placed out k) (sym t) ∙ s.left;
      }

  lost-turn : (p : Option (List ℕ)) (x' y' : List ℕ) → Step (At level) limit x y p x' y' → p ≡ none → Lost
  lost-turn p x' y' t z = nothing (t ∙ rw z (lost-next (run_left (At level) limit x' y')))

  module _ (h : Head level x) (g : Head level y) where
    module _ (i : lt ≡ order (At level) x y) {n : ℕ} (c : n ≡ type_count x 0) where
      counted : n ≡ (type_payload x 0).count
      counted = c ∙ sym (payload-count x 0)

      pub turn-less : {out' r : List ℕ} {k' : ℕ} → n ≤ limit → Kept x out k r out' k' → State level limit a b out₀ k₀ r y out' k'
      unfolding unless
      turn-less l z =
          let t = rw (le-ltb limit (type_payload x 0).count (omega (arith, counted))) at (step_less limit h g s.whole i) in
          rw (z.bytes, z.upto, z.left)
          (turn (some (front x)) (rest x) y (sets out k (front x)) (k + length (front x)) t (whole-rest h s.whole) s.part (length-sets out k (front x))
          (omega arith) (omega (arith, front_rest h.first)) (placed-some out k (front x)))

      pub less-lost : limit < n → Lost
      unfolding unless
      less-lost l =
          let t = rw (lt-ltb limit (type_payload x 0).count (omega (arith, counted))) at (step_less limit h g s.whole i) in
          lost-turn none (rest x) y t refl

    pub more-lost : gt ≡ order (At level) x y → Lost
    more-lost i = lost-turn none x (rest y) (step-more limit h g i) refl

    module _ (i : eq ≡ order (At level) x y) {removed : code.Option ℕ} {out' : List ℕ} (j : AddendRemoved (At level) limit x y out k out' removed) where
      pub turn-same : {n : ℕ} {u v : List ℕ} → removed ≡ Some n → length out' ≡ length out → u ≡ rest x → v ≡ rest y →
          State level limit a b out₀ k₀ u v out' (k + n)
      unfolding remainder_at
      turn-same {n} r l f z =
          let m : n ≤ length (front x) = rw r at j.room in
          rw (f, z)
          (turn (addend_left (At level) limit x y) (rest x) (rest y) out' (k + n) (step_same limit h g i) (whole-rest h s.whole) g.in_rest l (omega arith)
          (omega (arith, front_rest h.first)) (rw r at j.left))

      pub same-lost : removed ≡ None → Lost
      unfolding remainder_at
      same-lost r = lost-turn (addend_left (At level) limit x y) (rest x) (rest y) (step_same limit h g i) (lost out k (addend_left (At level) limit x y) (rw r at j.left))

-- either run has run out
pub part-done : {level : Level} {limit : ℕ} {a b out₀ : List ℕ} {k₀ : ℕ} {x y out : List ℕ} {k : ℕ} →
    State level limit a b out₀ k₀ x y out k → length y ≡ 0 → State level limit a b out₀ k₀ x [] out k
part-done {y = []} s h = s
part-done {y = v ∷ y} s h = absurd (omega arith)

pub whole-done : {level : Level} {limit : ℕ} {a b out₀ : List ℕ} {k₀ : ℕ} {x y out : List ℕ} {k : ℕ} →
    State level limit a b out₀ k₀ x y out k → Head level y → length x ≡ 0 → none ≡ placed out₀ k₀ (run_left (At level) limit a b)
whole-done {limit = limit} {x = []} s g h = nothing s (whole_out limit g)
whole-done {x = v ∷ x} s g h = absurd (omega arith)
