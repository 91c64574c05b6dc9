-- What is stored of a first addend and of a run, from what their parts have stored.
use mathlib.Core.Path.{◌≡◌, refl, sym, ap, ◌∙◌}
use mathlib.Core.Bool.{Bool, true, false, cond, not}
use mathlib.Core.List.{List, [], ◌++◌}
use mathlib.Core.Option.{none, some}
use Prim.Native.Nat.{ℕ, ◌+◌, ◌-◌, ◌/◌, ◌≤◌, ◌<◌}
use native.Mathlib.Omega.{arith}
use lib.ListN.{length, length-append}
use lib.Seq.{sets}
use borrow.Author.Tests.{not-true}
use Rattle.counting_theory.specs.declared.equivalence.Equivalence.TheVariants.{Kind as by_kind}
use Rattle.removal_theory.specs.Encoding.{type_size, type_kind, type_key, type_of}
use Rattle.removal_theory.specs.Inside.TypeBytes.{type_count}
use Rattle.counting_theory.specs.WellFormed.{max_total}
use Rattle.removal_theory.specs.WellFormed.{fields_of}
use Rattle.type_arena.specs.declared.level.Level.{Level}
use Rattle.removal_arena.specs.Inside.Arena.{header_of}
use Rattle.removal_arena.specs.Inside.Addend.{front, body}
use Rattle.type_arena.specs.Inside.Runs.{inside_of}
use Rattle.removal_arena.proofs.FirstAddend.{body-rest, front_rest}
use Rattle.removal_arena.proofs.RecordBytes.{length-header}
use Rattle.removal_arena.proofs.Runs.{At, Head}
use Rattle.byte_records.proofs.Sets.{sets_last}
use Rattle.std.proofs.Common.{Some, None, nat_eq}
use Rattle.std.specs.Bool.{then_some}
use Rattle.std.specs.Cmp.Lexicographic.{same_text, other_text}
use lib.Pointwise.{pointwise}
use Rattle.removal.specs.Inside.Removing.{run_left, addend_left, placed, AddendRemoved, remainder_at}
use Rattle.removal.proofs.CountLimit.{run-limit}
use Rattle.removal.proofs.OnBytes.Placing.{unless, placed-none, placed-some, found, lost}
use Rattle.removal.proofs.OnBytes.Steps.{part_out}
use Rattle.removal.proofs.OnBytes.RemovalLoop.{State}
use Rattle.removal.proofs.OnBytes.OneAddend.{counts, headed, same_left, other-left, inside-left, left-short}

module _ {level : Level} (limit : ℕ) {x : List ℕ} (y : List ℕ) (h : Head level x) where
  pub addend-lost : (out out' : List ℕ) (at : ℕ) → addend_left (At level) limit x y ≡ none → AddendRemoved (At level) limit x y out at out' None
  unfolding remainder_at
  addend-lost out out' at z = record { room = omega arith; left = sym (ap (placed out at) z ∙ placed-none out at) }

  -- bytes that are left and stored
  stored_some : {out out' : List ℕ} {at n : ℕ} (z : List ℕ) → addend_left (At level) limit x y ≡ some z → out' ≡ sets out at z → n ≡ length z →
      length z ≤ length (front x) → AddendRemoved (At level) limit x y out at out' (Some n)
  unfolding remainder_at
  stored_some {out} {at = at} z a b c d = rw (b, c) (record { room = d; left = rw a (placed-some out at z) })

  -- equal counts: nothing is left of equal bytes
  pub addend-gone : (out : List ℕ) (at : ℕ) {r : Bool} {u v : List ℕ} → Head level y → type_count x 0 ≡ type_count y 0 → u ≡ body x → v ≡ body y →
      r ≡ pointwise nat_eq u v → AddendRemoved (At level) limit x y out at out (then_some r 0)
  addend-gone out at {r} {u} {v} g i p q t = go r t
    where
      go : (w : Bool) → w ≡ pointwise nat_eq u v → AddendRemoved (At level) limit x y out at out (then_some w 0)
      go true s = stored_some [] (same_left limit y h i (sym p ∙ same_text u v s ∙ q)) refl refl (omega arith)
      go false s = addend-lost out out at (other-left limit y h g i (λ z. absurd (other_text u v s (p ∙ z ∙ sym q))))

  -- the header before the bytes that are left inside
  under-header : {out out₁ out₂ : List ℕ} {at n kind key : ℕ} (left : ℕ) (b : List ℕ) → addend_left (At level) limit x y ≡ headed (type_kind x 0) (type_key x 0) left (some b) →
      length b ≤ length (body x) → out₁ ≡ sets out (at + type_size) b → n ≡ length b → kind ≡ type_kind x 0 → key ≡ type_key x 0 →
      out₂ ≡ sets out₁ at (header_of kind key ((type_size + n) / type_size) (counts left)) → AddendRemoved (At level) limit x y out at out₂ (Some (type_size + n))
  unfolding headed
  under-header {out} {at = at} {n = n} left b s short stored len a k c =
      let span : (type_size + n) / type_size ≡ 1 + length b / type_size = omega arith in
      let H : List ℕ = header_of (type_kind x 0) (type_key x 0) (1 + length b / type_size) (counts left) in
      let sixteen : length H ≡ type_size = length-header (record { kind = type_kind x 0; key = type_key x 0; keys = [] }) (1 + length b / type_size) (counts left) in
      let d : at + type_size ≡ at + length H = ap (λ o. at + o) (sym sixteen) in
      stored_some (H ++ b) s (c ∙ rw (stored, a, k, span, d) (sets_last H b out at)) (omega (arith, length-append H b, sixteen))
      (omega (arith, length-append H b, sixteen, body-rest h.first, front_rest h.first))

  -- what is known where a count is left: how many, the limit and the level inside, and the runs inside
  pub record LeftInside (left m : ℕ) (inner : Level) (u v : List ℕ) : Type 0 where
    pub more : type_count y 0 < type_count x 0
    pub is-left : left ≡ type_count x 0 - type_count y 0
    pub low : left ≤ limit
    pub is-inner : inner ≡ inside_of level (type_kind x 0)
    pub is-limit : m ≡ cond inner.field left max_total
    pub whole-body : u ≡ body x
    pub part_body : v ≡ body y

  module _ {left m : ℕ} {inner : Level} {u v : List ℕ} (i : LeftInside left m inner u v) where
    by-inside : addend_left (At level) limit x y ≡ headed (type_kind x 0) (type_key x 0) left (run_left (At inner) m u v)
    by-inside =
        rw (i.whole-body, i.part_body, i.is-inner)
        (inside-left limit y h left m i.more i.is-left i.low (i.is-limit ∙ ap (λ o. cond o.field left max_total) i.is-inner))

    pub inside-fits : (out out₁ : List ℕ) (at n : ℕ) → remainder_at (Some n) out₁ at ≡ placed out at (run_left (At inner) m u v) → n ≤ length (body x)
    unfolding remainder_at
    inside-fits out out₁ at n w =
        let f = found out out₁ at (at + n) (run_left (At level) m (body x) (body y)) (rw (i.whole-body, i.part_body, i.is-inner) at w) in
        omega (arith, f.ends, left-short m (body y) h.first.in_body f.is)

    pub addend-kept : (out out₁ out₂ : List ℕ) (at n kind key : ℕ) → remainder_at (Some n) out₁ (at + type_size) ≡ placed out (at + type_size) (run_left (At inner) m u v) →
        kind ≡ type_kind x 0 → key ≡ type_key x 0 → out₂ ≡ sets out₁ at (header_of kind key ((type_size + n) / type_size) (counts left)) →
        AddendRemoved (At level) limit x y out at out₂ (Some (type_size + n))
    unfolding remainder_at
    addend-kept out out₁ out₂ at n kind key w a b c =
        let f = found out out₁ (at + type_size) (at + type_size + n) (run_left (At inner) m u v) w in
        under-header left f.bytes (by-inside ∙ ap (headed (type_kind x 0) (type_key x 0) left) f.is)
        (omega (arith, f.ends, inside-fits out out₁ (at + type_size) n w)) f.stored (omega (arith, f.ends)) a b c

    pub addend-not-part : (out out₁ : List ℕ) (at : ℕ) → remainder_at None out₁ (at + type_size) ≡ placed out (at + type_size) (run_left (At inner) m u v) →
        AddendRemoved (At level) limit x y out at out₁ None
    unfolding remainder_at headed
    addend-not-part out out₁ at w =
        addend-lost out out₁ at (by-inside ∙ ap (headed (type_kind x 0) (type_key x 0) left) (lost out (at + type_size) (run_left (At inner) m u v) w))

-- a run, once the part has run out
module _ {level : Level} {limit : ℕ} {a b out₀ t out : List ℕ} {k₀ k : ℕ} (s : State level limit a b out₀ k₀ t [] out k) where
  tail-left : {f : Bool} → fields_of by_kind limit (type_of (At level) t) ≡ f → placed out k (unless (not f) (some t)) ≡ placed out₀ k₀ (run_left (At level) limit a b)
  tail-left z = ap (placed out k) (sym (rw z at (part_out limit t s.whole))) ∙ s.left

  pub run-passes : not (fields_of by_kind limit (type_of (At level) t)) ≡ true → remainder_at None out k₀ ≡ placed out₀ k₀ (run_left (At level) limit a b)
  unfolding remainder_at unless
  run-passes z = sym (placed-none out k) ∙ tail-left (not-true _ z)

  pub run-stored : (out' : List ℕ) → fields_of by_kind limit (type_of (At level) t) ≡ true → out' ≡ sets out k t →
      remainder_at (Some (k + length t - k₀)) out' k₀ ≡ placed out₀ k₀ (run_left (At level) limit a b)
  unfolding remainder_at unless
  run-stored out' z e =
      let p = placed-some out k t ∙ tail-left z in
      let f = found out₀ (sets out k t) k₀ (k + length t) (run_left (At level) limit a b) p in
      let n : k₀ + (k + length t - k₀) ≡ k + length t = omega (arith, f.ends) in
      rw (e, n) p

  pub tail-limit : level.field ≡ false → fields_of by_kind limit (type_of (At level) t) ≡ true
  tail-limit f = rw (s.whole.limited f) (run-limit (At level) t (rw f at s.whole.run.coded) s.whole.run.limit)
