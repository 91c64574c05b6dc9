-- The values of a run, counted one after the other.
use mathlib.Core.Path.{◌≡◌, refl, sym, ◌∙◌, ap}
use mathlib.Core.Bool.{Bool, true, false, cond}
use mathlib.Core.List.{List}
use Prim.Native.Nat.{ℕ, ◌+◌, ◌*◌, ◌/◌, ◌≤◌, ◌<◌}
use native.Mathlib.Omega.{arith}
use lib.Dec.{leb}
use lib.ListN.{length, drop}
use borrow.Author.Tests.{leb-true}
use Rattle.value_table.specs.Value.{record_size, max_length, last_scalar, kind_at, span_at, Values, size, count, encode, ValidAt}
use Rattle.inference.specs.Inside.Inferring.{TableRun, step_at}
use Rattle.inference.proofs.InPlace.Runs.{FirstValue, first_of, none_left}

-- a scalar has span 1
pub step_is : {as_fields : Bool} {depth i : ℕ} {t : List ℕ} {vs : Values} → FirstValue as_fields depth t i vs → step_at t i ≡ span_at t i
unfolding size
step_is {i = i} {t = t} f = go (leb (kind_at t i) last_scalar) refl
  where
    go : (o : Bool) → leb (kind_at t i) last_scalar ≡ o → cond o 1 (span_at t i) ≡ span_at t i
    go true e = sym (f.span-is ∙ ap (λ c. 1 + size c) (f.proper.scalar (omega (arith, leb-true (kind_at t i) last_scalar e, f.kind-is))))
    go false e = refl

-- n values of vs stand before record i, and `left` from there on
pub record Passed (t : List ℕ) (vs : Values) (i n : ℕ) : Type 0 where
  pub as_fields : Bool
  pub depth : ℕ
  pub left : Values
  pub bytes : drop (record_size * i) t ≡ encode left
  pub valid : ValidAt as_fields depth left
  pub counted : n + count left ≡ count vs

module _ {t : List ℕ} {vs : Values} where
  pub none_passed : {field : Bool} → TableRun field t vs → Passed t vs 0 0
  none_passed r = record { as_fields = r.as_fields; depth = r.depth; left = vs; bytes = r.bytes; valid = r.valid; counted = omega arith }

  module _ {i n : ℕ} (short : length t ≤ max_length) (x : Passed t vs i n) where
    passed_first : i < length t / record_size → FirstValue x.as_fields x.depth t i x.left
    passed_first h = first_of x.as_fields x.depth t i short x.left (omega arith) x.bytes x.valid

    -- one step further, and no further than the end
    pub passed-step : i < length t / record_size → (1 ≤ step_at t i) × (record_size * (i + step_at t i) ≤ length t)
    passed-step h = let f = passed_first h in (omega (arith, step_is f, f.span-is), omega (arith, step_is f, f.within))

    pub passed-next : i < length t / record_size → Passed t vs (i + step_at t i) (n + 1)
    unfolding count
    passed-next h =
        let f = passed_first h in
        rw (step_is f) (record {
          as_fields = x.as_fields;
          depth = x.depth;
          left = f.next;
          bytes = f.in-next;
          valid = f.next-valid;
          counted = omega (arith, x.counted, ap count f.is-value);
        })

    pub all-passed : length t ≤ record_size * i → n ≡ count vs
    unfolding count
    all-passed h = omega (arith, x.counted, ap count (none_left t i x.left h x.bytes))
