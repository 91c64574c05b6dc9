-- Reading by the spans gives back the run that the records hold.
use mathlib.Core.Path.{◌≡◌, refl, sym, ap}
use mathlib.Core.Bool.{Bool}
use mathlib.Core.List.{List, [], ◌∷◌, ◌++◌}
use Prim.Native.Nat.{ℕ, zero, suc, ◌+◌, ◌≤◌, ◌<◌}
use native.Mathlib.Omega.{arith}
use lib.ListN.{length}
use borrow.Author.Tests.{lt-ltb, le-ltb}
use Rattle.value_table.specs.Value.{max_length, key_at, span_at, Values, none, value, size}
use Rattle.value_table.specs.Judged.{decode}
use Rattle.value_table.proofs.Run.{Run, run-first}

pub decode-run : (b : List ℕ) → length b ≤ max_length → (k i end : ℕ) (field : Bool) (before : List ℕ) (depth : ℕ) (vs : Values) →
    size vs ≤ k → Run b i end field before depth vs → decode b k i end ≡ vs
unfolding decode size
decode-run b short zero i end field before depth none h r = refl
decode-run b short zero i end field before depth (value head key c s) h r = absurd (omega arith)
decode-run b short (suc k) i end field before depth none h r = rw (le-ltb i end (omega (arith, r.ends)), decode) refl
decode-run b short (suc k) i end field before depth (value head key c s) h r =
    let some : i < end = omega (arith, r.ends) in
    let after : List ℕ = before ++ (key_at b i ∷ []) in
    let f = run-first b i end field before after depth (λ e. refl) (value head key c s) short some r in
    rw (
      lt-ltb i end some,
      decode,
      decode-run b short k (i + 1) (i + span_at b i) _ _ _ f.content (omega (arith, ap size f.is-value)) f.in-content,
      decode-run b short k (i + span_at b i) end _ _ _ f.next (omega (arith, ap size f.is-value)) f.in-next,
    )
    (sym f.is-value)
