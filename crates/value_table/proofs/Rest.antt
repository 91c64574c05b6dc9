-- What is still to come inside the open values around a record, and how one record adds to it.
use mathlib.Core.Path.{◌≡◌, refl, ap}
use mathlib.Core.Logic.Iff
use mathlib.Core.Logic.{◌↔◌}
use mathlib.Core.Bool.{Bool, true, false, cond}
use mathlib.Core.List.{List, [], ◌∷◌, ◌++◌}
use Prim.Native.Nat.{ℕ, suc, ◌+◌, ◌≤◌, ◌<◌}
use native.Mathlib.Nat.{add-zero}
use native.Mathlib.Omega.{arith}
use lib.Dec.{leb}
use lib.ListN.{length}
use borrow.Author.Tests.{leb-true}
use Rattle.byte_records.specs.Number.{Bytes}
use Rattle.value_table.specs.Value.{max_length, records, key_at, Values, none, count, Distinct}
use Rattle.value_table.specs.Judged.{Open, end_of, in_record, seen, close, with_key, enter, messages_in}
use Rattle.value_table.proofs.Faultless.{FaultlessIn}
use Rattle.value_table.proofs.Run.{Run, size-zero, run_none, run_value, run-first}
use Rattle.value_table.proofs.Nested.{Nested, close-all}

abbrev RunIn : List ℕ → ℕ → List Open → Values → Type 0
RunIn b i around vs = Run b i (end_of (records b) around) (in_record around) (seen around) (suc (length around)) vs

-- From record i on each open value holds a run up to its end, the innermost first, and then the table one: behind c messages, m in all.
abbrev pub Rest : List ℕ → ℕ → List Open → ℕ → ℕ → Type 0
Rest b i [] c m = (vs : Values) × RunIn b i [] vs × (c + count vs ≡ m)
Rest b i (o ∷ os) c m = (vs : Values) × RunIn b i (o ∷ os) vs × Rest b o.end os c m

grown : (key : ℕ) (around : List Open) → in_record around ≡ true → seen (with_key key around) ≡ seen around ++ (key ∷ [])
grown key [] e = cc
grown key (o ∷ os) e = refl

module _ (b : List ℕ) (c m : ℕ) where
  pub rest-close : (i : ℕ) (around : List Open) → Nested (records b) i around → Rest b i (close i around) c m ↔ Rest b i around c m
  unfolding close
  rest-close i [] h = Iff.rfl
  rest-close i (o ∷ os) h = go (leb o.end i) refl (rest-close i os)
    where
      go : (t : Bool) → leb o.end i ≡ t → (Nested (records b) i os → Rest b i (close i os) c m ↔ Rest b i os c m) →
          Rest b i (cond t (close i os) (o ∷ os)) c m ↔ Rest b i (o ∷ os) c m
      go true t ih =
          let e : o.end ≡ i = omega (arith, leb-true o.end i t) in
          let inner = ih (rw e at h.2) in
          (λ r. (none, run_none b i o.end _ _ _ (omega arith) h.1, rw e (inner.0 r)), λ r. inner.1 (rw e at r.2))
      go false t ih = Iff.rfl

  pub rest-done : (around : List Open) → Nested (records b) (records b) around → (c ≡ m) ↔ Rest b (records b) around c m
  unfolding count Distinct
  rest-done around h =
      let table : (c ≡ m) ↔ Rest b (records b) [] c m = (
        λ e. (none, run_none b (records b) (records b) _ _ _ refl (λ t. (tt, omega arith)), omega arith),
        λ r. omega (arith, r.2, ap count (size-zero r.0 (omega (arith, r.1.ends)))),
      ) in
      Iff.trans table (rw (close-all (records b) around h) at (rest-close (records b) around h))

  pub rest-enter : (i : ℕ) (around : List Open) → Bytes b → i < records b → FaultlessIn b i around →
      Rest b (i + 1) (enter b i around) (c + messages_in around) m → Rest b i around c m
  unfolding enter count
  rest-enter i [] bytes some f r =
      let run = run_value b i _ _ _ [] _ (grown (key_at b i) []) _ _ bytes (omega arith) f r.1 r.2.1 in
      (_, run, omega (arith, r.2.2))
  rest-enter i (o ∷ os) bytes some f r =
      let run = run_value b i _ _ _ _ _ (grown (key_at b i) (o ∷ os)) _ _ bytes (omega arith) f r.1 r.2.1 in
      (_, run, rw add-zero at r.2.2)

  pub rest-first : (i : ℕ) (around : List Open) → length b ≤ max_length → Nested (records b) (i + 1) around → Rest b i around c m →
      FaultlessIn b i around × Rest b (i + 1) (enter b i around) (c + messages_in around) m
  unfolding enter count
  rest-first i [] short h r =
      let f = run-first b i _ _ _ [] _ (grown (key_at b i) []) r.0 short (omega arith) r.1 in
      (f.faultless, (f.content, f.in-content, (f.next, f.in-next, omega (arith, r.2, ap count f.is-value))))
  rest-first i (o ∷ os) short h r =
      let f = run-first b i _ _ _ _ _ (grown (key_at b i) (o ∷ os)) r.0 short (omega arith) r.1 in
      (f.faultless, (f.content, f.in-content, (f.next, f.in-next, rw add-zero r.2)))
