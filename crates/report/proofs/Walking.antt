-- The loop over the records of a run: what is left of its lines.
use mathlib.Core.Path.{refl}
use mathlib.Core.List.{List}
use Prim.Native.Nat.{ℕ, ◌+◌, ◌-◌, ◌*◌, ◌≤◌, ◌<◌}
use native.Mathlib.Omega.{arith}
use Rattle.counting_theory.specs.declared.equivalence.Equivalence.{Equivalence}
use Rattle.counting_theory.specs.Encoding.{type_span}
use Rattle.report.specs.Inside.Room.{TextStored, line_limit}
use Rattle.report.specs.Report.{lines_of}
use Rattle.report.specs.Inside.Walk.{type_in, line_at, depth_in, whole_in, PrintedRun}
use Rattle.report.proofs.Storing.{Storing, storing-all, storing-past, storing-none}
use Rattle.report.proofs.Runs.{run-first, run-done}

-- Of the lines of records i to end, to be stored in s from position a on, those from record p on are left, at position q of s'.
pub record Walking (e : Equivalence) (b : List ℕ) (i end depth whole width : ℕ) (s : List ℕ) (a p : ℕ) (s' : List ℕ) (q : ℕ) : Type 0 where
  pub upto : i ≤ p
  pub run : PrintedRun e b p end depth whole
  pub storing : Storing s a (lines_of width depth whole (type_in e b i end)) s' q (lines_of width depth whole (type_in e b p end))
  pub room : q + line_limit * (end - p) ≤ a + line_limit * (end - i)

module _ {e : Equivalence} {b : List ℕ} {i end depth whole : ℕ} (width : ℕ) (s : List ℕ) (a : ℕ) where
  pub walking_start : PrintedRun e b i end depth whole → Walking e b i end depth whole width s a i s a
  walking_start r = record { upto = omega arith; run = r; storing = storing-all s a _; room = omega arith }

module _ {e : Equivalence} {b : List ℕ} {i end depth whole width : ℕ} {s : List ℕ} {a p : ℕ} {s' : List ℕ} {q : ℕ} (w : Walking e b i end depth whole width s a p s' q) where
  pub walking-next : {s₁ : List ℕ} {q₁ : ℕ} {s₂ : List ℕ} {q₂ : ℕ} → p < end →
      TextStored s' q (line_at b p depth whole width) s₁ q₁ × (q₁ ≤ q + line_limit) →
      TextStored s₁ q₁ (lines_of width (depth_in b p depth) (whole_in e b p) (type_in e b (p + 1) (p + type_span b p))) s₂ q₂ × (q₂ ≤ q₁ + line_limit * (p + type_span b p - (p + 1))) →
      Walking e b i end depth whole width s a (p + type_span b p) s₂ q₂
  walking-next h line inner =
      let f = run-first w.run h in
      record {
        upto = omega (arith, w.upto);
        run = f.next;
        storing = storing-past refl (storing-past (f.lines width) w.storing line.0) inner.0;
        room = omega (arith, w.room, line.1, inner.1, f.span-low, f.span_fits);
      }

  pub walking-done : end ≤ p → TextStored s a (lines_of width depth whole (type_in e b i end)) s' q × (q ≤ a + line_limit * (end - i))
  walking-done h = (storing-none (run-done w.run width h) w.storing, omega (arith, w.room))
