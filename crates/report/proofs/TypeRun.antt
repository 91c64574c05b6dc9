-- The records of a well-formed type are a run, with shares against the total of the whole union.
use mathlib.Core.Path.{◌≡◌, refl}
use mathlib.Core.Bool.{Bool, true, false, cond}
use mathlib.Core.List.{List}
use Prim.Native.Nat.{ℕ, ◌≤◌}
use native.Mathlib.Omega.{arith}
use lib.Dec.{eqb}
use lib.ListN.{length}
use borrow.Author.Tests.{leb-true, eqb-true}
use Rattle.value_table.specs.Value.{record_kind, max_length}
use Rattle.byte_records.proofs.Tests.{and_parts}
use Rattle.counting_theory.proofs.WellFormed.Limit.{limit-totals}
use Rattle.counting_theory.specs.Payload.{Payload}
use Rattle.counting_theory.specs.Trie.{nil, node, total, largest_below, largest_total}
use Rattle.counting_theory.specs.Label.{Label, Counting, CountingType}
use Rattle.counting_theory.specs.declared.equivalence.Equivalence.{Equivalence}
use Rattle.counting_theory.specs.declared.equivalence.Equivalence.TheVariants.{Kind as by_kind, Label as by_label}
use Rattle.counting_theory.specs.Encoding.{type_records, type_of, Tagged}
use Rattle.counting_theory.specs.WellFormed.{max_total, counted, field_count, fields_of, field_counts, IsType}
use Rattle.counting_theory.proofs.Tagged.Parts.{Shape, tagged-parts}
use Rattle.counting_theory.proofs.Encoding.Header.{length-encode}
use Rattle.counting_theory.proofs.WellFormed.Nodes.{counted-parts, field_counts-parts}
use Rattle.counting_theory.proofs.WellFormed.Fitting.{weight-addend}
use Rattle.counting_theory.specs.Inside.RecordsHold.{RecordsHold}
use Rattle.counting_theory.proofs.WellFormed.AcceptsExactly.{type-holds}
use Rattle.type_arena.specs.Inside.Addend.{Coded, Union}
use Rattle.type_arena.proofs.FirstAddend.{type-coded}
use Rattle.report.specs.Decimal.{digit_count}
use Rattle.report.specs.Report.{lines_of, report}
use Rattle.report.specs.Inside.Walk.{type_in, largest_from, Shares, PrintedRun}
use Rattle.report.proofs.Runs.{typed, fields-inside}
use Rattle.report.proofs.Largest.{largest-held, largest-below}

-- the counts of a union total at most `whole`; those of fields are at most it
abbrev Against : Equivalence → Bool → ℕ → CountingType → Type 0
Against e false whole f = total Counting f ≤ whole
Against e true whole f = fields_of e whole f ≡ true

field_below : (e : Equivalence) (count whole : ℕ) → field_count e count whole ≡ true → count ≤ whole
field_below by_kind count whole h = leb-true count whole h
field_below by_label count whole h = omega (arith, eqb-true count whole h)

against-parts : (e : Equivalence) (field : Bool) (whole : ℕ) (l : Label) (a : Payload) (c s : CountingType) → Shape e field l c → Against e field whole (node l a c s) →
    (a.count ≤ whole) × Against e field whole s
unfolding total fields_of
against-parts e false whole l a c s h i = let w = weight-addend l a h.kind-high in (omega arith, omega arith)
against-parts e true whole l a c s h i = let p = and_parts (field_count e a.count whole) (fields_of e whole s) i in (field_below e a.count whole p.0, p.1)

shares : (e : Equivalence) (field : Bool) (whole : ℕ) (f : CountingType) → Tagged e field f → counted f ≡ true → field_counts e f ≡ true →
    largest_below Counting f ≤ max_total → whole ≤ max_total → Against e field whole f → Shares whole f
unfolding largest_below
shares e field whole nil t m n g h i = tt
shares e field whole (node l a c s) t m n g h i =
    let p = tagged-parts e field l a c s t in
    let y = counted-parts l a c s m in
    let z = field_counts-parts e l a c s n in
    let j = against-parts e field whole l a c s p.0 i in
    let inner = go (eqb l.kind record_kind) z.0 (rw (fields-inside e field l c p.0) at p.1) (omega (arith, j.0)) (omega arith)
    (λ inside w u. shares e inside w c u y.1 z.1 (omega arith)) in
    (y.0, j.0, inner.0, inner.1, shares e field whole s p.2 y.2 z.2 (omega arith) h j.1)
  where
    go : (inside : Bool) → (inside ≡ true → fields_of e a.count c ≡ true) → Tagged e inside c → a.count ≤ max_total → total Counting c ≤ max_total →
        ((field : Bool) (w : ℕ) → Tagged e field c → w ≤ max_total → Against e field w c → Shares w c) →
        (cond inside a.count (total Counting c) ≤ max_total) × Shares (cond inside a.count (total Counting c)) c
    go true d u v w k = (v, k true a.count u v (d refl))
    go false d u v w k = (w, k false (total Counting c) u w (omega arith))

module _ {e : Equivalence} {b : List ℕ} (t : IsType e b (type_of e b)) where
  abbrev f : CountingType
  f = type_of e b

  held : RecordsHold e b 0 (type_records b) false 1 f
  held = type-holds e b f t

  whole-type : f ≡ type_in e b 0 (type_records b)
  whole-type = typed held

  pub whole-shares : Shares (total Counting f) f
  unfolding largest_total
  whole-shares = shares e false (total Counting f) f t.tagged t.counts t.fields (omega (arith, limit-totals f t.limit)) (omega (arith, limit-totals f t.limit)) (omega arith)

  whole-limit : total Counting f ≤ max_total
  unfolding largest_total
  whole-limit = omega (arith, limit-totals f t.limit)

  pub whole-short : length b ≤ max_length
  whole-short = rw t.bytes (omega (arith, length-encode f, t.room))

  pub whole_run : PrintedRun e b 0 (type_records b) 1 (total Counting f)
  whole_run =
      record {
        field = false;
        holds = rw (← whole-type) held;
        shares = rw (← whole-type) whole-shares;
        limit = whole-limit;
        deep = omega arith;
        within = omega arith;
        short = whole-short;
      }

  pub whole-union : Union b
  whole-union = record { equivalence = e; coded = type-coded t; limit = whole-limit }

  pub whole-total : {n : ℕ} → ((d : Equivalence) → Coded d false b → n ≡ total Counting (type_of d b)) → n ≡ total Counting (type_of e b)
  whole-total h = h e (type-coded t)

  pub whole-largest : largest_from b (type_records b) 0 ≤ max_total
  whole-largest = rw (largest-held held) (largest-below (total Counting f) f whole-shares whole-limit)

  pub whole-lines : (width whole : ℕ) → width ≡ digit_count (largest_from b (type_records b) 0) → whole ≡ total Counting (type_of e b) →
      lines_of width 1 whole (type_in e b 0 (type_records b)) ≡ report (type_of e b)
  unfolding report
  whole-lines width whole h i = rw (h, i, largest-held held, ← whole-type) refl
