-- `same_message` meets its contract.
use mathlib.Core.Path.{sym, ap, ◌∙◌}
use mathlib.Core.List.{List}
use Prim.Native.Nat.{ℕ, ◌*◌, ◌<◌}
use native.Mathlib.Omega.{arith}
use lib.ListN.{take, drop}
use borrow.Author.Tests.{leb-true, le-leb}
use Rattle.value_table.specs.Value.{record_size}
use Rattle.inference.proofs.InPlace.Repeats.{equal-fewer, same_bytes_lem, same-records}
use Rattle.gathering.proofs.same_message.Goals as goal

pub span_at-span-requires : goal.span_at-span-requires
span_at-span-requires c = omega (arith, c.requires)

pub span_at-requires : goal.span_at-requires
span_at-requires c = omega (arith, c.requires)

pub overflow_add-i : goal.overflow_add-i
overflow_add-i c =
    let s = c.requires in
    omega (arith, s, c.span_at-span.ensures.0)

pub equal_records-requires : goal.equal_records-requires
equal_records-requires c =
    let s = c.requires in
    (s.0, omega arith, omega (arith, s, c.span_at-span.ensures.0))

pub returns-then-span_at-span : goal.returns-then-span_at-span
returns-then-span_at-span c =
    let s = c.args in
    let i = c.span_at-span.ensures.0 in
    let j = sym c.span_at.ensures.0 ∙ c.if-span_at-span.true ∙ i in
    let n = c.span_at-span.result in
    let found = c.equal_records.result in
    let front : ℕ → ℕ → List ℕ = λ p k. take (record_size * k) (drop (record_size * p) s.t.now) in (
      λ e. let q = equal-fewer found n (leb-true n found e) c.equal_records.ensures.equal in
          (j, ap (front s.j) j ∙ rw i at (same_bytes_lem s.t.now s.j s.i n q)),
      λ m. let same = ap (front s.j) (i ∙ sym j) ∙ m.1 ∙ ap (front s.i) (sym i) in
          let all : found < n → ⊥ = λ l. c.equal_records.ensures.differ (omega arith) (same-records s.t.now s.j s.i n same found l) in
          le-leb n found (omega (arith, all)),
    )
