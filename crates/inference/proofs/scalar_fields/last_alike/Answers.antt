-- `last_alike` meets its contract.
use mathlib.Core.List.{List}
use mathlib.Core.Bool.{true}
use Prim.Native.Nat.{ℕ, ◌+◌, ◌≤◌, ◌<◌}
use native.Mathlib.Omega.{arith}
use Rattle.counting_theory.specs.Label.{CountingType}
use Rattle.counting_theory.specs.Encoding.{type_key, type_span}
use Rattle.type_arena.specs.Inside.Arena.{RecordIn}
use Rattle.inference.specs.Inside.Inferring.{ArenaHolds, Starts}
use Rattle.inference.specs.Inside.ScalarFields.{BelowAt}
use Rattle.inference.proofs.InPlace.Scalars.{table_at, reach-at, starts-behind, next-below}
use Rattle.inference.proofs.scalar_fields.last_alike.Goals as goal
use Rattle.inference.proofs.scalar_fields.last_alike.Goals.{In-loop-next, Start}
use Rattle.counting_theory.specs.declared.equivalence.Equivalence.{Equivalence}

-- the field behind the one at the loop's head
module _ (c : goal.In-loop-next) where
  abbrev start : goal.Start
  start = c.before.before.before.before.before

  behind : Starts c.loop-next.next start.requires.0.f
  behind =
      let g = start.requires.0 in
      let v = c.loop-next.invariant in
      starts-behind g.equivalence g.holds start.args.key (v.3 g.equivalence g.rest g.f g.q g.free g.holds g.starts) v.2

  table : RecordIn start.args.b.now c.loop-next.next
  table = table_at start.requires.0.holds behind c.loop-next-test.true

  reach : (1 ≤ type_span start.args.b.now c.loop-next.next) × (c.loop-next.next + type_span start.args.b.now c.loop-next.next ≤ start.args.n)
  reach = reach-at start.requires.0.holds behind c.loop-next-test.true

  module _ (below : type_key start.args.b.now c.loop-next.next < start.args.key) (e : Equivalence) (rest : ℕ) (f : CountingType) (q free : List ℕ)
      (h : ArenaHolds e true start.args.b.now start.args.n rest f q free) (s : Starts start.args.from f) where
    passed : BelowAt start.args.b.now start.args.n start.args.key f c.loop-next.next
    passed = let v = c.loop-next.invariant in next-below e h start.args.key (v.3 e rest f q free h s) v.2 c.loop-next-test.true below

pub span_at-like-requires : goal.span_at-like-requires
span_at-like-requires c = let x = c.requires in (table_at x.0.holds x.0.starts x.1).whole

pub overflow_add-next : goal.overflow_add-next
overflow_add-next c = let x = c.requires in omega (arith, reach-at x.0.holds x.0.starts x.1, c.span_at-like.ensures.0)

pub key_at-requires : goal.key_at-requires
key_at-requires c = (table c).whole

pub span_at-requires : goal.span_at-requires
span_at-requires c = (table (goal.at.span_at-requires c).In-loop-next).whole

pub returns-then-span_at-like : goal.returns-then-span_at-like
returns-then-span_at-like c =
    let v = c.loop-next.invariant in
    (omega (arith, v.0, v.2), passed (goal.at.returns-then-span_at-like c).In-loop-next (omega (arith, c.key_at.ensures, c.if-key-key_at.false)))

pub overflow_add-next-in-loop-next : goal.overflow_add-next-in-loop-next
overflow_add-next-in-loop-next c = omega (arith, reach (goal.at.overflow_add-next-in-loop-next c).In-loop-next, c.span_at.ensures.0, c.if-span_at-like.false)

pub loop-next-smaller : goal.loop-next-smaller
loop-next-smaller c = omega (arith, reach (goal.at.loop-next-smaller c).In-loop-next, c.span_at.ensures.0, c.if-span_at-like.false)

pub loop-next-preserved : goal.loop-next-preserved
loop-next-preserved c =
    let v = c.loop-next.invariant in (
      omega (arith, v.0, v.2),
      omega (arith, c.span_at.ensures.0, c.if-span_at-like.false),
      omega (arith, c.span_at.ensures.0, c.if-span_at-like.false),
      passed (goal.at.loop-next-preserved c).In-loop-next (omega (arith, c.key_at.ensures, c.if-key-key_at.false)),
    )
