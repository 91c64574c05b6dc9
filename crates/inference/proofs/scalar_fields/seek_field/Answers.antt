-- `seek_field` meets its contract.
use Rattle.std.proofs.Common.{◌+◌, ◌≤◌, true, false, List, ℕ, arith}
use Rattle.counting_theory.specs.Label.{field_kind, CountingType}
use Rattle.counting_theory.specs.declared.equivalence.Equivalence.{Equivalence}
use Rattle.counting_theory.specs.Encoding.{type_span}
use Rattle.inference.specs.Inside.Inferring.{ArenaHolds, Starts}
use Rattle.inference.specs.Inside.ScalarFields.{plain, BelowAt}
use Rattle.inference.proofs.InPlace.Seeking.{Stop, stop}
use Rattle.inference.proofs.InPlace.Scalars.{Begun, begun-start, begun-behind, table_at, reach-at, field-kind, plain-equal}
use Rattle.inference.proofs.scalar_fields.seek_field.Goals as goal
use Rattle.inference.proofs.scalar_fields.seek_field.Goals.{After-last_alike-before, In-loop-at}

-- the field at the loop's head
module _ (c : goal.In-loop-at) where
  abbrev StopIn : Equivalence → CountingType → Type 0
  StopIn e f = Stop e c.args.b.now c.args.n (plain e field_kind c.args.key) f false c.loop-at.at

  module _ (e : Equivalence) (rest : ℕ) (f : CountingType) (q free : List ℕ) (h : ArenaHolds e true c.args.b.now c.args.n rest f q free) (s : Starts c.args.from f) where
    begun : Begun e c.args.b.now c.args.n (plain e field_kind c.args.key) f c.loop-at.at
    begun = (c.loop-at.invariant e rest f q free h s).0

    all : StopIn e f
    all = stop h.short begun.seen c.loop-at-test.true

  one : let g = c.requires in StopIn g.equivalence g.f
  one = let g = c.requires in all g.equivalence g.rest g.f g.q g.free g.holds g.starts

pub field_start-at-requires : goal.field_start-at-requires
field_start-at-requires c u = let g = c.requires in table_at g.holds g.starts u

pub loop-at-init : goal.loop-at-init
loop-at-init c e rest f q free h s =
    let x = begun-start e h c.args.key s in
    rw c.field_start-at.ensures (x, x.starts)

pub key_at-other-requires : goal.key_at-other-requires
key_at-other-requires c = (one (goal.at.key_at-other-requires c).In-loop-at).here.whole

pub returns-then-key-other : goal.returns-then-key-other
returns-then-key-other c e rest f q free h s =
    let o = (goal.at.returns-then-key-other c).In-loop-at in
    (all o e rest f q free h s).equal
    (plain-equal e _ _ field_kind _ (field-kind h (begun o e rest f q free h s).starts c.loop-at-test.true) (omega (arith, c.if-key-other.true, c.key_at-other.ensures)) (λ z. omega arith))

pub returns-then-key-other-2 : goal.returns-then-key-other-2
returns-then-key-other-2 c e rest f q free h s = (c.loop-at.invariant e rest f q free h s).1

pub last_alike-before-requires : goal.last_alike-before-requires
last_alike-before-requires c =
    let g = c.requires in
    let s = (begun (goal.at.last_alike-before-requires c).In-loop-at g.equivalence g.rest g.f g.q g.free g.holds g.starts).starts in (
      record { equivalence = g.equivalence; rest = g.rest; f = g.f; q = g.q; free = g.free; holds = g.holds; starts = s },
      c.loop-at-test.true,
      omega (arith, c.if-key-other.false, c.if-key-other-2.false, c.key_at-other.ensures),
    )

-- the last field passed
module _ (c : goal.After-last_alike-before) where
  last : (e : Equivalence) (rest : ℕ) (f : CountingType) (q free : List ℕ) → ArenaHolds e true c.args.b.now c.args.n rest f q free → Starts c.args.from f → BelowAt c.args.b.now c.args.n c.args.key f c.last_alike-before.result
  last e rest f q free h s = c.last_alike-before.ensures.1 e rest f q free h (c.loop-at.invariant e rest f q free h s).0.starts

  last_one : BelowAt c.args.b.now c.args.n c.args.key c.requires.f c.last_alike-before.result
  last_one = let g = c.requires in last g.equivalence g.rest g.f g.q g.free g.holds g.starts

  reach : (1 ≤ type_span c.args.b.now c.last_alike-before.result) × (c.last_alike-before.result + type_span c.args.b.now c.last_alike-before.result ≤ c.args.n)
  reach = reach-at c.requires.holds last_one.starts last_one.within

pub span_at-requires : goal.span_at-requires
span_at-requires c = let x = last_one c in (table_at c.requires.holds x.starts x.within).whole

pub overflow_add-at : goal.overflow_add-at
overflow_add-at c = omega (arith, reach (goal.at.overflow_add-at c).After-last_alike-before, c.span_at.ensures.0)

pub loop-at-smaller : goal.loop-at-smaller
loop-at-smaller c = omega (arith, c.last_alike-before.ensures.0, reach (goal.at.loop-at-smaller c).After-last_alike-before, c.span_at.ensures.0)

pub loop-at-preserved : goal.loop-at-preserved
loop-at-preserved c e rest f q free h s =
    let x = last (goal.at.loop-at-preserved c).After-last_alike-before e rest f q free h s in
    rw c.span_at.ensures.0 (begun-behind e h _ x, x.starts)

pub returns : goal.returns
returns c e rest f q free h s = (c.loop-at.invariant e rest f q free h s).1
