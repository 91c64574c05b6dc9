-- `find_scalar` meets its contract.
use Rattle.std.proofs.Common.{false, List, ℕ, refl, arith}
use Rattle.counting_theory.specs.Label.{CountingType}
use Rattle.counting_theory.specs.declared.equivalence.Equivalence.{Equivalence}
use Rattle.inference.specs.Inside.Inferring.{ArenaHolds}
use Rattle.inference.specs.Inside.ScalarFields.{plain}
use Rattle.inference.proofs.InPlace.Seeking.{Stop, stop, seen_end, starts-next}
use Rattle.inference.proofs.InPlace.Scalars.{begun_first, union-key, plain-equal, plain-kind-less, plain-kind-greater}
use Rattle.inference.proofs.scalar_fields.find_scalar.Goals as goal
use Rattle.inference.proofs.scalar_fields.find_scalar.Goals.{In-loop-at}

-- the sibling at the loop's head
module _ (c : goal.In-loop-at) where
  abbrev StopIn : Equivalence → CountingType → Type 0
  StopIn e f = Stop e c.args.b.now c.args.n (plain e c.args.kind 0) f false c.loop-at.at

  all : (e : Equivalence) (rest : ℕ) (f : CountingType) (q free : List ℕ) → ArenaHolds e false c.args.b.now c.args.n rest f q free → StopIn e f
  all e rest f q free h = stop h.short (c.loop-at.invariant e rest f q free h).seen c.loop-at-test.true

  one : let g = c.requires.0 in StopIn g.equivalence g.f
  one = let g = c.requires.0 in all g.equivalence g.rest g.f g.q g.free g.holds

pub loop-at-init : goal.loop-at-init
loop-at-init c e rest f q free h = begun_first h _

pub kind_at-other-requires : goal.kind_at-other-requires
kind_at-other-requires c = (one (goal.at.kind_at-other-requires c).In-loop-at).here.whole

pub returns-then-kind-other-2 : goal.returns-then-kind-other-2
returns-then-kind-other-2 c e rest f q free h =
    (all (goal.at.returns-then-kind-other-2 c).In-loop-at e rest f q free h).less (plain-kind-less e _ _ _ 0 (omega (arith, c.if-kind-other-2.true, c.kind_at-other.ensures))) refl

pub returns-then-kind-other : goal.returns-then-kind-other
returns-then-kind-other c e rest f q free h =
    let key = union-key h (c.loop-at.invariant e rest f q free h).starts c.loop-at-test.true in
    (all (goal.at.returns-then-kind-other c).In-loop-at e rest f q free h).equal
    (plain-equal e _ _ _ 0 (omega (arith, c.if-kind-other.true, c.kind_at-other.ensures)) key (λ z. omega (arith, c.requires.1)))

pub span_at-at-requires : goal.span_at-at-requires
span_at-at-requires c = (one (goal.at.span_at-at-requires c).In-loop-at).here.whole

pub overflow_add-at : goal.overflow_add-at
overflow_add-at c = omega (arith, (one (goal.at.overflow_add-at c).In-loop-at).upto, c.span_at-at.ensures.0)

pub loop-at-smaller : goal.loop-at-smaller
loop-at-smaller c =
    let x = one (goal.at.loop-at-smaller c).In-loop-at in
    omega (arith, x.upto, x.some, c.span_at-at.ensures.0)

pub loop-at-preserved : goal.loop-at-preserved
loop-at-preserved c e rest f q free h =
    rw c.span_at-at.ensures.0
    (record {
      seen = (all (goal.at.loop-at-preserved c).In-loop-at e rest f q free h).greater (plain-kind-greater e _ _ _ 0 (omega (arith, c.if-kind-other.false, c.if-kind-other-2.false, c.kind_at-other.ensures)));
      starts = starts-next h _ (c.loop-at.invariant e rest f q free h).starts c.loop-at-test.true;
    })

pub returns : goal.returns
returns c e rest f q free h = seen_end h.short (c.loop-at.invariant e rest f q free h).seen c.loop-at-test.false
