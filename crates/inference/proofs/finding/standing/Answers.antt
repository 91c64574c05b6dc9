-- `standing` meets its contract. The loop's invariant: a sibling, or the end, is where it has come to.
use Rattle.std.proofs.Common.{◌<◌, Bool, true, List, ℕ, arith}
use Rattle.counting_theory.specs.Label.{CountingType}
use Rattle.inference.specs.Inside.Inferring.{label_of_wanted, ArenaHolds, Starts}
use Rattle.inference.proofs.InPlace.Placing.{holds-length}
use Rattle.inference.proofs.InPlace.Seeking.{Stop, stop, seen-there, starts-again, starts-next}
use Rattle.inference.proofs.finding.standing.Goals as goal
use Rattle.inference.proofs.finding.standing.Goals.{After-search_start-p}

-- the sibling that is looked at
module _ (c : goal.After-search_start-p) where
  abbrev p : ℕ
  p = c.search_start-p.result

  abbrev StopIn : CountingType → Type 0
  StopIn f = Stop c.args.wanted.now.equivalence c.args.b.now c.args.n (label_of_wanted c.args.wanted.now) f true p

  module _ (field : Bool) (rest : ℕ) (f : CountingType) (q free : List ℕ) (h : ArenaHolds c.args.wanted.now.equivalence field c.args.b.now c.args.n rest f q free) (s : Starts c.args.from f) where
    starts : Starts p f × (p < c.args.n)
    starts = starts-again h (c.loop-passed.invariant field rest f q free h s) (omega (arith, c.loop-passed-test.true)) c.search_start-p.ensures

    all : StopIn f
    all = stop h.short (seen-there h (label_of_wanted c.args.wanted.now) starts.0 starts.1) starts.1

  one : StopIn c.requires.held.f
  one = let g = c.requires.held in all g.field _ g.f g.q g.free g.holds g.starts

pub is_at-requires : goal.is_at-requires
is_at-requires c = (one c).here

pub returns-then-is_at : goal.returns-then-is_at
returns-then-is_at c field rest f q free h s u = (all (goal.at.returns-then-is_at c).After-search_start-p field rest f q free h s).equal (c.is_at.ensures c.if-is_at.true)

pub span_at-span-requires : goal.span_at-span-requires
span_at-span-requires c = (one (goal.at.span_at-span-requires c).After-search_start-p).here.whole

pub overflow_add-at : goal.overflow_add-at
overflow_add-at c = omega (arith, (one (goal.at.overflow_add-at c).After-search_start-p).upto)

pub overflow_add-passed : goal.overflow_add-passed
overflow_add-passed c =
    let g = c.requires.held.holds in
    omega (arith, (one (goal.at.overflow_add-passed c).After-search_start-p).upto, holds-length g, g.short)

pub loop-passed-smaller : goal.loop-passed-smaller
loop-passed-smaller c = omega (arith, (one (goal.at.loop-passed-smaller c).After-search_start-p).some)

pub loop-passed-preserved : goal.loop-passed-preserved
loop-passed-preserved c field rest f q free h s =
    let x = starts (goal.at.loop-passed-preserved c).After-search_start-p field rest f q free h s in
    rw c.span_at-span.ensures.0 (starts-next h _ x.0 x.1)
