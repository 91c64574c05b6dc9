-- `pass_alike` meets its contract. The loop's invariant: a sibling, or the end, is where it has come to, and the label is still ahead.
use Rattle.std.proofs.Common.{◌≡◌, ◌+◌, ◌<◌, Bool, true, false, List, ℕ, refl, ap, sym, ◌∙◌, arith}
use Rattle.counting_theory.specs.Label.{CountingType}
use Rattle.counting_theory.specs.Encoding.{type_span}
use Rattle.type_arena.specs.Inside.LabelOrder.{ordering_of}
use Rattle.inference.specs.declared.wanted.Wanted.{Wanted}
use Rattle.inference.specs.Inside.Inferring.{label_of_wanted, ArenaHolds, Starts, Ahead, Shown}
use Rattle.inference.proofs.InPlace.Seeking.{Stop, stop, seen-there, starts-next, ahead-seen, seen-ahead}
use Rattle.inference.proofs.search.pass_alike.Goals as goal
use Rattle.inference.proofs.search.pass_alike.Goals.{In-Greater, In-loop-at}

abbrev Stops : Wanted → List ℕ → ℕ → CountingType → Bool → ℕ → Type 0
Stops w b n f resumed at = Stop w.equivalence b n (label_of_wanted w) f resumed at

-- a sibling of those that are shown
shown : (w : Wanted) {b : List ℕ} {n p at : ℕ} (x : Shown w.equivalence b n p) → Starts at x.held.f → at < n → Stops w b n x.held.f true at
shown w x t u = let h = x.held.holds in stop h.short (seen-there h (label_of_wanted w) t u) u

-- the sibling that is looked at
module _ (c : goal.In-loop-at) where
  module _ (field : Bool) (rest : ℕ) (f : CountingType) (q free : List ℕ) (h : ArenaHolds c.args.wanted.now.equivalence field c.args.b.now c.args.n rest f q free) where
    all : Ahead (label_of_wanted c.args.wanted.now) f (c.args.p + type_span c.args.b.now c.args.p) → Stops c.args.wanted.now c.args.b.now c.args.n f false c.loop-at.at
    all s = stop h.short (ahead-seen h (label_of_wanted c.args.wanted.now) ((c.loop-at.invariant.1 field rest f q free h).1 s)) c.loop-at-test.true

    next : Starts c.args.p f → Starts (c.loop-at.at + type_span c.args.b.now c.loop-at.at) f
    next s = starts-next h c.loop-at.at ((c.loop-at.invariant.1 field rest f q free h).0 s) c.loop-at-test.true

  one : Stops c.args.wanted.now c.args.b.now c.args.n c.requires.0.held.f true c.loop-at.at
  one =
      let g = c.requires.0.held in
      shown c.args.wanted.now c.requires.0 ((c.loop-at.invariant.1 g.field _ g.f g.q g.free g.holds).0 g.starts) c.loop-at-test.true

pub span_at-span-requires : goal.span_at-span-requires
span_at-span-requires c = (shown c.args.wanted.now c.requires.0 c.requires.0.held.starts c.requires.1).here.whole

pub overflow_add-at : goal.overflow_add-at
overflow_add-at c = omega (arith, (shown c.args.wanted.now c.requires.0 c.requires.0.held.starts c.requires.1).upto)

pub loop-at-init : goal.loop-at-init
loop-at-init c =
    rw c.span_at-span.ensures.0 (omega arith, λ field rest f q free h. (λ t. starts-next h c.args.p t c.requires.1, λ t. t))

pub span_at-requires : goal.span_at-requires
span_at-requires c = (one c).here.whole

pub returns-then-span_at-span : goal.returns-then-span_at-span
returns-then-span_at-span c field rest f q free h s = let i = c.loop-at.invariant in (i.0, (i.1 field rest f q free h).1 s)

pub compare-requires : goal.compare-requires
compare-requires c = (one (goal.at.compare-requires c).In-loop-at).here

pub returns-in-Less : goal.returns-in-Less
returns-in-Less c field rest f q free h s =
    (all (goal.at.returns-in-Less c).In-loop-at field rest f q free h s).less (sym c.compare.ensures ∙ ap ordering_of c.in-Less.is) refl

pub returns-in-Equal : goal.returns-in-Equal
returns-in-Equal c field rest f q free h s =
    (all (goal.at.returns-in-Equal c).In-loop-at field rest f q free h s).equal (sym c.compare.ensures ∙ ap ordering_of c.in-Equal.is)

-- the label comes after it, and it has the span of the first
alike : (c : goal.In-Greater) → c.span_at-span.result ≡ type_span c.args.b.now c.loop-at.at
alike c = omega (arith, c.if-span_at-span.false, c.span_at.ensures.0)

pub overflow_add-at-in-Greater : goal.overflow_add-at-in-Greater
overflow_add-at-in-Greater c = omega (arith, alike c, (one (goal.at.overflow_add-at-in-Greater c).In-loop-at).upto)

pub loop-at-smaller : goal.loop-at-smaller
loop-at-smaller c =
    let o = one (goal.at.loop-at-smaller c).In-loop-at in
    omega (arith, alike (goal.at.loop-at-smaller c).In-Greater, o.upto, o.some)

pub loop-at-preserved : goal.loop-at-preserved
loop-at-preserved c =
    let o = (goal.at.loop-at-preserved c).In-loop-at in
    rw (alike (goal.at.loop-at-preserved c).In-Greater) (
      omega (arith, o.loop-at.invariant.0),
      λ field rest f q free h. (next o field rest f q free h, λ s. seen-ahead ((all o field rest f q free h s).greater (sym c.compare.ensures ∙ ap ordering_of c.in-Greater.is))),
    )

pub returns : goal.returns
returns c field rest f q free h s = let i = c.loop-at.invariant in (i.0, (i.1 field rest f q free h).1 s)
