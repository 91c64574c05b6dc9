-- `search` meets its contract.
use Rattle.std.proofs.Common.{◌≡◌, ◌+◌, Bool, List, ℕ, ap, sym, ◌∙◌, arith}
use Prim.Native.Nat.Ordering.{gt}
use Rattle.counting_theory.specs.Label.{Label, compare_label, CountingType}
use Rattle.counting_theory.specs.Encoding.{type_span}
use Rattle.type_arena.specs.Inside.Arena.{label_at}
use Rattle.type_arena.specs.Inside.LabelOrder.{ordering_of}
use Rattle.inference.specs.Inside.Inferring.{label_of_wanted, ArenaHolds, Starts, Ahead}
use Rattle.inference.proofs.InPlace.Seeking.{Seen, Stop, seen_start, seen-resumed, stop, ahead-seen, seen-ahead, seen_end}
use Rattle.inference.proofs.search.search.Goals as goal
use Rattle.inference.proofs.search.search.Goals.{In-loop-at}

-- the sibling that the search has come to
module _ (c : goal.In-loop-at) where
  abbrev sought : Label
  sought = label_of_wanted c.args.wanted.now

  abbrev StopIn : CountingType → Type 0
  StopIn f = Stop c.args.wanted.now.equivalence c.args.b.now c.args.n sought f c.loop-at.resumed c.loop-at.at

  abbrev next : ℕ
  next = c.loop-at.at + type_span c.args.b.now c.loop-at.at

  module _ (field : Bool) (rest : ℕ) (f : CountingType) (q free : List ℕ) (h : ArenaHolds c.args.wanted.now.equivalence field c.args.b.now c.args.n rest f q free) (s : Starts c.args.from f) where
    seen : Seen c.args.wanted.now.equivalence c.args.b.now c.args.n sought f c.loop-at.resumed c.loop-at.at
    seen = c.loop-at.invariant field rest f q free h s

    all : StopIn f
    all = stop h.short seen c.loop-at-test.true

  one : StopIn c.requires.held.f
  one = let g = c.requires.held in all g.field _ g.f g.q g.free g.holds g.starts

  -- the label comes after it
  ahead : compare_label sought (label_at c.args.wanted.now.equivalence c.args.b.now c.loop-at.at) ≡ gt → (field : Bool) (rest : ℕ) (f : CountingType) (q free : List ℕ) →
      ArenaHolds c.args.wanted.now.equivalence field c.args.b.now c.args.n rest f q free → Starts c.args.from f → Ahead sought f next
  ahead z field rest f q free h s = seen-ahead ((all field rest f q free h s).greater z)

pub loop-at-init : goal.loop-at-init
loop-at-init c field rest f q free h s = rw c.search_start-at.ensures (seen-resumed h _ s)

pub compare-requires : goal.compare-requires
compare-requires c = (one c).here

pub returns-then-not-resumed : goal.returns-then-not-resumed
returns-then-not-resumed c field rest f q free h s =
    (all (goal.at.returns-then-not-resumed c).In-loop-at field rest f q free h s).less (sym c.compare.ensures ∙ ap ordering_of c.in-Less.is) c.if-not-resumed.true

pub returns-in-Equal : goal.returns-in-Equal
returns-in-Equal c field rest f q free h s =
    (all (goal.at.returns-in-Equal c).In-loop-at field rest f q free h s).equal (sym c.compare.ensures ∙ ap ordering_of c.in-Equal.is)

pub pass_alike-requires : goal.pass_alike-requires
pass_alike-requires c =
    let o = (goal.at.pass_alike-requires c).In-loop-at in
    let g = c.requires.held in (
      record {
        rest = c.requires.rest;
        held = record { field = g.field; f = g.f; q = g.q; free = g.free; holds = g.holds; starts = (seen o g.field _ g.f g.q g.free g.holds g.starts).starts };
      },
      c.loop-at-test.true,
    )

pub returns-in-Break : goal.returns-in-Break
returns-in-Break c field rest f q free h s =
    let o = (goal.at.returns-in-Break c).In-loop-at in
    rw c.in-Break.is at
    (c.pass_alike.ensures field rest f q free h (ahead o (sym c.compare.ensures ∙ ap ordering_of c.in-Greater.is) field rest f q free h s))

pub loop-at-preserved-else-not-resumed : goal.loop-at-preserved-else-not-resumed
loop-at-preserved-else-not-resumed c field rest f q free h s = seen_start h _

pub loop-at-smaller : goal.loop-at-smaller
loop-at-smaller c =
    let o = (goal.at.loop-at-smaller c).In-loop-at in
    let g = c.requires.held in
    let passed = rw c.in-Continue.is at
    (c.pass_alike.ensures g.field _ g.f g.q g.free g.holds (ahead o (sym c.compare.ensures ∙ ap ordering_of c.in-Greater.is) g.field _ g.f g.q g.free g.holds g.starts)) in
    omega (arith, passed.0, (one o).some, c.loop-at-test.true)

pub loop-at-preserved : goal.loop-at-preserved
loop-at-preserved c field rest f q free h s =
    let o = (goal.at.loop-at-preserved c).In-loop-at in
    let passed = rw c.in-Continue.is at
    (c.pass_alike.ensures field rest f q free h (ahead o (sym c.compare.ensures ∙ ap ordering_of c.in-Greater.is) field rest f q free h s)) in
    ahead-seen h _ passed.1

pub returns : goal.returns
returns c field rest f q free h s = seen_end h.short (c.loop-at.invariant field rest f q free h s) c.loop-at-test.false
