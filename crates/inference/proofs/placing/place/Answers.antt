-- `place` meets its contract.
use mathlib.Core.List.{List}
use mathlib.Core.Bool.{Bool}
use mathlib.Core.Path.{sym, ◌∙◌}
use Prim.Native.Nat.{ℕ, ◌+◌, ◌*◌, ◌≤◌}
use native.Mathlib.Omega.{arith}
use lib.ListN.{length, length-take, length-drop}
use Rattle.inference.specs.Inside.Inferring.{label_of_wanted, ArenaHolds, Starts, StandsAt, split}
use Rattle.counting_theory.specs.Encoding.{type_size}
use Rattle.counting_theory.specs.Label.{Label, CountingType}
use Rattle.inference.proofs.InPlace.Placing.{holds-length, here-within, here-counted, missing-within, missing-full, missing-counted}
use Rattle.inference.proofs.InPlace.Splits.{MissingAt, here-at, missing_at}
use Rattle.inference.proofs.placing.place.Goals as goal
use Rattle.inference.proofs.placing.place.Goals.{In-Ok, In-Err}

-- where the label stands, and its room
module _ (c : goal.In-Ok) where
  abbrev found-label : Label
  found-label = label_of_wanted c.args.wanted.now

  abbrev found-place : ℕ
  found-place = c.in-Ok.p

  stands : (field : Bool) (f : CountingType) (q free : List ℕ) → ArenaHolds c.args.wanted.now.equivalence field c.args.a.now c.args.n c.args.rest f q free → Starts c.args.from f → StandsAt found-label f found-place
  stands field f q free h s = sym c.in-Ok.is ∙ c.find.ensures field _ f q free h s

  found-room : type_size * found-place + type_size ≤ length c.args.a.now
  found-room =
      let g = c.requires in
      omega (arith, here-within g.holds found-label _ _ (here-at found-label 0 found-place g.f (stands g.field g.f g.q g.free g.holds g.starts)), holds-length g.holds)

-- where it would stand
module _ (c : goal.In-Err) where
  abbrev missed-label : Label
  missed-label = label_of_wanted c.args.wanted.now

  abbrev missed-place : ℕ
  missed-place = c.in-Err.p

  missed : (field : Bool) (f : CountingType) (q free : List ℕ) → ArenaHolds c.args.wanted.now.equivalence field c.args.a.now c.args.n c.args.rest f q free → Starts c.args.from f → MissingAt (split missed-label f) 0 f missed-place
  missed field f q free h s =
      missing_at missed-label 0 missed-place f (sym c.in-Err.is ∙ c.find.ensures field _ f q free h s)

  missed-room : (type_size * missed-place ≤ type_size * (c.args.n + c.args.rest)) × (type_size * (c.args.n + c.args.rest) ≤ length c.args.a.now)
  missed-room =
      let g = c.requires in
      omega (arith, missing-within g.holds missed-label _ _ (missed g.field g.f g.q g.free g.holds g.starts), holds-length g.holds)

pub join_payload-requires : goal.join_payload-requires
join_payload-requires c = found-room (goal.at.join_payload-requires c).In-Ok

pub overflow_add-used : goal.overflow_add-used
overflow_add-used c = omega (arith, missed-room c)

pub overflow_mul-used : goal.overflow_mul-used
overflow_mul-used c = omega (arith, missed-room c)

pub overflow_sub-a : goal.overflow_sub-a
overflow_sub-a c = omega (arith, missed-room c)

pub returns-then-a-used-lt-SIZE : goal.returns-then-a-used-lt-SIZE
returns-then-a-used-lt-SIZE c field f q free h s =
    missing-full h (missed-label (goal.at.returns-then-a-used-lt-SIZE c).In-Err) _ _ (missed (goal.at.returns-then-a-used-lt-SIZE c).In-Err field f q free h s) _ c.if-a-used-lt-SIZE.true (missed-room (goal.at.returns-then-a-used-lt-SIZE c).In-Err).1

pub overflow_mul-o : goal.overflow_mul-o
overflow_mul-o c = omega (arith, missed-room (goal.at.overflow_mul-o c).In-Err)

pub slice_bounds-insert_record-count : goal.slice_bounds-insert_record-count
slice_bounds-insert_record-count c = omega (arith, missed-room (goal.at.slice_bounds-insert_record-count c).In-Err)

pub slice_bounds-insert_record-start : goal.slice_bounds-insert_record-start
slice_bounds-insert_record-start c = omega (arith, missed-room (goal.at.slice_bounds-insert_record-start c).In-Err)

pub overflow_sub-used : goal.overflow_sub-used
overflow_sub-used c = omega (arith, missed-room (goal.at.overflow_sub-used c).In-Err)

pub insert_record-requires : goal.insert_record-requires
insert_record-requires c = simp (length-take, length-drop) (omega (arith, missed-room (goal.at.insert_record-requires c).In-Err, c.if-a-used-lt-SIZE.false))

pub returns-in-Ok : goal.returns-in-Ok
returns-in-Ok c field f q free h s =
    here-counted h (found-label (goal.at.returns-in-Ok c).In-Ok) _ (found-place (goal.at.returns-in-Ok c).In-Ok) (here-at (found-label (goal.at.returns-in-Ok c).In-Ok) 0 (found-place (goal.at.returns-in-Ok c).In-Ok) f (stands (goal.at.returns-in-Ok c).In-Ok field f q free h s)) _ _ c.join_payload.ensures

pub returns-else-a-used-lt-SIZE : goal.returns-else-a-used-lt-SIZE
returns-else-a-used-lt-SIZE c field f q free h s =
    missing-counted h (missed-label (goal.at.returns-else-a-used-lt-SIZE c).In-Err) _ _ (missed (goal.at.returns-else-a-used-lt-SIZE c).In-Err field f q free h s) _ _ c.insert_record.ensures
