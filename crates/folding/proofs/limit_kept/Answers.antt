-- `limit_kept` meets its contract.
use mathlib.Core.Path.{sym, ◌∙◌}
use native.Mathlib.Omega.{arith}
use lib.Seq.{length-take-le}
use Rattle.folding.proofs.OnBytes.WholeType.{front-within-arena, front-allowed, front-limit}
use Rattle.folding.proofs.limit_kept.Goals as goal
use Rattle.folding.proofs.limit_kept.Goals.{Start}

pub overflow_mul-end : goal.overflow_mul-end
overflow_mul-end c = let s = (goal.at.overflow_mul-end c).Start in omega (arith, front-within-arena s.requires.0 _ _ s.requires.1)

pub slice_bounds-well_formed-end : goal.slice_bounds-well_formed-end
slice_bounds-well_formed-end c = let s = (goal.at.slice_bounds-well_formed-end c).Start in sym (length-take-le _ _ (front-within-arena s.requires.0 _ _ s.requires.1))

pub well_formed-requires : goal.well_formed-requires
well_formed-requires c = let s = (goal.at.well_formed-requires c).Start in front-allowed s.requires.0 _ _ s.requires.1

pub returns : goal.returns
returns c = let s = (goal.at.returns c).Start in c.well_formed-2.ensures ∙ front-limit s.requires.0 _ _ s.requires.1
