-- `fold_checked` meets its contract.
use mathlib.Core.Path.{sym, ◌∙◌}
use Rattle.counting_theory.specs.Trie.{nil}
use Rattle.inference.proofs.InPlace.Seeking.{starts-zero}
use Rattle.folding.proofs.OnBytes.WholeType.{empty_holds, empty-held, whole_run, whole-front, whole-full, front-accepted, front-too-small}
use Rattle.folding.proofs.fold_checked.Goals as goal
use Rattle.folding.proofs.fold_checked.Goals.{Start}

pub fold_run-requires : goal.fold_run-requires
fold_run-requires c = let s = (goal.at.fold_run-requires c).Start in (empty-held _ s.requires.1, whole_run s.requires.0)

pub limit_kept-requires : goal.limit_kept-requires
limit_kept-requires c =
    (c.requires.0, whole-front c.requires.0 _ (c.fold_run.ensures _ _ _ (empty_holds _ c.requires.1) (starts-zero nil)) _ c.in-Ok.is)

pub returns-in-Ok : goal.returns-in-Ok
returns-in-Ok c =
    front-accepted c.requires.0 _ _ (whole-front c.requires.0 _ (c.fold_run.ensures _ _ _ (empty_holds _ c.requires.1) (starts-zero nil)) _ c.in-Ok.is)
    (sym c.limit_kept.ensures ∙ c.if-limit_kept.true) _ c.fold_run.auto.a

pub returns-in-Err : goal.returns-in-Err
returns-in-Err c =
    front-too-small c.requires.0 (sym c.limit_kept_apart.ensures ∙ c.if-limit_kept_apart.true) _ _ c.fold_run.auto.a
    (whole-full c.requires.0 _ (c.fold_run.ensures _ _ _ (empty_holds _ c.requires.1) (starts-zero nil)) _ c.in-Err.is)
