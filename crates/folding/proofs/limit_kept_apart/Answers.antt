-- `limit_kept_apart` meets its contract.
use mathlib.Core.Path.{◌≡◌, refl}
use mathlib.Core.Bool.{Bool, false}
use native.Mathlib.Omega.{arith}
use Rattle.std.proofs.Common.{Result, Ok, Err, MatchResult}
use Rattle.std.proofs.iter.Serving.{serving}
use Rattle.type_arena.specs.declared.record_store.NoRoom.{NoRoom}
use Rattle.folding.specs.declared.pass.Folded.{Folded}
use Rattle.counting_theory.specs.Trie.{nil}
use Rattle.inference.proofs.InPlace.Seeking.{starts-zero}
use Rattle.folding.proofs.OnBytes.WholeType.{empty_holds, empty-held, whole_run, whole-front, whole-full, never-full}
use Rattle.folding.proofs.limit_kept_apart.Goals as goal

pub fold_run-run-requires : goal.fold_run-run-requires
fold_run-run-requires c = (empty-held _ (omega arith), whole_run c.requires)

pub is_ok_and-requires : goal.is_ok_and-requires
is_ok_and-requires c = λ folded e _ _ _ _ _ _ _. (c.requires, whole-front c.requires _ (c.fold_run-run.ensures _ _ _ (empty_holds _ (omega arith)) (starts-zero nil)) folded e)

found : (r : Result Folded NoRoom) (b limit : Bool) (P : Folded → Type 0) → MatchResult r P (λ _. b ≡ false) → ((x : Folded) → P x → b ≡ limit) → ((e : NoRoom) → r ≡ Err e → ⊥) → b ≡ limit
found (Ok x) b limit P h k n = k x h
found (Err e) b limit P h k n = absurd (n e refl)

pub returns : goal.returns
returns c =
    found c.fold_run-run.result c.is_ok_and.result _ _ c.is_ok_and.ensures
    (λ folded k. grind (serving, k))
    (λ e z. never-full c.requires c.fold_run-run.new.a c.fold_run-run.auto.a (whole-full c.requires _ (c.fold_run-run.ensures _ _ _ (empty_holds _ (omega arith)) (starts-zero nil)) e z))
