-- `compare` meets its contract.
use mathlib.Core.Path.{sym, ◌∙◌}
use Prim.Native.Nat.{◌-◌}
use native.Mathlib.Omega.{arith}
use lib.ListN.{get_or-eq_default}
use Rattle.std.proofs.Common.{inl, inr}
use Rattle.key_book.proofs.Matching.{key-longer, key-ordered}
use Rattle.key_book.proofs.book.compare.Goals as goal
use Rattle.key_book.proofs.book.compare.Goals.{else-is_eq-via-then-is_eq+then-n-lt-SIZE+else-key-n-ne0, else-is_eq-via-then-is_eq+else-n-lt-SIZE, else-is_eq-via-else-is_eq}

pub returns-then-key-n-ne0 : goal.returns-then-key-n-ne0
returns-then-key-n-ne0 c =
    key-longer _ _ _ _ _ c.requires _ _ c.record-key.ensures.0 c.cmp-order.ensures (sym c.is_eq.ensures ∙ c.if-is_eq.true) c.if-key-n-ne0.true

pub returns-else-is_eq : goal.returns-else-is_eq
returns-else-is_eq c =
    key-ordered _ _ _ _ _ c.requires _ _ c.record-key.ensures.0 c.cmp-order.ensures
    (elim c.else-is_eq.branch [
      | else-is_eq-via-then-is_eq+then-n-lt-SIZE+else-key-n-ne0 w ↦ inr w.if-key-n-ne0.false
      | else-is_eq-via-then-is_eq+else-n-lt-SIZE w ↦ inr (get_or-eq_default c.record-key.result.now 0 {n = c.args.to - c.args.from} (omega (arith, c.record-key.ensures.1, w.if-n-lt-SIZE.false)))
      | else-is_eq-via-else-is_eq w ↦ inl (sym c.is_eq.ensures ∙ w.if-is_eq.false)
    ])
