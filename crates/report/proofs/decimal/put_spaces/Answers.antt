-- `put_spaces` meets its contract.
use mathlib.Core.Path.{sym, ap}
use Prim.Native.Nat.{ℕ, ◌+◌}
use lib.ListN.{length-replicate}
use Rattle.report.proofs.Storing.{filled-part}
use Rattle.report.proofs.decimal.put_spaces.Goals as goal

pub returns : goal.returns
returns c =
    let a = c.args in
    record { bytes = filled-part _ _ a.at a.count 32 c.requires (c.fill.ensures.after (λ y e. e)); behind = ap (λ (k : ℕ). a.at + k) (sym (length-replicate a.count 32)) }
