-- Buffers that inference takes.
use mathlib.Core.Path.{◌≡◌}
use mathlib.Core.Bool.{false, not, ◌||◌}
use Prim.Native.Nat.{ℕ, ◌≤◌}
use native.Mathlib.Omega.{arith}
use lib.Dec.{eqb}
use borrow.Author.Tests.{eqb-true, not-false}
use Rattle.byte_records.proofs.Tests.{or_parts}
use Rattle.value_table.specs.Value.{max_length}
use Rattle.value_table.specs.Judged.{bad_length}
use Rattle.counting_theory.specs.WellFormed.{bad_type_length}
use Rattle.counting_theory.specs.Answers.{bad_buffers}
use Rattle.counting_theory.proofs.WellFormed.AcceptsExactly.{type-length}

pub allowed-buffers : (table arena work : ℕ) → bad_buffers table arena work ≡ false → (arena ≤ max_length) × (arena ≤ work)
allowed-buffers table arena work h =
    let p = or_parts (bad_length table || bad_type_length arena) (not (eqb work arena)) h in
    ((type-length arena (or_parts (bad_length table) (bad_type_length arena) p.0).1).1, omega (arith, eqb-true work arena (not-false _ p.1)))
