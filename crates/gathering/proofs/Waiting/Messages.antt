-- The message at a record of a table, and another one of the same bytes.
use mathlib.Core.Path.{◌≡◌, refl, sym}
use mathlib.Core.Bool.{false}
use mathlib.Core.List.{List}
use Prim.Native.Nat.{ℕ, ◌≤◌}
use native.Mathlib.Omega.{arith}
use lib.ListN.{length}
use Rattle.value_table.specs.Value.{max_length, Values, none, value, size, count, ValidAt}
use Rattle.value_table.specs.Acceptance.{Table}
use Rattle.value_table.proofs.Acceptance.{unique}
use Rattle.gathering.specs.Inside.Gathering.{bytes_of_message, message_at, SameMessage, MessageAt}
use Rattle.inference.proofs.InPlace.Runs.{FirstValue}
use Rattle.inference.proofs.InPlace.TableRun.{table-run}

module _ {t : List ℕ} {i : ℕ} {left : Values} (short : length t ≤ max_length) (x : FirstValue false 1 t i left) where
  abbrev first : Values
  first = value x.head x.key x.content none

  first-table : Table (bytes_of_message t i) first 1
  unfolding ValidAt size count
  first-table = record { bytes = x.alone; valid = (x.proper, x.content-valid, tt); room = omega (arith, x.span-is, x.within); counted = refl }

  pub message-is : message_at t i ≡ first
  message-is = sym (unique (bytes_of_message t i) first 1 first-table)

  pub message-at : MessageAt t i
  message-at = record { some = omega (arith, x.span-is); within = x.within; run = rw message-is (table-run first-table) }

pub same-message-at : {t : List ℕ} {j i : ℕ} → SameMessage t j i → j ≤ i → MessageAt t i → MessageAt t j
same-message-at {t} {j} {i} s h m =
    record { some = omega (arith, s.0, m.some); within = omega (arith, s.0, m.within); run = rw s.1 m.run }
