-- The type of a table: the run of its messages, added to nothing.
use mathlib.Core.Path.{◌≡◌, refl, sym, ap}
use mathlib.Core.Bool.{false, true≢false}
use mathlib.Core.List.{List, []}
use Prim.Native.Nat.{ℕ, ◌≤◌}
use native.Mathlib.Omega.{arith}
use lib.ListN.{length}
use Rattle.value_table.specs.Value.{max_length, Values}
use Rattle.value_table.specs.Acceptance.{Table}
use Rattle.value_table.proofs.TableLayout as table
use Rattle.counting_theory.specs.Trie.{nil, size, add}
use Rattle.counting_theory.specs.Label.{Counting}
use Rattle.counting_theory.specs.declared.equivalence.Equivalence.{Equivalence}
use Rattle.counting_theory.specs.Raw.{raw, profile_of}
use Rattle.counting_theory.specs.Encoding.{encode}
use Rattle.counting_theory.specs.Inside.Times.{times}
use Rattle.inference.specs.Inside.Inferring.{TableRun, ArenaHolds, Weighed}
use Rattle.counting_theory.proofs.Times.{times-one}

pub table-run : {t : List ℕ} {ms : Values} {n : ℕ} → Table t ms n → TableRun false t ms
table-run {t} {ms} x =
    record {
      bytes = x.bytes;
      short = omega (arith, ap length x.bytes, table.length-encode ms, x.room);
      as_fields = false;
      depth = 1;
      valid = x.valid;
      fields = λ w. w;
      distinct = λ w. absurd (true≢false (sym w));
    }

pub holds-nothing : (e : Equivalence) (a : List ℕ) → length a ≤ max_length → ArenaHolds e false a 0 0 nil [] a
unfolding encode size
holds-nothing e a h = record { bytes = refl; count = refl; used = refl; short = h; siblings = record { tagged = tt; sorted = tt; numbers = tt } }

-- the run once, added to nothing
pub added-once : (e : Equivalence) (ms : Values) → add Counting (times 1 (raw e false ms)) nil ≡ profile_of e ms
unfolding profile_of
added-once e ms = ap (λ r. add Counting r nil) (times-one (raw e false ms))

pub weighed-once : {t : List ℕ} → length t ≤ max_length → Weighed 1 t
weighed-once h = record { some = omega arith; small = omega arith; bound = omega arith }
