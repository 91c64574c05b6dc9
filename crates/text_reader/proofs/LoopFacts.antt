-- What the loop over a text looks up about its innermost level.
use mathlib.Core.Path.{◌≡◌, refl, sym, ◌∙◌, ap}
use mathlib.Core.Bool.{Bool, true, false, cond, true≢false}
use mathlib.Core.List.{List, []}
use Prim.Native.Nat.{ℕ, ◌+◌, ◌*◌, ◌-◌, ◌≤◌}
use native.Mathlib.Omega.{arith}
use lib.Dec.{eqb}
use lib.ListN.{length, get_or, length-append}
use borrow.Author.Tests.{eq-eqb, ne_eqb}
use Rattle.value_table.specs.Value.{record_size, max_length, max_depth, Values, none, value, size, count}
use Rattle.json_theory.specs.Grammar.{array, object}
use Rattle.json_theory.specs.Steps.{Stack, base, level}
use Rattle.json_theory.specs.Reader.{depth, written, items_in}
use Rattle.text_reader.specs.Inside.Laid.{laid, TableHolds}
use Rattle.text_reader.specs.Inside.Progress.{no_level, LevelIs, LevelsHold, StaysOpen, in_object, own_record, shuts}
use Rattle.text_reader.specs.Inside.Marks.{MarksHold}
use Rattle.text_reader.specs.Inside.Items.{LevelFits}
use Rattle.text_reader.specs.declared.Level.{Level}
use Rattle.text_reader.proofs.Laid.{laid-length}

pub own-low : (around : Stack) → own_record around ≤ written around
unfolding written
own-low (base ms) = omega arith
own-low (level o key done outer) = omega arith

count_low : (vs : Values) → count vs ≤ size vs
unfolding count size
count_low none = omega arith
count_low (value head key content next) = omega (arith, count_low next)

pub items-low : (around : Stack) → items_in around ≤ written around
unfolding written
items-low (base ms) = count_low ms
items-low (level o key done outer) = omega (arith, count_low done)

pub holds-room : (table : List ℕ) (around : Stack) → TableHolds table around → record_size * written around ≤ length table
holds-room table around h = omega (arith, laid-length around, ap length h.bytes, length-append (laid around) h.rest)

-- a test of the level is one of the open values
pub level-shuts : {around : Stack} {lv : Level} {b : Bool} (d c : ℕ) → LevelIs around lv → depth around ≡ d → shuts lv.depth lv.object c ≡ b → shuts d (in_object around) c ≡ b
level-shuts d c l e h = rw (← e, l.depth_is, l.object-is) h

object-deep : (around : Stack) → in_object around ≡ true → 1 ≤ depth around
unfolding depth
object-deep (base ms) e = absurd (true≢false (sym e))
object-deep (level o key done outer) e = omega arith

pub level-fits : {around : Stack} {lv : Level} {table seen : List ℕ} {listed : ℕ} → LevelIs around lv → MarksHold listed seen around [] → length seen ≤ 2 * max_length →
    depth around ≤ max_depth → TableHolds table around → length table ≤ max_length → LevelFits listed seen lv
level-fits {around} {lv} {table} l m small shallow h len =
    record {
      room = m.room;
      small = small;
      shallow = omega (arith, l.depth_is);
      deep = λ e. omega (arith, l.depth_is, object-deep around (l.object-is ∙ e));
      record-low = omega (arith, l.record_is, own-low around, holds-room table around h);
    }

-- the innermost level is shut, so it has a record; or it stays open
pub own-inside : (around : Stack) (d c : ℕ) → depth around ≡ d → shuts d (in_object around) c ≡ true → own_record around + 1 ≤ written around
unfolding depth written
own-inside (base ms) d c e h = absurd (true≢false (sym h ∙ rw (eq-eqb d 0 (sym e)) refl))
own-inside (level o key done outer) d c e h = omega arith

pub stays_open : (around : Stack) (d c : ℕ) → depth around ≡ d → shuts d (in_object around) c ≡ false → StaysOpen around c
unfolding depth
stays_open (base ms) d c e h = tt
stays_open (level array key done outer) d c e h = rw (ne_eqb d 0 (λ f. omega arith)) at h
stays_open (level object key done outer) d c e h = rw (ne_eqb d 0 (λ f. omega arith)) at h

-- the items before a level that is shut are records
pub before-low : (levels : List Level) (around : Stack) (d c : ℕ) → depth around ≡ d → shuts d (in_object around) c ≡ true →
    LevelsHold levels around → (get_or levels (d - 1) no_level).items ≤ written around
unfolding depth written
before-low levels (base ms) d c e h l = absurd (true≢false (sym h ∙ rw (eq-eqb d 0 (sym e)) refl))
before-low levels (level o key done outer) d c e h l =
    let z : d - 1 ≡ depth outer = omega arith in
    rw z (omega (arith, items-low outer, l.0.items-are))
