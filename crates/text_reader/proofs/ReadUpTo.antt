-- The turns of the loop over a text: the start, a bracket that shuts a value, a scalar, and a value that opens.
use mathlib.Core.Path.{◌≡◌, refl, sym, ◌∙◌, ap, subst}
use mathlib.Core.Bool.{Bool, true, false, cond, true≢false}
use mathlib.Core.List.{List, []}
use Prim.Native.Nat.{ℕ, ◌+◌, ◌*◌, ◌-◌, ◌≤◌, ◌<◌}
use native.Mathlib.Omega.{arith}
use lib.Dec.{eqb}
use borrow.Author.Tests.{eqb-true, eq-eqb, ne_eqb}
use lib.ListN.{length, get_or, set}
use lib.Seq.{sets, get_or-set_same, get_or-set_other}
use Rattle.byte_records.specs.Number.{bytes_of}
use Rattle.value_table.specs.Value.{record_size, max_depth, Head, Values, none, value, size, count, encode}
use Rattle.value_table.specs.Inside.RecordBytes.{span_offset}
use Rattle.json_theory.specs.Grammar.{Container, array, object, closer, head_of, kind_of, is_space}
use Rattle.json_theory.specs.Steps.{Stack, base, level, add, State, gap, after, first, shut, step_after, step}
use Rattle.json_theory.specs.Book.{book_records, key_number}
use Rattle.text_reader.specs.Inside.Marks.{MarksHold}
use Rattle.text_reader.specs.Inside.Laid.{laid, TableHolds}
use Rattle.json_theory.specs.Reader.{depth, written, items_in, limit_fault}
use Rattle.json_theory.specs.Inside.Scanning.{byte_at, RunTo}
use Rattle.json_theory.proofs.Scanning.{byte_inside}
use Rattle.json_theory.proofs.Sound.{count-join}
use Rattle.json_items.proofs.Leads.{space-leads, loose-after, loose-first, reads_on}
use Rattle.text_reader.specs.declared.Level.{Level}
use Rattle.text_reader.specs.Inside.Progress.{reads_from, is_object, LevelIs, no_level, LevelsHold, Between, at_start, opened, behind, in_object, ItemAt, own_record, shuts}
use Rattle.text_reader.specs.Inside.Items.{ReadUpTo, ScalarItem, OpenItem, EndsFine, AllRead}
use Rattle.text_reader.proofs.Laid.{shut-stored}
use Rattle.text_reader.proofs.Marks.{written-add}
use Rattle.text_reader.proofs.MarksHold.{marks-shut}

-- the levels, when a value is added to the innermost one, and when one more is open
levels-add : (levels : List Level) (v : Values) (around : Stack) → LevelsHold levels around → LevelsHold levels (add v around)
levels-add levels v (base ms) h = tt
levels-add levels v (level o key done outer) h = h

depth-add : (v : Values) (around : Stack) → depth (add v around) ≡ depth around
unfolding depth
depth-add v (base ms) = refl
depth-add v (level o key done outer) = refl

own-add : (v : Values) (around : Stack) → own_record (add v around) ≡ own_record around
own-add v (base ms) = refl
own-add v (level o key done outer) = refl

object-add : (v : Values) (around : Stack) → in_object (add v around) ≡ in_object around
object-add v (base ms) = refl
object-add v (level o key done outer) = refl

items-add : (head : Head) (key : ℕ) (content : Values) (around : Stack) → items_in (add (value head key content none) around) ≡ items_in around + 1
unfolding count
items-add head key content (base ms) = count-join ms (value head key content none)
items-add head key content (level o k done outer) = count-join done (value head key content none)

-- the same level with one item more
abbrev pub one-more : Level → Level
one-more lv = record { «record» = lv.«record»; object = lv.object; depth = lv.depth; items = lv.items + 1 }

level-add : (head : Head) (key : ℕ) (content : Values) (around : Stack) (lv : Level) → LevelIs around lv → LevelIs (add (value head key content none) around) (one-more lv)
level-add head key content around lv i =
    let v = value head key content none in
    record {
      depth_is = depth-add v around ∙ i.depth_is;
      record_is = own-add v around ∙ i.record_is;
      object-is = object-add v around ∙ i.object-is;
      items-are = items-add head key content around ∙ ap (λ n. n + 1) i.items-are;
    }

levels-kept : (levels : List Level) (d : ℕ) (new : Level) (around : Stack) → depth around ≤ d → LevelsHold levels around → LevelsHold (set levels d new) around
unfolding depth
levels-kept levels d new (base ms) l h = tt
levels-kept levels d new (level o key done outer) l h =
    (subst (LevelIs outer) (sym (get_or-set_other levels d (depth outer) new no_level (λ e. omega arith))) h.0, levels-kept levels d new outer (omega arith) h.1)

levels-open : (levels : List Level) (o : Container) (key : ℕ) (around : Stack) (lv : Level) → LevelIs around lv → lv.depth < length levels → LevelsHold levels around →
    LevelsHold (set levels lv.depth lv) (level o key none around)
levels-open levels o key around lv i l h =
    let e : get_or (set levels lv.depth lv) (depth around) no_level ≡ lv = ap (λ (x : ℕ). get_or (set levels lv.depth lv) x no_level) i.depth_is ∙ get_or-set_same levels lv.depth lv no_level l in
    (subst (LevelIs around) (sym e) i, levels-kept levels lv.depth lv around (omega (arith, i.depth_is)) h)

-- behind a value the innermost level is not fresh
later : (n : ℕ) {around : Stack} → Between (eqb (n + 1) 0) (after around) around
later n = rw (ne_eqb (n + 1) 0 (λ e. omega arith)) behind

closer-some : {c : ℕ} (o : Container) → c ≡ closer o → 1 ≤ c
closer-some array e = omega arith
closer-some object e = omega arith

-- a closing bracket, behind a value and right behind the opening one
module _ (text book : List ℕ) (room p q : ℕ) (run : RunTo is_space text p q) where
  after-shut : (o : Container) (key : ℕ) (done : Values) (outer : Stack) → byte_at text q ≡ closer o → q < length text →
      reads_from text book room (after (level o key done outer)) p ≡ reads_from text book room (after (add (value (head_of (kind_of o)) key done none) outer)) (q + 1)
  unfolding step limit_fault step_after shut
  after-shut array key done outer c l =
      space-leads _ (loose-after array key done outer) run.running (key_number book) room
      ∙ reads_on text q (key_number book) room (after (level array key done outer)) l _ (rw c refl) (rw c refl)
  after-shut object key done outer c l =
      space-leads _ (loose-after object key done outer) run.running (key_number book) room
      ∙ reads_on text q (key_number book) room (after (level object key done outer)) l _ (rw c refl) (rw c refl)

  open-shut : (o : Container) (key : ℕ) (outer : Stack) → byte_at text q ≡ closer o → q < length text →
      reads_from text book room (first o key outer) p ≡ reads_from text book room (after (add (value (head_of (kind_of o)) key none none) outer)) (q + 1)
  unfolding step limit_fault shut
  open-shut array key outer c l =
      space-leads _ (loose-first array key outer) run.running (key_number book) room
      ∙ reads_on text q (key_number book) room (first array key outer) l _ (rw c refl) (rw c refl)
  open-shut object key outer c l =
      space-leads _ (loose-first object key outer) run.running (key_number book) room
      ∙ reads_on text q (key_number book) room (first object key outer) l _ (rw c refl) (rw c refl)

shuts-test : (d : ℕ) (t : Bool) → cond (eqb d 0) false t ≡ true → t ≡ true
shuts-test d t h = go (eqb d 0) h
  where
    go : (b : Bool) → cond b false t ≡ true → t ≡ true
    go true e = absurd (true≢false (sym e))
    go false e = e

no-depth : (d : ℕ) (t : Bool) → 0 ≡ d → cond (eqb d 0) false t ≡ false
no-depth d t e = rw (eq-eqb d 0 (sym e)) refl

-- nothing is read yet
pub upto-start : (text book table seen : List ℕ) (room : ℕ) (levels : List Level) → MarksHold (book_records book) seen (base none) [] →
    ReadUpTo text book table seen room levels 0 0 no_level
unfolding depth written laid size count encode
upto-start text book table seen room levels m =
    record {
      state = gap none;
      around = base none;
      between = at_start;
      reads = refl;
      place = omega arith;
      inner = record { depth_is = refl; record_is = refl; object-is = refl; items-are = refl };
      shallow = omega arith;
      counted = refl;
      outer = tt;
      holds = record { rest = table; bytes = refl };
      marks = m;
    }

module _ {text book table seen : List ℕ} {room : ℕ} {levels : List Level} {p n : ℕ} {lv : Level} (u : ReadUpTo text book table seen room levels p n lv) where
  -- the text ends
  pub all_read : EndsFine text u.state p u.around → AllRead text book table room n
  unfolding written
  all_read e =
      record {
        messages = e.messages;
        reads = sym u.reads ∙ e.reads (key_number book) room;
        counted = sym (ap written e.is_base) ∙ u.counted;
        holds = rw e.is_base at u.holds;
      }

  -- an item that is a scalar
  pub upto-scalar : {table' seen' : List ℕ} {q to : ℕ} (i : ItemAt text u.state p u.around q) →
      ScalarItem text book table' seen' room i.state q u.around to → to ≤ length text →
      ReadUpTo text book table' seen' room levels to (n + 1) (one-more lv)
  unfolding size
  upto-scalar i s l =
      let v = value s.read.head s.key none none in
      record {
        state = after (add v u.around);
        around = add v u.around;
        between = later lv.items;
        reads = sym s.read.reads ∙ sym (i.leads (key_number book) room) ∙ u.reads;
        place = l;
        inner = level-add s.read.head s.key none u.around lv u.inner;
        shallow = u.shallow;
        counted = omega (arith, written-add v u.around, u.counted);
        outer = levels-add levels v u.around u.outer;
        holds = s.read.holds;
        marks = s.marks;
      }

  -- an item that opens
  pub upto-open : {table' seen' : List ℕ} {q to : ℕ} {is_obj : Bool} (i : ItemAt text u.state p u.around q) →
      OpenItem text book table' seen' room i.state q u.around to is_obj → to ≤ length text → length levels ≡ max_depth →
      ReadUpTo text book table' seen' room (set levels lv.depth lv) to (n + 1) (record { «record» = n; object = is_obj; depth = lv.depth + 1; items = 0 })
  unfolding size count depth written
  upto-open i s l r =
      let o = s.read.container in
      let deep = u.inner.depth_is in
      record {
        state = first o s.key u.around;
        around = level o s.key none u.around;
        between = opened;
        reads = sym s.read.reads ∙ sym (i.leads (key_number book) room) ∙ u.reads;
        place = l;
        inner = record { depth_is = omega (arith, deep); record_is = u.counted; object-is = sym s.read.is-object; items-are = refl };
        shallow = omega (arith, deep, s.read.shallow);
        counted = omega (arith, u.counted);
        outer = levels-open levels o s.key u.around lv u.inner (omega (arith, s.read.shallow, deep)) u.outer;
        holds = s.read.holds;
        marks = s.marks;
      }

-- a bracket shuts the innermost value
module _ (text book table table' seen : List ℕ) (room : ℕ) (levels : List Level) (p q n : ℕ) (lv : Level) (run : RunTo is_space text p q)
    (shallow : lv.depth ≤ max_depth) (stored : table' ≡ sets table (record_size * lv.«record» + span_offset) (bytes_of 4 (n - lv.«record»))) where
  -- the reading behind the bracket
  abbrev Shut : Type 0
  Shut = ReadUpTo text book table' seen room levels (q + 1) n (one-more (get_or levels (lv.depth - 1) no_level))

  finish-shut : (o : Container) (key : ℕ) (done : Values) (outer : Stack) → byte_at text q ≡ closer o → let around = level o key done outer in
      reads_from text book room (after (add (value (head_of (kind_of o)) key done none) outer)) (q + 1) ≡ reads_from text book room (gap none) 0 →
      LevelIs around lv → written around ≡ n → LevelsHold levels around → TableHolds table around → MarksHold (book_records book) seen around [] → Shut
  unfolding depth written size
  finish-shut o key done outer c r is counted hold holds marks =
      let v = value (head_of (kind_of o)) key done none in
      let deep = is.depth_is in
      let mine = is.record_is in
      let span : n - lv.«record» ≡ 1 + size done = omega arith in
      let last : depth outer ≡ lv.depth - 1 = omega arith in
      let inner : LevelIs outer (get_or levels (lv.depth - 1) no_level) = subst (λ (x : ℕ). LevelIs outer (get_or levels x no_level)) last hold.0 in
      record {
        state = after (add v outer);
        around = add v outer;
        between = later (get_or levels (lv.depth - 1) no_level).items;
        reads = r;
        place = omega (arith, byte_inside text q (closer-some o c));
        inner = level-add (head_of (kind_of o)) key done outer _ inner;
        shallow = omega (arith, inner.depth_is);
        counted = omega (arith, written-add v outer);
        outer = levels-add levels v outer hold.1;
        holds = shut-stored o key done outer holds (stored ∙ rw (span, ← mine) refl);
        marks = marks-shut (head_of (kind_of o)) o key done outer marks;
      }

  -- the byte is the closing bracket of the innermost level
  its-closer : (o : Container) (c : ℕ) → shuts lv.depth (is_object o) c ≡ true → c ≡ closer o
  its-closer array c h = eqb-true c 0x5D (shuts-test lv.depth (eqb c 0x5D) h)
  its-closer object c h = eqb-true c 0x7D (shuts-test lv.depth (eqb c 0x7D) h)

  shut_at : (f : Bool) (σ : State) (around : Stack) → Between f σ around → reads_from text book room σ p ≡ reads_from text book room (gap none) 0 → LevelIs around lv →
      written around ≡ n → LevelsHold levels around → TableHolds table around → MarksHold (book_records book) seen around [] →
      shuts lv.depth (in_object around) (byte_at text q) ≡ true → Shut
  unfolding depth
  shut_at f σ around at_start r is counted hold holds marks h = absurd (true≢false (sym h ∙ no-depth lv.depth _ is.depth_is))
  shut_at f σ (level o key none outer) opened r is counted hold holds marks h =
      let c = its-closer o (byte_at text q) h in
      finish-shut o key none outer c (sym (open-shut text book room p q run o key outer c (byte_inside text q (closer-some o c))) ∙ r) is counted hold holds marks
  shut_at f σ (base ms) behind r is counted hold holds marks h = absurd (true≢false (sym h ∙ no-depth lv.depth _ is.depth_is))
  shut_at f σ (level o key done outer) behind r is counted hold holds marks h =
      let c = its-closer o (byte_at text q) h in
      finish-shut o key done outer c (sym (after-shut text book room p q run o key done outer c (byte_inside text q (closer-some o c))) ∙ r) is counted hold holds marks

  pub upto-shut : (u : ReadUpTo text book table seen room levels p n lv) → shuts lv.depth (in_object u.around) (byte_at text q) ≡ true → Shut
  upto-shut u h = shut_at (eqb lv.items 0) u.state u.around u.between u.reads u.inner u.counted u.outer u.holds u.marks h
