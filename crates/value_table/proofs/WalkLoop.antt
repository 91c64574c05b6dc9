-- The turns of the walk's loop: what is left to judge stays the same.
use mathlib.Core.Path.{◌≡◌, refl, sym, ap, ◌∙◌}
use mathlib.Core.Bool.{Bool, true, false, cond}
use mathlib.Core.List.{List, [], ◌∷◌}
use Prim.Native.Nat.{ℕ, zero, suc, ◌+◌, ◌-◌, ◌≤◌, ◌<◌}
use native.Mathlib.Numerals.{add-one}
use native.Mathlib.Omega.{arith}
use lib.Dec.{eqb, lit≤}
use lib.ListN.{length, set, replicate, length-set}
use lib.Seq.{get_or-set_same, get_or-set_other}
use borrow.Author.Tests.{le-leb, lt-leb, eqb-true, eqb-false}
use Rattle.std.specs.Prelude.{None}
use Rattle.value_table.specs.declared.Fault.{Fault}
use Rattle.value_table.specs.declared.Fault.TheVariants.{Kind, Span, Key, Large, Repeat, Fields, Depth}
use Rattle.value_table.specs.declared.faults.Level.{Level}
use Rattle.byte_records.specs.Number.{Bytes}
use Rattle.value_table.specs.Value.{max_depth, records, kind_at, key_at, span_at}
use Rattle.value_table.specs.Outcome.{Outcome, accepted, refused, number_of_fault}
use Rattle.value_table.specs.Judged.{Open, end_of, in_record, seen, fault_in, close, with_key, enter, messages_in, decide, walk}
use Rattle.value_table.specs.Inside.EarlierFields.{FaultIs, other, no_level, level_at, innermost, first_of, Parent}
use Rattle.value_table.proofs.Faultless.{FaultlessIn, faultless}
use Rattle.value_table.proofs.Header.{key_at-below}
use Rattle.value_table.proofs.Levels.{counted, LevelIs, Levels, outside, inside, levels-depth, levels-innermost, levels-outermost, levels-next, levels-enter}

-- a value that ends at record i is closed before the walk goes on
walk-close : (largest : ℕ) (b : List ℕ) (k i m : ℕ) (o : Open) (os : List Open) → o.end ≤ i → walk largest b k i (o ∷ os) m ≡ walk largest b k i os m
unfolding walk close
walk-close largest b zero i m o os l = refl
walk-close largest b (suc k) i m o os l = rw (le-leb o.end i l) refl

close_open : (n i : ℕ) (around : List Open) → i < end_of n around → close i around ≡ around
unfolding close
close_open n i [] l = refl
close_open n i (o ∷ os) l = rw (lt-leb o.end i l) refl

-- an open record decides, or the walk goes on behind it
walk-next : (largest : ℕ) (b : List ℕ) (k i m : ℕ) (around : List Open) → close i around ≡ around →
    walk largest b (suc k) i around m ≡ decide (fault_in largest b i around) i (walk largest b k (i + 1) (enter b i around) (m + messages_in around))
unfolding walk
walk-next largest b k i m around e = rw e refl

decide-refused : (f i : ℕ) (later : Outcome) → 1 ≤ f → decide f i later ≡ refused f i
decide-refused zero i later l = absurd (omega arith)
decide-refused (suc f) i later l = refl

pub fault-positive : (found : Fault) → 1 ≤ number_of_fault found
fault-positive Kind = lit≤ tt
fault-positive Span = lit≤ tt
fault-positive Key = lit≤ tt
fault-positive Large = lit≤ tt
fault-positive Repeat = lit≤ tt
fault-positive Fields = lit≤ tt
fault-positive Depth = lit≤ tt

-- the levels after one value more at `depth`
abbrev next-levels : List Level → ℕ → List Level
next-levels levels depth = set levels depth (counted (level_at levels depth))

-- the values of level 0 are the messages
counted-messages : (levels : List Level) (around : List Open) → 1 ≤ length levels → (level_at (next-levels levels (length around)) 0).count ≡ (level_at levels 0).count + messages_in around
counted-messages levels [] l = ap (λ x. x.count) (get_or-set_same levels 0 _ _ l)
counted-messages levels (o ∷ os) l = ap (λ x. x.count) (get_or-set_other levels (suc (length os)) 0 _ _ (λ e. omega arith)) ∙ omega arith

-- a bound of all counts holds after a level is stored
set_below : (levels : List Level) (p : ℕ) (x : Level) (m : ℕ) → p < length levels → x.count ≤ m → ((q : ℕ) → (level_at levels q).count ≤ m) → (q : ℕ) → (level_at (set levels p x) q).count ≤ m
set_below levels p x m l h old q = by (eqb q p) refl
  where
    by : (t : Bool) → eqb q p ≡ t → (level_at (set levels p x) q).count ≤ m
    by true e = rw (eqb-true q p e, get_or-set_same levels p x _ l) h
    by false e = rw (get_or-set_other levels p q x _ (eqb-false q p e)) (old q)

-- the innermost open value ends at record i, and is left
record Closed (largest : ℕ) (b : List ℕ) (levels : List Level) (n depth i : ℕ) (around : List Open) : Type 0 where
  outer : List Open
  kept : Levels b levels n (depth - 1) i outer
  same : (k m : ℕ) → walk largest b k i around m ≡ walk largest b k i outer m

closed : {largest : ℕ} {b : List ℕ} {levels : List Level} {n depth i : ℕ} {around : List Open} → Levels b levels n depth i around → end_of n around ≡ i → i < n →
    Closed largest b levels n depth i around
closed (outside l) e some = absurd (omega arith)
closed {largest} {b} (inside {depth = d} {i = i} {o = o} {os = os} l h) e some =
    let same : suc d - 1 ≡ d = omega arith in
    record { outer = os; kept = rw same (rw e at h); same = λ k m. walk-close largest b k i m o os (omega arith) }

-- The loop at record i: what is left to judge settles the outcome of the whole table. Level 0 counts the messages.
pub record Walking (largest : ℕ) (b : List ℕ) (levels : List Level) (depth i : ℕ) : Type 0 where
  pub around : List Open
  pub held : Levels b levels (records b) depth i around
  pub left : walk largest b (records b - i) i around (level_at levels 0).count ≡ walk largest b (records b) 0 [] 0
  pub few : (level : ℕ) → (level_at levels level).count ≤ i
  pub upto : i ≤ records b
  pub shallow : depth ≤ max_depth
  pub room : length levels ≡ suc max_depth

-- the levels before record 0, of which that of the messages ends behind the n records
abbrev pub first-levels : ℕ → List Level
first-levels n = record { end = n; first = None; count = 0 } ∷ replicate max_depth no_level

pub no-level-eq : (level : Level) → (level.end ≡ 0) × ((level.first ≡ None) × (level.count ≡ 0)) → level ≡ no_level
no-level-eq level h = ap (λ n. record { end = n; first = level.first; count = level.count }) h.0 ∙ ap (λ f. record { end = 0; first = f; count = level.count }) h.1.0 ∙ ap (λ n. record { end = 0; first = None; count = n }) h.1.1

pub walking_start : (largest : ℕ) (b : List ℕ) → Walking largest b (first-levels (records b)) 0 0
walking_start largest b =
    record {
      around = [];
      held = outside {i = 0} (record { upto = omega arith; end = refl; before = other; count = λ e. refl });
      left = ap (λ k. walk largest b k 0 [] 0) (omega arith);
      few = few_at;
      upto = omega arith;
      shallow = omega arith;
      room = refl;
    }
  where
    none_at : (m level : ℕ) → (level_at (replicate m no_level) level).count ≤ 0
    none_at zero level = omega arith
    none_at (suc m) zero = omega arith
    none_at (suc m) (suc level) = none_at m level

    few_at : (level : ℕ) → (level_at (first-levels (records b)) level).count ≤ 0
    few_at zero = omega arith
    few_at (suc level) = none_at max_depth level

module _ {largest : ℕ} {b : List ℕ} {levels : List Level} {depth i : ℕ} (w : Walking largest b levels depth i) where
  level-is : LevelIs b (records b) i w.around (level_at levels depth)
  level-is = levels-innermost w.held

  pub walking-done : records b ≤ i → accepted (level_at levels 0).count ≡ walk largest b (records b) 0 [] 0
  unfolding walk
  walking-done l =
      let z : records b - i ≡ 0 = omega arith in
      rw z at w.left

  walking-close : i < records b → (level_at levels depth).end ≡ i → Walking largest b levels (depth - 1) i
  walking-close l e =
      let c = closed w.held (sym level-is.end ∙ e) l in
      record {
        around = c.outer;
        held = c.kept;
        left = sym (c.same (records b - i) _) ∙ w.left;
        few = w.few;
        upto = w.upto;
        shallow = omega (arith, w.shallow);
        room = w.room;
      }

  -- what surrounds record i, as `fault_at` asks for it
  pub walking-parent : Parent b i (level_at levels depth).first
  walking-parent = record { is_field = in_record w.around; keys = seen w.around; before = level-is.before }

  -- x is the fault of record i, by the innermost level
  abbrev pub FaultHere : ℕ → Type 0
  FaultHere x = FaultIs largest b i (level_at levels depth) (depth + 1) x

  module _ (l : i < records b) (inner : (level_at levels depth).end ≡ i → ⊥) where
    one_more : records b - i ≡ suc (records b - (i + 1))
    one_more = omega arith

    pub walking-inside : i < (level_at levels depth).end
    walking-inside = omega (arith, level-is.upto, level-is.end)

    unclosed : close i w.around ≡ w.around
    unclosed = close_open (records b) i w.around (omega (arith, walking-inside, level-is.end))

    -- what `fault_at` finds is the fault inside the open values
    fault-in : {x : ℕ} → FaultHere x → x ≡ fault_in largest b i w.around
    unfolding fault_in
    fault-in h =
        let d : depth + 1 ≡ suc (length w.around) = omega (arith, levels-depth w.held) in
        rw (level-is.end, d) at (h _ _ level-is.before level-is.count)

    next : walk largest b (records b) 0 [] 0 ≡ decide (fault_in largest b i w.around) i (walk largest b (records b - (i + 1)) (i + 1) (enter b i w.around) ((level_at levels 0).count + messages_in w.around))
    next = sym (rw one_more at w.left) ∙ walk-next largest b _ i _ w.around unclosed

    pub walking-refused : {x : ℕ} → 1 ≤ x → FaultHere x → refused x i ≡ walk largest b (records b) 0 [] 0
    walking-refused {x} s h = sym (next ∙ rw (← (fault-in h)) (decide-refused x i _ s))

    module _ (bytes : Bytes b) (fine : FaultHere 0) where
      walking-faultless : FaultlessIn b i w.around
      unfolding fault_in
      walking-faultless = (faultless largest b i _ _ _ _ (key_at-below b i bytes (omega arith)) (sym (fault-in fine))).0

      pub walking-room : depth < max_depth
      walking-room = omega (arith, walking-faultless.shallow, levels-depth w.held)

      level-room : suc depth < length levels
      level-room = omega (arith, walking-room, w.room)

      messages-counted : (level_at levels 0).count + messages_in w.around ≡ (level_at (next-levels levels depth) 0).count
      messages-counted = sym (rw (levels-depth w.held) (counted-messages levels w.around (omega (arith, level-room))))

      entered : walk largest b (records b - (i + 1)) (i + 1) (enter b i w.around) (level_at (next-levels levels depth) 0).count ≡ walk largest b (records b) 0 [] 0
      entered = sym (next ∙ rw (← (fault-in fine), messages-counted) refl)

      few-counted : (level : ℕ) → (level_at (next-levels levels depth) level).count ≤ i + 1
      few-counted = set_below levels depth _ (i + 1) (omega (arith, level-room)) (omega (arith, w.few depth)) (λ q. omega (arith, w.few q))

      pub walking_skip : span_at b i ≤ 1 → Walking largest b (next-levels levels depth) depth (i + 1)
      unfolding enter
      walking_skip m =
          let f = walking-faultless in
          let e : span_at b i ≡ 1 = omega (arith, f.span-low) in
          record {
            around = with_key (key_at b i) w.around;
            held = rw e at (levels-next (omega (arith, level-room)) f.span-low f.span_fits w.held);
            left = sym (walk-close largest b _ (i + 1) _ _ _ (omega arith)) ∙ entered;
            few = few-counted;
            upto = omega arith;
            shallow = w.shallow;
            room = simp length-set w.room;
          }

      pub walking-enter : Walking largest b (set (next-levels levels depth) (depth + 1) (record { end = i + span_at b i; first = first_of (kind_at b i) i; count = 0 })) (depth + 1) (i + 1)
      walking-enter =
          let f = walking-faultless in
          let d = walking-room in
          let c = level-room in
          record {
            around = enter b i w.around;
            held = rw (add-one depth) (levels-enter c f.span-low f.span_fits w.held);
            left = rw (get_or-set_other (next-levels levels depth) (depth + 1) 0 _ _ (λ e. omega arith)) entered;
            few = set_below (next-levels levels depth) (depth + 1) _ (i + 1) (simp length-set (omega (arith, c))) (omega arith) few-counted;
            upto = omega arith;
            shallow = omega arith;
            room = simp length-set w.room;
          }

-- the levels that end at record i are left, and the one around them goes on
pub record Inside (largest : ℕ) (b : List ℕ) (levels : List Level) (depth i : ℕ) : Type 0 where
  pub walking : Walking largest b levels depth i
  pub goes-on : (level_at levels depth).end ≡ i → ⊥

module _ {largest : ℕ} {b : List ℕ} {levels : List Level} {i : ℕ} where
  pub outermost-goes-on : {depth : ℕ} → Walking largest b levels depth i → i < records b → (level_at levels 0).end ≡ i → ⊥
  outermost-goes-on w l e = omega (arith, levels-outermost w.held)

  pub walking-inner : (depth : ℕ) → Walking largest b levels depth i → i < records b → Inside largest b levels (innermost levels depth i) i
  walking-inner zero w l = record { walking = w; goes-on = outermost-goes-on w l }
  walking-inner (suc depth) w l =
      let s : suc depth - 1 ≡ depth = omega arith in
      by (eqb (level_at levels (suc depth)).end i) refl (λ e. walking-inner depth (rw s at (walking-close w l e)) l)
    where
      by : (t : Bool) → eqb (level_at levels (suc depth)).end i ≡ t → ((level_at levels (suc depth)).end ≡ i → Inside largest b levels (innermost levels depth i) i) →
          Inside largest b levels (cond t (innermost levels depth i) (suc depth)) i
      by true e outer = outer (eqb-true _ _ e)
      by false e outer = record { walking = w; goes-on = eqb-false _ _ e }
