-- How the levels of the walk hold the open values around a record.
use mathlib.Core.Path.{◌≡◌, refl, sym, ap}
use mathlib.Core.Bool.{Bool, true, false, cond, true≢false}
use mathlib.Core.List.{List, [], ◌∷◌, ◌++◌}
use Prim.Native.Nat.{ℕ, suc, ◌+◌, ◌≤◌, ◌<◌}
use native.Mathlib.Omega.{arith}
use lib.Dec.{eqb}
use lib.ListN.{length, set, length-set, length-append}
use lib.Seq.{get_or-set_same, get_or-set_other}
use Rattle.std.specs.Prelude.{Option, None, Some}
use Rattle.value_table.specs.declared.faults.Level.{Level}
use Rattle.value_table.specs.Value.{record_kind, kind_at, key_at, span_at}
use Rattle.value_table.specs.Judged.{Open, end_of, in_record, seen, with_key, enter}
use Rattle.byte_records.specs.Inside.Chain.{done}
use Rattle.value_table.specs.Inside.EarlierFields.{FieldsBefore, field, other, level_at, first_of}
use Rattle.byte_records.proofs.Chain.{chain_more}

-- one value more at a level
abbrev pub counted : Level → Level
counted level = record { end = level.end; first = level.first; count = level.count + 1 }

-- a level is that of record i inside these values, in a table of n records
pub record LevelIs (b : List ℕ) (n i : ℕ) (around : List Open) (level : Level) : Type 0 where
  pub upto : i ≤ end_of n around
  pub end : level.end ≡ end_of n around
  pub before : FieldsBefore b i level.first (in_record around) (seen around)
  pub count : in_record around ≡ true → length (seen around) ≡ level.count

-- the levels up to `depth` hold the open values around record i
pub data Levels (b : List ℕ) (levels : List Level) (n : ℕ) : ℕ → ℕ → List Open → Type 0 where
  outside : {i : ℕ} → LevelIs b n i [] (level_at levels 0) → Levels b levels n 0 i []
  inside : {depth i : ℕ} {o : Open} {os : List Open} → LevelIs b n i (o ∷ os) (level_at levels (suc depth)) → Levels b levels n depth o.end os →
      Levels b levels n (suc depth) i (o ∷ os)

before-next : {b : List ℕ} {i : ℕ} {first : Option ℕ} {f : Bool} {ks : List ℕ} → 1 ≤ span_at b i → FieldsBefore b i first f ks → FieldsBefore b (i + span_at b i) first f (ks ++ (key_at b i ∷ []))
before-next s (field h) = field (chain_more s h)
before-next s other = other

level-next : {b : List ℕ} {n i : ℕ} {level : Level} (around : List Open) → 1 ≤ span_at b i → i + span_at b i ≤ end_of n around → LevelIs b n i around level →
    LevelIs b n (i + span_at b i) (with_key (key_at b i) around) (counted level)
level-next [] s t h = record { upto = t; end = h.end; before = elim_none h.before; count = λ e. absurd (true≢false (sym e)) }
  where
    elim_none : {b : List ℕ} {i j : ℕ} {first : Option ℕ} {ks : List ℕ} → FieldsBefore b i first false ks → FieldsBefore b j first false []
    elim_none other = other
level-next {b} {i = i} (o ∷ os) s t h = record { upto = t; end = h.end; before = before-next s h.before; count = λ e. omega (arith, h.count e, length-append o.keys (key_at b i ∷ [])) }

module _ {b : List ℕ} {n : ℕ} where
  pub levels-depth : {levels : List Level} {depth i : ℕ} {around : List Open} → Levels b levels n depth i around → depth ≡ length around
  levels-depth (outside l) = refl
  levels-depth (inside l h) = ap suc (levels-depth h)

  pub levels-innermost : {levels : List Level} {depth i : ℕ} {around : List Open} → Levels b levels n depth i around → LevelIs b n i around (level_at levels depth)
  levels-innermost (outside l) = l
  levels-innermost (inside l h) = l

  pub levels-outermost : {levels : List Level} {depth i : ℕ} {around : List Open} → Levels b levels n depth i around → (level_at levels 0).end ≡ n
  levels-outermost (outside l) = l.end
  levels-outermost (inside l h) = levels-outermost h

  -- a deeper level doesn't matter
  levels-set : {levels : List Level} {depth i : ℕ} {around : List Open} (p : ℕ) (x : Level) → depth < p → Levels b levels n depth i around → Levels b (set levels p x) n depth i around
  levels-set {levels} p x d (outside l) = outside (rw (get_or-set_other levels p 0 x _ (λ e. omega arith)) l)
  levels-set {levels} p x d (inside {depth = depth} {o = o} l h) = inside {depth = depth} {o = o} (rw (get_or-set_other levels p (suc depth) x _ (λ e. omega arith)) l) (levels-set p x (omega arith) h)

  pub levels-next : {levels : List Level} {depth i : ℕ} {around : List Open} → depth < length levels → 1 ≤ span_at b i → i + span_at b i ≤ end_of n around → Levels b levels n depth i around →
      Levels b (set levels depth (counted (level_at levels depth))) n depth (i + span_at b i) (with_key (key_at b i) around)
  levels-next {levels} m s t (outside l) = outside (rw (get_or-set_same levels 0 (counted (level_at levels 0)) _ m) (level-next [] s t l))
  levels-next {levels} m s t (inside {depth = depth} {o = o} {os = os} l h) =
      inside {depth = depth} (rw (get_or-set_same levels (suc depth) (counted (level_at levels (suc depth))) _ m) (level-next (o ∷ os) s t l)) (levels-set (suc depth) _ (omega arith) h)

  -- a value is entered at a level of its own
  pub levels-enter : {levels : List Level} {depth i : ℕ} {around : List Open} → suc depth < length levels → 1 ≤ span_at b i → i + span_at b i ≤ end_of n around → Levels b levels n depth i around →
      Levels b (set (set levels depth (counted (level_at levels depth))) (suc depth) (record { end = i + span_at b i; first = first_of (kind_at b i) i; count = 0 })) n (suc depth) (i + 1) (enter b i around)
  unfolding enter
  levels-enter {levels} {depth} {i} {around} m s t h =
      let inner : Level = record { end = i + span_at b i; first = first_of (kind_at b i) i; count = 0 } in
      let outer = set levels depth (counted (level_at levels depth)) in
      inside {depth = depth} {i = i + 1} {o = record { kind = kind_at b i; end = i + span_at b i; keys = [] }}
      (rw (get_or-set_same outer (suc depth) inner _ (simp length-set m)) (record { upto = omega arith; end = refl; before = first (eqb (kind_at b i) record_kind); count = λ e. refl }))
      (levels-set (suc depth) inner (omega arith) (levels-next (omega arith) s t h))
    where
      first : (f : Bool) → FieldsBefore b (i + 1) (cond f (Some (i + 1)) None) f []
      first true = field done
      first false = other
