-- The first addend or field of a run of a well-formed type of removal's: its count, what stands inside it and what follows are within the
-- limits.
use mathlib.Core.Path.{◌≡◌, sym, ap}
use mathlib.Core.Bool.{Bool, true, false, cond, not, ◌&&◌}
use mathlib.Core.List.{List}
use Prim.Native.Nat.Ordering.{eq}
use Prim.Native.Nat.{ℕ, ◌+◌, ◌*◌, ◌-◌, ◌≤◌, ◌<◌, Ordering}
use native.Mathlib.Nat.{le_refl}
use native.Mathlib.Omega.{arith}
use lib.Dec.{eqb}
use lib.ListN.{length}
use Rattle.value_table.specs.Value.{max_length, max_depth, record_kind}
use Rattle.type_arena.specs.declared.level.Level.{Level}
use Rattle.counting_theory.specs.Trie.{node, total, largest_below, largest_total}
use Rattle.counting_theory.specs.Label.{Label, compare_label}
use Rattle.counting_theory.specs.declared.equivalence.Equivalence.{Equivalence}
use Rattle.removal_theory.specs.Label.{Counting, CountingType}
use Rattle.removal_theory.specs.Encoding.{type_payload, type_kind, type_of}
use Rattle.counting_theory.specs.WellFormed.{max_total, depth_inside}
use Rattle.removal_theory.specs.WellFormed.{Shallow, IsType}
use Rattle.removal_arena.specs.Inside.Arena.{label_at}
use Rattle.removal_arena.specs.Inside.Addend.{body, rest}
use Rattle.type_arena.specs.Inside.Runs.{depth_of, inside_of}
use Rattle.removal_arena.specs.Inside.Runs.{TypeRun}
use Rattle.counting_theory.proofs.Label.{kind-eq, label-order}
use Rattle.counting_theory.proofs.Tagged.Parts.{holds_fields}
use Rattle.counting_theory.proofs.WellFormed.Nodes.{KeyOrDepth, depth_under}
use Rattle.removal_theory.proofs.WellFormed.Nodes.{shallow-parts}
use Rattle.removal_theory.proofs.Encoding.Header.{length-encode}
use Rattle.removal_theory.proofs.WellFormed.Limit.{limit-totals, totals-limit}
use Rattle.removal_arena.proofs.FirstAddend.{Addend, addend, type-coded}
use Rattle.type_arena.specs.Inside.Layout.{label_by}

-- the equivalence that a level is by
abbrev pub At : Level → Equivalence
At level = level.equivalence

-- how the first labels compare
abbrev pub order : Equivalence → List ℕ → List ℕ → Ordering
order e x y = compare_label (label_at e x 0) (label_at e y 0)

pub same-kinds : (e : Equivalence) (x y : List ℕ) → eq ≡ order e x y → type_kind x 0 ≡ type_kind y 0
unfolding label_by
same-kinds e x y h = kind-eq (label-order.compare-eq (sym h))

-- an addend has a level left
level-left : (field : Bool) (left : ℕ) (l : Label) → KeyOrDepth field (max_depth + 1 - (left + cond field 1 0)) l → cond field 0 1 ≤ left
level-left true left l h = omega arith
level-left false left l h = omega arith

shallow-inside : (field : Bool) (left : ℕ) (l : Label) (c : CountingType) → left ≤ max_depth → cond field 0 1 ≤ left →
    Shallow (holds_fields field l) (depth_under field l (max_depth + 1 - (left + cond field 1 0))) c →
    Shallow (not field && eqb l.kind record_kind) (max_depth + 1 - (left - cond field 0 1 + cond (not field && eqb l.kind record_kind) 1 0)) c
shallow-inside true left l c low some h =
    let e : max_depth + 1 - (left + 1) + 1 ≡ max_depth + 1 - (left - 0 + 0) = omega arith in
    rw e at h
shallow-inside false left l c low some h = go (eqb l.kind record_kind) h
  where
    go : (t : Bool) → Shallow t (depth_inside t (max_depth + 1 - (left + 0))) c → Shallow t (max_depth + 1 - (left - 1 + cond t 1 0)) c
    go true h = let e : max_depth + 1 - (left + 0) ≡ max_depth + 1 - (left - 1 + 1) = omega arith in rw e at h
    go false h = let e : max_depth + 1 - (left + 0) + 1 ≡ max_depth + 1 - (left - 1 + 0) = omega arith in rw e at h

pub record Head (level : Level) (x : List ℕ) : Type 0 where
  pub first : Addend level.equivalence level.field x
  pub level-left : cond level.field 0 1 ≤ level.left
  pub in_body : TypeRun (inside_of level (type_kind x 0)) (body x)
  pub in_rest : TypeRun level (rest x)

pub head : {level : Level} {x : List ℕ} → TypeRun level x → 0 < length x → Head level x
unfolding label_by largest_total largest_below total
head {level} {x} p h =
    let e : Equivalence = level.equivalence in
    let l : Label = label_at e x 0 in
    let c : CountingType = type_of e (body x) in
    let s : CountingType = type_of e (rest x) in
    let a = addend p.coded h in
    let shallow : Shallow level.field (depth_of level) (node l (type_payload x 0) c s) = rw a.is-type at p.shallow in
    let q = shallow-parts level.field (depth_of level) l (type_payload x 0) c s shallow in
    let limit : largest_total Counting (node l (type_payload x 0) c s) ≤ max_total = rw a.is-type at (limit-totals (type_of e x) p.limit) in
    let some = level-left level.field level.left l q.0 in
    record {
      first = a;
      level-left = some;
      in_body =
          record {
            coded = a.in_body;
            shallow = shallow-inside level.field level.left l c p.left-low some q.1;
            left-low = omega (arith, p.left-low);
            limit = totals-limit c (omega (arith, limit));
          };
      in_rest = record { coded = a.in_rest; shallow = q.2; left-low = p.left-low; limit = totals-limit s (omega (arith, limit)) };
    }

-- a whole type is a union at depth 1, and short
pub type-run : (e : Equivalence) (x : List ℕ) → IsType e x (type_of e x) → TypeRun (record { left = max_depth; field = false; equivalence = e }) x
type-run e x t =
    record {
      coded = type-coded t;
      shallow = t.shallow;
      left-low = le_refl max_depth;
      limit = t.limit;
    }

pub type-short : {e : Equivalence} {x : List ℕ} → IsType e x (type_of e x) → length x ≤ max_length
type-short {e} {x} t = omega (arith, t.room, ap length t.bytes, length-encode (type_of e x))

-- a number that falls from a run to what stands inside it
abbrev pub rank : Level → ℕ
rank level = 2 * level.left + cond level.field 1 0

pub rank-inside : {level : Level} {x : List ℕ} → Head level x → rank (inside_of level (type_kind x 0)) < rank level
rank-inside {level} {x} h = go level.field (eqb (type_kind x 0) record_kind) h.level-left
  where
    go : (field fields : Bool) → cond field 0 1 ≤ level.left → 2 * (level.left - cond field 0 1) + cond (not field && fields) 1 0 < 2 * level.left + cond field 1 0
    go true fields i = omega arith
    go false true i = omega arith
    go false false i = omega arith
