-- Well-formedness in one pass over the records, as the code checks it: each addend against the one before it, each field against
-- its record, and the total of each union on the way.
use Rattle.std.specs.Prelude.{Option, Some, None, Bool, true, false, cond, ◌&&◌, ◌||◌, List, ℕ, zero, suc, ◌+◌, ◌-◌, eqb, leb, ltb}
use Rattle.std.specs.Option.{option_eq}
use Rattle.value_table.specs.Value.{max_depth, record_kind, array_kind, last_scalar}
use Rattle.counting_theory.specs.Label.{field_kind, compare_label}
use Rattle.counting_theory.specs.declared.equivalence.Equivalence.{Equivalence}
use Rattle.type_arena.specs.Inside.Layout.{label_by}
use Rattle.counting_theory.specs.WellFormed.{max_total, is_lt, field_count}
use Rattle.type_check.specs.Inside.Reading.{Reading}

-- What a run of records is, and what has been seen of it: the addends of a union at some depth, with the addend before the next one
-- (or the next one itself, where there is none) and the total so far; or the fields of a record with some count, with the key before.
pub data Run : Type 0 where
  addends : (depth last total : ℕ) → Run
  fields : (depth of_record last_key : ℕ) → Run

abbrev pub total_of : Run → ℕ
total_of (addends depth last total) = total
total_of (fields depth of_record last_key) = 0

-- what stands inside has this total
abbrev pub has_total : ℕ → Option ℕ → Bool
has_total count o = option_eq eqb o (Some count)

module _ (q : Reading) where
  -- the rules of one record by itself, as the theory has them for its own records
  abbrev pub placed_record : List ℕ → ℕ → ℕ → Bool
  placed_record b i end = eqb (q.zero b i) 0 && leb 1 (q.span b i) && leb (i + q.span b i) end

  abbrev pub field_record : List ℕ → ℕ → Bool
  field_record b i = eqb (q.kind b i) field_kind && leb 1 (q.key b i) && leb 2 (q.span b i)

  abbrev pub scalar_fits : List ℕ → ℕ → Bool
  scalar_fits b i = ltb last_scalar (q.kind b i) || eqb (q.span b i) 1

  abbrev pub addend_record : List ℕ → ℕ → ℕ → Bool
  addend_record b i depth =
      leb 1 (q.kind b i) && leb (q.kind b i) array_kind && eqb (q.key b i) 0 && leb depth max_depth && scalar_fits b i

  unfoldable pub type_record : List ℕ → ℕ → ℕ → Bool → ℕ → Bool
  type_record b i end field depth = placed_record b i end && cond field (field_record b i) (addend_record b i depth)

  -- what stands inside an addend
  abbrev pub inside : List ℕ → ℕ → ℕ → Run
  inside b p depth = cond (eqb (q.kind b p) record_kind) (fields depth (q.count b p) 0) (addends (depth + 1) (p + 1) 0)

  -- the addend at p comes after the last one, if there is one
  abbrev pub ordered : Equivalence → List ℕ → ℕ → ℕ → Bool
  ordered e b last p = eqb last p || is_lt (compare_label (label_by q.kind q.key q.span e b last) (label_by q.kind q.key q.span e b p))

  -- its count is at least 1, and keeps the total of its union within the limit
  abbrev pub count_fits : List ℕ → ℕ → ℕ → Bool
  count_fits b p total = leb 1 (q.count b p) && leb (total + q.count b p) max_total

  -- the record at p is right by itself and beside what came before it
  unfoldable pub fits : Equivalence → List ℕ → ℕ → ℕ → Run → Bool
  fits e b p end (addends depth last total) =
      count_fits b p total && type_record b p end false depth && ordered e b last p
  fits e b p end (fields depth of_record last_key) =
      type_record b p end true depth && ltb last_key (q.key b p) && q.no_lengths b p && field_count e (q.count b p) of_record

  -- the run after the record at p
  abbrev pub after : List ℕ → ℕ → Run → Run
  after b p (addends depth last total) = addends depth p (total + q.count b p)
  after b p (fields depth of_record last_key) = fields depth of_record (q.key b p)

  -- what stands inside has a total that the payload of the record at p fits
  abbrev pub proper_within : List ℕ → ℕ → Option ℕ → Bool
  proper_within b p None = false
  proper_within b p (Some t) = q.proper b p t

  -- what is expected inside the record at p, and what its total must be
  abbrev pub content : List ℕ → ℕ → Run → Run
  content b p (addends depth last total) = inside b p depth
  content b p (fields depth of_record last_key) = addends (depth + 1) (p + 1) 0

  abbrev pub agrees : List ℕ → ℕ → Run → Option ℕ → Bool
  agrees b p (addends depth last total) o = proper_within b p o
  agrees b p (fields depth of_record last_key) o = has_total (q.count b p) o

  -- the total of the run of records p to end, or none where something is wrong; k bounds the number of records
  unfoldable pub check : Equivalence → List ℕ → ℕ → ℕ → ℕ → Run → Option ℕ
  check e b zero p end r = cond (eqb p end) (Some (total_of r)) None
  check e b (suc k) p end r =
      elim (eqb p end) [
        | true ↦ Some (total_of r)
        | false ↦ cond (fits e b p end r && agrees b p r (check e b k (p + 1) (p + q.span b p) (content b p r)))
            (check e b k (p + q.span b p) end (after b p r))
            None
      ]

  abbrev pub check_run : Equivalence → List ℕ → ℕ → ℕ → Run → Option ℕ
  check_run e b p end r = check e b (end - p) p end r

  -- the addend at p is right by itself: its record and what stands inside it
  abbrev pub addend_right : Equivalence → List ℕ → ℕ → ℕ → ℕ → Bool
  addend_right e b p end depth = type_record b p end false depth && proper_within b p (check_run e b (p + 1) (p + q.span b p) (inside b p depth))
