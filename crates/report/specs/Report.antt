-- 'The profile program' of document 01: the report of a type, one line per type record.
use Rattle.std.specs.Prelude.{◌≡◌, cond, List, [], ◌++◌, ℕ, zero, suc, max, eqb}
use Rattle.byte_records.specs.Number.{Bytes}
use Rattle.value_table.specs.Value.{record_kind}
use Rattle.counting_theory.specs.Trie.{nil, node, total}
use Rattle.counting_theory.specs.Label.{Label, Counting, CountingType}
use Rattle.counting_theory.specs.declared.equivalence.Equivalence.{Equivalence}
use Rattle.counting_theory.specs.declared.equivalence.Equivalence.TheVariants.{Kind as by_kind}
use Rattle.counting_theory.specs.Encoding.{type_of}
use Rattle.counting_theory.specs.WellFormed.{depth_inside}
use Rattle.counting_theory.specs.Answers.{equivalence_number, Written, largest_arena, inferred}
use Rattle.report.specs.Decimal.{digit_count}
use Rattle.report.specs.Line.{share, NoFalseEnd, line_of, refusal_line}

-- what a share inside a node is against: a field's against its record's count, an addend's against its union's total
abbrev pub whole_inside : Label → ℕ → CountingType → ℕ
whole_inside l count inner = cond (eqb l.kind record_kind) count (total Counting inner)

-- The lines of a union, or of the fields of a record, in the order of the records. A field has its record's depth.
unfoldable pub lines_of : (width depth whole : ℕ) → CountingType → List ℕ
lines_of width depth whole nil = []
lines_of width depth whole (node l a inner next) =
    line_of depth l.kind l.key width a.count (share a.count whole)
    ++ (lines_of width (depth_inside (eqb l.kind record_kind) depth) (whole_inside l a.count inner) inner ++ lines_of width depth whole next)

-- the largest count printed, inner addends and fields included
unfoldable pub largest_count : CountingType → ℕ
largest_count nil = 0
largest_count (node l a inner next) = max a.count (max (largest_count inner) (largest_count next))

-- counts are padded to the digits of the largest one
unfoldable pub report : CountingType → List ℕ
report t = lines_of (digit_count (largest_count t)) 1 (total Counting t) t

-- the equivalence under which the program infers: kind by name (change 5 of document 02), whatever the house default is
abbrev pub program_equivalence : Equivalence
program_equivalence = by_kind

-- the report of the type, or the line of the refusal, by the refusal number
abbrev pub text_of : ℕ → Written → List ℕ
text_of zero w = report (type_of program_equivalence w.bytes)
text_of (suc n) w = refusal_line (suc n) w.outcome.place

-- The type of the program's input, inferred by call 2 under that equivalence with the largest arena. Input above 65,536 bytes is refused
-- by 1, as is any other wrong length.
abbrev pub profiled : List ℕ → Written
profiled input = inferred input (equivalence_number program_equivalence) largest_arena largest_arena

-- what the program prints for its input
unfoldable pub printed : List ℕ → List ℕ
printed input = text_of (profiled input).outcome.number (profiled input)

-- no share in the lines of a union, or of the fields of a record, has a false end; none in a report; and none that the program prints
abbrev pub EachShare : (whole : ℕ) → CountingType → Type 0
EachShare whole nil = Unit {0}
EachShare whole (node l a inner next) =
    NoFalseEnd a.count whole × EachShare (whole_inside l a.count inner) inner × EachShare whole next

abbrev pub ReportsNoFalseEnd : CountingType → Type 0
ReportsNoFalseEnd t = EachShare (total Counting t) t

abbrev pub PrintsNoFalseEnd : Type 0
PrintsNoFalseEnd = (input : List ℕ) → Bytes input → (profiled input).outcome.number ≡ 0 →
    ReportsNoFalseEnd (type_of program_equivalence (profiled input).bytes)
