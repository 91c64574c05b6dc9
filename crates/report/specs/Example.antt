-- Document 01's example, byte by byte: what the program prints for its nine value records; for an empty and for a refused table; reports
-- with rounded halves, with the largest count and without false ends; and the shares that change 7 of document 02 is about.
use Rattle.std.specs.Prelude.{◌≡◌, List, [], ◌∷◌, ◌++◌, ℕ}
use Rattle.value_table.specs.Value.{header}
use Rattle.counting_theory.specs.Payload.{of_numbers}
use Rattle.counting_theory.specs.Trie.{nil, node}
use Rattle.counting_theory.specs.Label.{label_of, CountingType}
use Rattle.counting_theory.specs.declared.equivalence.Equivalence.TheVariants.{Kind as by_kind}
use Rattle.counting_theory.specs.WellFormed.{max_total}
use Rattle.report.specs.Decimal.{text}
use Rattle.report.specs.Line.{rounded, share}
use Rattle.report.specs.Report.{report, printed}

-- a value record by kind, key and span
abbrev pub row : ℕ → ℕ → ℕ → List ℕ
row kind key span = header (record { kind = kind }) key span

-- {1: number, 2: [number, number]}, {1: null}, {2: []}
abbrev pub nine : List ℕ
nine =
    row 5 0 5 ++ row 3 1 1 ++ row 6 2 3 ++ row 3 0 1 ++ row 3 0 1
    ++ row 5 0 2 ++ row 1 1 1 ++ row 5 0 2 ++ row 6 2 1

-- one null in sixteen: padding, and halves rounded up
abbrev pub sixteen : CountingType
sixteen = node (label_of by_kind 1 0 []) (of_numbers (1 ∷ [])) nil (node (label_of by_kind 3 0 []) (of_numbers (15 ∷ [])) nil nil)

-- the largest count, sixteen digits
abbrev pub limit : CountingType
limit = node (label_of by_kind 3 0 []) (of_numbers (max_total ∷ [])) nil nil

-- so many records, of which `count` have field 1, a null
abbrev pub field_in : (count whole : ℕ) → CountingType
field_in count whole =
    node (label_of by_kind 5 0 []) (of_numbers (whole ∷ []))
    (node (label_of by_kind 7 1 []) (of_numbers (count ∷ []))
    (node (label_of by_kind 1 0 []) (of_numbers (count ∷ [])) nil nil) nil) nil

-- rows of a count, its whole, document 01's rounding alone, and the share
abbrev pub SharesAre : List (ℕ × ℕ × ℕ × ℕ) → Type 0
SharesAre [] = Unit {0}
SharesAre ((count, whole, plain, final) ∷ rows) = (rounded count whole ≡ plain) × (share count whole ≡ final) × SharesAre rows

pub record Examples : Type 0 where
  pub seven-lines : printed nine
      ≡ text "1 rec 0 3 1000\n" ++ text "1 field 1 2 667\n" ++ text "2 null 0 1 500\n" ++ text "2 num 0 1 500\n"
      ++ text "1 field 2 2 667\n" ++ text "2 arr 0 2 1000\n" ++ text "3 num 0 2 1000\n"
  pub nothing : printed [] ≡ []
  pub refusal : printed (row 1 0 2) ≡ text "refused 4 0\n"
  pub halves : report sixteen ≡ text "1 null 0  1 63\n" ++ text "1 num 0 15 938\n"
  pub widest : report limit ≡ text "1 num 0 1000000000000000 1000\n"
  pub nearly-all : report (field_in 1999 2000) ≡ text "1 rec 0 2000 1000\n" ++ text "1 field 1 1999 999\n" ++ text "2 null 0 1999 1000\n"
  pub nearly-none : report (field_in 1 5000) ≡ text "1 rec 0 5000 1000\n" ++ text "1 field 1    1 1\n" ++ text "2 null 0    1 1000\n"
  pub shares : SharesAre (
      (1999, 2000, 1000, 999) ∷ (2000, 2000, 1000, 1000) ∷ (9995, 10000, 1000, 999) ∷ (9994, 10000, 999, 999)
      ∷ (1, 5000, 0, 1) ∷ (1, 2000, 1, 1) ∷ (1, 1, 1000, 1000) ∷ [])
