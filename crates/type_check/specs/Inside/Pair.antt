-- What a call on two types answers before its work, and what the code's judgement of them says.
use Rattle.std.specs.Prelude.{Result, Ok, Err, ◌≡◌, cond, not, ◌||◌, List, ℕ, length}
use Rattle.std.proofs.Math.Option.{Option, none, some}
use Rattle.counting_theory.specs.declared.equivalence.Equivalence.{Equivalence}
use Rattle.counting_theory.specs.Encoding.{type_of}
use Rattle.counting_theory.specs.WellFormed.{well_formed, bad_type_length, IsType}
use Rattle.counting_theory.specs.Answers.{equivalence_of, Written, turned_down}
use Rattle.answers.specs.Outcomes.{refusal_of}
use Rattle.answers.specs.declared.Refusal.{Refusal}

-- what a call on two types answers, whose work under an equivalence gives `work`: 1, 2, 8, 9 come first
abbrev pub pair_under : (Equivalence → Written) → Option Equivalence → List ℕ → List ℕ → Written
pair_under work none first second = turned_down 2 0
pair_under work (some e) first second =
    cond (not (well_formed e first)) (turned_down 8 0)
    (cond (not (well_formed e second)) (turned_down 9 0)
    (work e))

abbrev pub on_pair : (Equivalence → Written) → List ℕ → List ℕ → ℕ → ℕ → Written
on_pair work first second equivalence arena =
    cond (bad_type_length (length first) || bad_type_length (length second) || bad_type_length arena) (turned_down 1 0)
    (pair_under work (equivalence_of equivalence) first second)

-- what the code's answer says
abbrev pub PairJudged : List ℕ → List ℕ → ℕ → ℕ → Result Equivalence Refusal → Type 0
PairJudged first second equivalence arena (Ok e) =
    IsType e first (type_of e first)
    × IsType e second (type_of e second)
    × ((work : Equivalence → Written) → on_pair work first second equivalence arena ≡ work e)
PairJudged first second equivalence arena (Err why) =
    (work : Equivalence → Written) → on_pair work first second equivalence arena ≡ turned_down (refusal_of why).number (refusal_of why).place
