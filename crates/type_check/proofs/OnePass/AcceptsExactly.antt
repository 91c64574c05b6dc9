-- The check of all records accepts exactly the well-formed types.
use mathlib.Core.Path.{◌≡◌, refl, sym, ap}
use mathlib.Core.Bool.{Bool, true, false, true≢false}
use mathlib.Core.List.{List}
use Rattle.std.proofs.Common.{is_some, Option, None, Some}
use Prim.Native.Nat.{ℕ}
use native.Mathlib.Omega.{arith}
use lib.Dec.{lit≤}
use lib.ListN.{length}
use Rattle.byte_records.specs.Number.{Bytes}
use Rattle.counting_theory.proofs.WellFormed.Limit.{limit-totals, totals-limit}
use Rattle.counting_theory.specs.Trie.{largest_total}
use Rattle.counting_theory.specs.Label.{CountingType}
use Rattle.counting_theory.specs.declared.equivalence.Equivalence.{Equivalence}
use Rattle.counting_theory.specs.Encoding.{type_records, type_of}
use Rattle.counting_theory.specs.WellFormed.{well_formed, bad_type_length}
use Rattle.type_check.specs.Inside.Checker.{Run, addends, check_run}
use Rattle.counting_theory.proofs.WellFormed.Rules.{Rules}
use Rattle.counting_theory.proofs.WellFormed.AcceptsExactly.{type-holds, type-rules, holds-type, type-unique, well-formed-type}
use Rattle.type_check.proofs.OnePass.Rest.{Rest}
use Rattle.type_check.proofs.OnePass.Accepts.{check-complete, check_sound}
use Rattle.type_check.specs.Inside.Reading.{full}

same_truth : (s t : Bool) → (s ≡ true → t ≡ true) → (t ≡ true → s ≡ true) → s ≡ t
same_truth true t h i = sym (h refl)
same_truth false true h i = i refl
same_truth false false h i = refl

some_of : (o : Option ℕ) → is_some o ≡ true → (t : ℕ) × (o ≡ Some t)
some_of None h = absurd (true≢false (sym h))
some_of (Some t) h = (t, refl)

-- the whole type is one union
abbrev whole : Run
whole = addends 1 0 0

module _ (e : Equivalence) (b : List ℕ) (f : CountingType) where
  rules-rest : Rules e f → Rest e b 0 whole f
  unfolding largest_total
  rules-rest r =
      record {
        ruled = record { counts = r.counts; below = omega (arith, limit-totals f r.limit); sorted = r.sorted; totals = r.totals; fields = r.fields; payloads = r.payloads };
        beside = (λ z. absurd (true≢false z), omega (arith, limit-totals f r.limit));
      }

  rest-rules : Rest e b 0 whole f → Rules e f
  unfolding largest_total
  rest-rules x =
      let r = x.ruled in
      record { counts = r.counts; limit = totals-limit f (omega (arith, r.below, x.beside.1)); sorted = r.sorted; totals = r.totals; fields = r.fields; payloads = r.payloads }

pub check-well-formed : (e : Equivalence) (b : List ℕ) → Bytes b → bad_type_length (length b) ≡ false →
    well_formed e b ≡ is_some (check_run full e b 0 (type_records b) (addends 1 0 0))
check-well-formed e b bytes fits =
    same_truth (well_formed e b) (is_some (check_run full e b 0 (type_records b) whole))
    (λ w.
    let f = type_of e b in
    let t = (well-formed-type e b bytes fits).0 w in
    ap is_some (check-complete e b 0 (type_records b) whole f (type-holds e b f t) (rules-rest e b f (type-rules e b f t))))
    (λ h.
    let o = some_of _ h in
    let a = check_sound e b bytes (type_records b) 0 (type_records b) whole o.0 (omega arith) (omega arith) (omega arith) (lit≤ tt) o.1 in
    let t = holds-type e b a.type fits a.holds (rest-rules e b a.type a.rest) in
    (well-formed-type e b bytes fits).1 (rw (← type-unique e b a.type t) t))
