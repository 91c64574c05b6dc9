-- Whole types: what the pass leaves of them is the type that the call gives, in the front of the arena.
use mathlib.Core.Path.{◌≡◌, refl, sym, ap, ◌∙◌}
use mathlib.Core.Bool.{Bool, true, false, cond, not, ◌||◌}
use mathlib.Core.List.{List}
use mathlib.Core.Option.{Option, none, some}
use Prim.Native.Nat.{ℕ, ◌+◌, ◌/◌, ◌≤◌, ◌<◌}
use native.Mathlib.Omega.{arith}
use lib.Dec.{eqb}
use lib.ListN.{length}
use lib.Seq.{sets}
use borrow.Author.Tests.{eqb-true, le-leb}
use Rattle.value_table.specs.Value.{max_depth, record_kind}
use Rattle.counting_theory.specs.Trie.{nil, node}
use Rattle.counting_theory.specs.declared.equivalence.Equivalence.{Equivalence}
use Rattle.counting_theory.specs.declared.equivalence.Equivalence.TheVariants.{Kind as by_kind, Label as by_label}
use Rattle.removal_theory.specs.Label.{Counting, CountingType}
use Rattle.removal_theory.specs.Encoding.{type_size, encode, type_of}
use Rattle.counting_theory.specs.WellFormed.{max_total}
use Rattle.removal_theory.specs.WellFormed.{fields_of, field_counts, well_formed, bad_type_length, IsType}
use Rattle.counting_theory.specs.Answers.{equivalence_of, turned_down}
use Rattle.std.proofs.Common.{Ok, Err}
use Rattle.answers.specs.declared.Refusal.TheVariants.{NotPart, Room}
use Rattle.answers.specs.Inside.Front.{WrittenInFront}
use Rattle.removal.specs.Difference.{difference}
use Rattle.removal.specs.Removed.{taken, keeping_fields, removed_type, removed_types, removed_under, removed}
use Rattle.removal.specs.Inside.Removing.{WholeRun, bytes_left, run_left, placed}
use Rattle.byte_records.proofs.Tests.{and_parts}
use Rattle.removal_theory.proofs.Label.{counting-laws}
use Rattle.counting_theory.proofs.Trie.Canonical.{some-none}
use Rattle.counting_theory.proofs.WellFormed.Tests.{both, three, implies}
use Rattle.removal_theory.proofs.WellFormed.Nodes.{field_counts-parts}
use Rattle.removal_arena.proofs.FirstAddend.{type-coded}
use Rattle.removal_arena.proofs.Runs.{type-run}
use Rattle.removal_check.proofs.Exact.{Exact, exact-cond, exact-stored}
use Rattle.answers.proofs.Fronts.{front-refused, sets-front}
use Rattle.removal_check.proofs.Fronts.{front-room, front_bytes}
use Rattle.removal.proofs.Difference.{steps}
use Rattle.removal.proofs.Taken.{taken-laws}
use Rattle.removal.proofs.LabelFields.{fields_out}
use Rattle.removal.proofs.CountLimit.{limit-left, run-limit}
use Rattle.removal.proofs.OnBytes.Placing.{found, lost}

-- fields that are counted as often as their records are counted at most as often
fields-at-most : (n : ℕ) (f : CountingType) → fields_of by_label n f ≡ true → fields_of by_kind n f ≡ true
unfolding fields_of
fields-at-most n nil h = refl
fields-at-most n (node l a c s) h =
    let p = and_parts (eqb a.count n) (fields_of by_label n s) h in
    both (le-leb a.count n (omega (arith, eqb-true a.count n p.0))) (fields-at-most n s p.1)

label-kind : (f : CountingType) → field_counts by_label f ≡ true → field_counts by_kind f ≡ true
unfolding field_counts
label-kind nil h = refl
label-kind (node l a c s) h =
    let p = field_counts-parts by_label l a c s h in
    three (implies (eqb l.kind record_kind) (fields_of by_kind a.count c) (λ z. fields-at-most a.count c (p.0 z))) (label-kind c p.1) (label-kind s p.2)

by-kind : (e : Equivalence) (f : CountingType) → field_counts e f ≡ true → field_counts by_kind f ≡ true
by-kind by_kind f h = h
by-kind by_label f h = label-kind f h

-- a whole type is a run of the whole, at the first level
pub type-whole : (e : Equivalence) (x : List ℕ) → IsType e x (type_of e x) → WholeRun (record { left = max_depth; field = false; equivalence = e }) max_total x
type-whole e x t = record { run = type-run e x t; fields = by-kind e (type_of e x) t.fields; limited = λ z. refl }

-- the bytes of a type that is there
unfoldable encoded : Option CountingType → Option (List ℕ)
encoded none = none
encoded (some f) = some (encode f)

module _ (e : Equivalence) (whole part : List ℕ) (t : IsType e whole (type_of e whole)) (u : IsType e part (type_of e part)) where
  abbrev result : Option CountingType
  result = removed_type e (type_of e whole) (type_of e part)

  -- the fields' rule under kind and that of the equivalence say the same of a difference
  same-rule : (f : CountingType) → difference Counting taken (type_of e whole) (type_of e part) ≡ some f → field_counts by_kind f ≡ field_counts e f
  same-rule f r = go e t u r
    where
      go : (e : Equivalence) → IsType e whole (type_of e whole) → IsType e part (type_of e part) → difference Counting taken (type_of e whole) (type_of e part) ≡ some f →
          field_counts by_kind f ≡ field_counts e f
      go by_kind t u r = refl
      go by_label t u r = let h = fields_out t u r in label-kind f h ∙ sym h

  left-encoded : run_left e max_total whole part ≡ encoded result
  unfolding run_left bytes_left removed_type encoded
  left-encoded = go (difference Counting taken (type_of e whole) (type_of e part)) refl
    where
      pick : (b : Bool) (f : CountingType) → cond b (some (encode f)) none ≡ encoded (cond b (some f) none)
      pick true f = refl
      pick false f = refl

      go : (o : Option CountingType) → difference Counting taken (type_of e whole) (type_of e part) ≡ o → bytes_left max_total o ≡ encoded (keeping_fields e o)
      go none z = refl
      go (some f) z =
          rw (limit-left max_total (steps counting-laws taken-laws (type_of e whole) (type_of e part) f z) (run-limit e whole (type-coded t) t.limit), same-rule f z)
          (pick (field_counts e f) f)

  pub front-not-part : (out arena : List ℕ) (n : ℕ) → none ≡ placed out 0 (run_left e max_total whole part) → WrittenInFront (removed_types result n) (Err NotPart) arena
  unfolding encoded
  front-not-part out arena n h = go result (sym left-encoded ∙ lost out 0 (run_left e max_total whole part) h)
    where
      go : (o : Option CountingType) → encoded o ≡ none → WrittenInFront (removed_types o n) (Err NotPart) arena
      go none z = front-refused NotPart arena refl
      go (some f) z = absurd (some-none z)

  -- the type of which n bytes are left, which are stored as far as there is room
  record Given (out arena : List ℕ) (n : ℕ) : Type 0 where
    type : CountingType
    is : result ≡ some type
    long : n ≡ length (encode type)
    stored : arena ≡ sets out 0 (encode type)

  given : (out arena : List ℕ) (n : ℕ) → some (arena, 0 + n) ≡ placed out 0 (run_left e max_total whole part) → Given out arena n
  unfolding encoded
  given out arena n h =
      let f = found out arena 0 (0 + n) (run_left e max_total whole part) h in
      go f.bytes f.stored (omega (arith, f.ends)) result refl (sym left-encoded ∙ f.is)
    where
      go : (b : List ℕ) → arena ≡ sets out 0 b → n ≡ length b → (o : Option CountingType) → result ≡ o → encoded o ≡ some b → Given out arena n
      go b s l none z i = absurd (some-none (sym i))
      go b s l (some f) z i = let k : b ≡ encode f = cc in record { type = f; is = z; long = l ∙ ap length k; stored = s ∙ ap (sets out 0) k }

  pub front-no-room : (out arena : List ℕ) (n : ℕ) → some (arena, 0 + n) ≡ placed out 0 (run_left e max_total whole part) → length out < n →
      WrittenInFront (removed_types result (length out)) (Err Room) arena
  front-no-room out arena n h r = let g = given out arena n h in rw g.is (front-room g.type (length out) arena (omega (arith, g.long)))

  stored-front : (out arena : List ℕ) (n : ℕ) (f : CountingType) → result ≡ some f → n ≡ length (encode f) → arena ≡ sets out 0 (encode f) → n ≤ length out →
      WrittenInFront (removed_types result (length out)) (Ok (n / type_size)) arena
  stored-front out arena n f a b c r =
      let fits : length (encode f) ≤ length out = omega arith in
      rw (a, b, c) (front_bytes f (length out) (sets out 0 (encode f)) fits (sets-front out (encode f) fits))

  pub front-removed : (out arena : List ℕ) (n : ℕ) → some (arena, 0 + n) ≡ placed out 0 (run_left e max_total whole part) → n ≤ length out →
      WrittenInFront (removed_types result (length out)) (Ok (n / type_size)) arena
  front-removed out arena n h r = let g = given out arena n h in stored-front out arena n g.type g.is g.long g.stored r

pub exact-removed : (whole part : List ℕ) (equivalence n : ℕ) → Exact (removed whole part equivalence n)
unfolding removed
exact-removed whole part equivalence n =
    exact-cond (bad_type_length (length whole) || bad_type_length (length part) || bad_type_length n) (turned_down 1 0) (removed_under (equivalence_of equivalence) whole part n) refl
    (go (equivalence_of equivalence))
  where
    types : (o : Option CountingType) → Exact (removed_types o n)
    types none = refl
    types (some f) = exact-stored n f

    go : (e : Option Equivalence) → Exact (removed_under e whole part n)
    go none = refl
    go (some e) =
        exact-cond (not (well_formed e whole)) (turned_down 8 0) _ refl
        (exact-cond (not (well_formed e part)) (turned_down 9 0) _ refl (types (removed_type e (type_of e whole) (type_of e part))))
