-- `count_field` meets its contract.
use Rattle.std.proofs.Common.{List, true, ℕ, refl, arith}
use Rattle.std.proofs.lemmas.Result.{err_from_is_err_and}
use Rattle.counting_theory.specs.Label.{field_kind, CountingType}
use Rattle.counting_theory.specs.declared.equivalence.Equivalence.{Equivalence}
use Rattle.inference.specs.Inside.Inferring.{ArenaHolds, Starts, StandsAt}
use Rattle.inference.specs.Inside.ScalarFields.{plain}
use Rattle.inference.proofs.InPlace.Scalars.{field-here, field-starts}
use Rattle.inference.proofs.scalar_fields.count_field.Goals as goal
use Rattle.inference.proofs.scalar_fields.count_field.Goals.{In_ok-p}

-- the field has been found
stands : (c : goal.In_ok-p) (e : Equivalence) (rest : ℕ) (f : CountingType) (q free : List ℕ) → ArenaHolds e true c.args.a.now c.args.n rest f q free → Starts c.args.from f → StandsAt (plain e field_kind c.args.key) f c.in_ok-p.p
stands c e rest f q free h s = rw c.in_ok-p.was at (c.find_field.ensures e rest f q free h s)

pub count_scalar-requires : goal.count_scalar-requires
count_scalar-requires c =
    let x = c.requires.0 in
    (record { equivalence = x.equivalence; n = _; rest = x.rest; key = _; f = x.f; q = x.q; free = x.free; holds = x.holds; here = stands (goal.at.count_scalar-requires c).In_ok-p x.equivalence x.rest x.f x.q x.free x.holds x.starts }, c.requires.1)

pub returns-then-count_scalar : goal.returns-then-count_scalar
returns-then-count_scalar c e rest f q free h s =
    let o = stands (goal.at.returns-then-count_scalar c).In_ok-p e rest f q free h s in
    (rw c.if-count_scalar.true at (c.count_scalar.ensures e _ rest _ f q free h o), omega (arith, (field-here h _ _ o).spot_is))

pub returns-in_err-p : goal.returns-in_err-p
returns-in_err-p c e rest f q free h s =
    let p = err_from_is_err_and c.from_residual.result c.from_residual.ensures.1 in
    rw (p.1, p.2) (refl, rw c.in_err-p.was at (c.find_field.ensures e rest f q free h s))

pub returns-else-count_scalar : goal.returns-else-count_scalar
returns-else-count_scalar c e rest f q free h s =
    let o = stands (goal.at.returns-else-count_scalar c).In_ok-p e rest f q free h s in
    (rw c.if-count_scalar.false at (c.count_scalar.ensures e _ rest _ f q free h o), field-starts h _ _ o)
