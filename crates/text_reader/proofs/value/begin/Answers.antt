-- `begin` meets its contract.
use mathlib.Core.Path.{refl, sym, ◌∙◌, ap}
use Prim.Native.Nat.{◌+◌}
use native.Mathlib.Omega.{arith}
use Rattle.std.proofs.lemmas.Result.{err_from_is_err_and}
use Rattle.value_table.specs.Value.{none}
use Rattle.json_theory.specs.Grammar.{array, object}
use Rattle.json_theory.specs.Parts.{start}
use Rattle.json_theory.specs.Steps.{base}
use Rattle.text_reader.specs.Inside.Items.{kind_number}
use Rattle.text_reader.proofs.ValueRead.{starts-open, scalar-to, scalar-bad, scalar-kind}
use Rattle.text_reader.proofs.value.begin.Goals as goal

pub returns-in-Array-clause-by_index : goal.returns-in-Array-clause-by_index
returns-in-Array-clause-by_index c = λ key around.
    (array, starts-open c.args.c array (sym c.requires.kind_value ∙ ap kind_number c.in-Array.is), refl, refl)

pub returns-in-Record-clause-by_index : goal.returns-in-Record-clause-by_index
returns-in-Record-clause-by_index c = λ key around.
    (object, starts-open c.args.c object (sym c.requires.kind_value ∙ ap kind_number c.in-Record.is), refl, refl)

pub returns-in_err-end-in_default : goal.returns-in_err-end-in_default
returns-in_err-end-in_default c =
    let p = err_from_is_err_and c.from_residual.result c.from_residual.ensures.1 in
    let k = scalar-kind c.args.kind (start c.args.c) c.requires.kind_value c.in_default.not-Record c.in_default.not-Array in
    rw (p.1, p.2)
    (record {
      value_place = tt;
      by_index = λ key around.
          scalar-bad c.args.text.now (c.args.at + 1) (start c.args.c) _ k key around (c.in_err-end-in_default.ensures key around);
    })

pub returns-in_ok-end-in_default : goal.returns-in_ok-end-in_default
returns-in_ok-end-in_default c =
    let k = scalar-kind c.args.kind (start c.args.c) c.requires.kind_value c.in_default.not-Record c.in_default.not-Array in
    let place = scalar-to c.args.text.now (c.args.at + 1) (start c.args.c) c.in_ok-end-in_default.end k 0 (base none) (c.in_ok-end-in_default.ensures 0 (base none)) in
    record {
      value_place = (omega (arith, place.1), place.2);
      by_index = λ key around.
          (scalar-to c.args.text.now (c.args.at + 1) (start c.args.c) c.in_ok-end-in_default.end k key around (c.in_ok-end-in_default.ensures key around)).0;
    }
