-- `same_record` meets its contract.
use mathlib.Core.Path.{sym, ap, ◌∙◌}
use Prim.Native.Nat.{◌*◌}
use native.Mathlib.Omega.{arith}
use borrow.Author.Tests.{eqb-true, eq-eqb}
use Rattle.byte_records.specs.Number.{number_of, number_at, Bytes}
use Rattle.value_table.specs.Value.{record_size}
use Rattle.byte_records.proofs.Format.{part_same}
use Rattle.value_table.proofs.record.same_record.Goals as goal

pub returns : goal.returns
unfolding number_at
returns c =
    let t = c.args.table.now in
    let known : Bytes t = λ p. (c.type_inv.table p).fits in (
      λ e. part_same record_size t t (record_size * c.args.i) (record_size * c.args.j) known known (omega (arith, c.requires)) (omega (arith, c.requires))
          (sym c.number.ensures.0 ∙ eqb-true _ _ e ∙ c.number-2.ensures.0),
      λ e. eq-eqb _ _ (c.number.ensures.0 ∙ ap number_of e ∙ sym c.number-2.ensures.0),
    )
