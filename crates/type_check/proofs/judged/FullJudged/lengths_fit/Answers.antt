-- `lengths_fit` meets its contract for the records of document 01.
use Rattle.std.proofs.Common.{arith, ap, sym, ◌∙◌}
use Rattle.counting_theory.specs.Payload.{Payload, lengths_fit}
use Rattle.counting_theory.proofs.Encoding.Header.{payload-count}
use Rattle.counting_theory.proofs.Payload.{proper-array}
use Rattle.type_arena.specs.Inside.Payload.{payload_of}
use Rattle.type_check.proofs.judged.FullJudged.lengths_fit.Goals as goal

pub lengths_fit-requires : goal.lengths_fit-requires
unfolding payload_of
lengths_fit-requires c =
    let z = ap (λ (a : Payload). a.count) c.payload_at.ensures ∙ payload-count c.args.b.now c.args.p in
    (omega (arith, z, c.requires.1), omega (arith, z, c.requires.2))

pub returns : goal.returns
returns c = c.lengths_fit.ensures ∙ ap (λ a. lengths_fit a c.args.elements) c.payload_at.ensures ∙ sym (proper-array _ _ _ c.requires.3)
