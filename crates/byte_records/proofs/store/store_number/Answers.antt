-- `store_number` meets its contract.
use mathlib.Core.Path.{refl, sym}
use native.Mathlib.Nat.{div-one}
use Rattle.byte_records.specs.Number.{bytes_of}
use Rattle.byte_records.proofs.Sets.{sets_more}
use Rattle.byte_records.proofs.store.store_number.Goals as goal

pub loop-k-init : goal.loop-k-init
unfolding bytes_of
loop-k-init g c = (refl, sym (div-one c.args.v))

pub loop-k-preserved : goal.loop-k-preserved
loop-k-preserved g c =
    let v = c.loop-k.invariant in
    sets_more c.args.v c.args.out.now c.args.at c.loop-k.k v.0 v.1
