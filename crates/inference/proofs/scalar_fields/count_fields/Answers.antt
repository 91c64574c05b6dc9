-- `count_fields` meets its contract.
use Rattle.std.proofs.Common.{◌≡◌, ◌+◌, ◌*◌, ◌≤◌, ◌<◌, true, List, ℕ, length, ◌∙◌, arith}
use Rattle.std.specs.Prelude.{Ok}
use Rattle.value_table.specs.Value.{record_size, Values, key_at, kind_at}
use Rattle.counting_theory.specs.declared.equivalence.Equivalence.{Equivalence}
use Rattle.counting_theory.specs.Encoding.{type_size}
use Rattle.counting_theory.specs.Label.{CountingType}
use Rattle.type_arena.specs.Inside.Arena.{RecordIn}
use Rattle.inference.specs.Inside.Inferring.{Found, resumed}
use Rattle.inference.specs.Inside.ScalarFields.{AddedSoFar, FieldCounted}
use Rattle.inference.proofs.InPlace.RunLoop.{ran-holds}
use Rattle.inference.proofs.InPlace.Scalars.{scalar-room, scalar-turn, ran-from}
use Rattle.inference.proofs.scalar_fields.count_fields.Goals as goal
use Rattle.inference.proofs.scalar_fields.count_fields.Goals.{After-count_field, In-loop-next}

recounted : (e : Equivalence) {key kind key' kind' : ℕ} (w n : ℕ) (f : CountingType) (q a b : List ℕ) (r r' : Found) → key ≡ key' → kind ≡ kind' → r ≡ r' → FieldCounted e key kind w f q n a r b → FieldCounted e key' kind' w f q n a r' b
recounted e w n f q a b r r' x y z h = rw (x, y, z) at h

-- the field at the loop's head
module _ (c : goal.In-loop-next) where
  more : record_size * c.loop-next.next < length c.args.t.now
  more = omega arith

  bounds : (record_size * c.loop-next.next + record_size ≤ length c.args.t.now) × (length c.args.t.now ≤ 65536) × (length c.loop-next.a ≤ 65536)
  bounds = omega (arith, more, c.loop-next.invariant.0, c.requires.short, c.requires.short-table)

pub count_field-requires : goal.count_field-requires
count_field-requires c =
    let g = c.requires in
    let x = c.loop-next.invariant.1 g.equivalence g.vs g.f g.q g.rest g.used g.ran in
    (record { equivalence = g.equivalence; rest = g.rest; f = x.g; q = g.q; free = x.free; holds = ran-holds x g.rest g.used (bounds (goal.at.count_field-requires c).In-loop-next).2; starts = x.starts }, omega (arith, c.if-kind-gt-LAST_SCALAR.false))

-- what has become of the field
module _ (c : goal.After-count_field) where
  abbrev SoFar : Equivalence → Values → CountingType → List ℕ → List ℕ → ℕ → ℕ → Type 0
  SoFar e vs f q a next from = AddedSoFar e true c.args.weight vs f q a c.args.t.now c.args.n next from

  ran : (e : Equivalence) (vs : Values) (f : CountingType) (q : List ℕ) (rest : ℕ) → length q ≡ type_size * rest → SoFar e vs f q c.args.a.now c.args.i c.args.from → SoFar e vs f q c.loop-next.a c.loop-next.next c.loop-next.at
  ran = c.loop-next.invariant.1

  counted : (o : Found) → c.count_field.result ≡ o → (e : Equivalence) (vs : Values) (f : CountingType) (q : List ℕ) (rest : ℕ) (u : length q ≡ type_size * rest) (r : SoFar e vs f q c.args.a.now c.args.i c.args.from) →
      FieldCounted e (key_at c.args.t.now c.loop-next.next) (kind_at c.args.t.now c.loop-next.next) c.args.weight (ran e vs f q rest u r).g q c.args.n c.loop-next.a o c.count_field.new.a
  counted o z e vs f q rest u r =
      let x = ran e vs f q rest u r in
      let short : length c.loop-next.a ≤ 65536 = omega (arith, c.loop-next.invariant.0, c.requires.short) in
      recounted e c.args.weight c.args.n x.g q c.loop-next.a c.count_field.new.a _ o c.key_at.ensures c.kind_at-kind.ensures z (c.count_field.ensures e rest x.g q x.free (ran-holds x rest u short) x.starts)

-- it is counted
module _ (c : goal.After-count_field) (p : ℕ) (is : c.count_field.result ≡ Ok p) where
  scalar : kind_at c.args.t.now c.loop-next.next ≤ 4
  scalar = omega (arith, c.if-kind-gt-LAST_SCALAR.false, c.kind_at-kind.ensures)

  short : length c.count_field.new.a ≤ 65536
  short = omega (arith, c.count_field.auto.a, c.loop-next.invariant.0, c.requires.short)

  module _ (e : Equivalence) (vs : Values) (f : CountingType) (q : List ℕ) (rest : ℕ) (u : length q ≡ type_size * rest) (r : SoFar c e vs f q c.args.a.now c.args.i c.args.from) where
    room : record_size * c.loop-next.next < length c.args.t.now → RecordIn c.count_field.new.a p
    room m = let k = counted c _ is e vs f q rest u r in scalar-room (ran c e vs f q rest u r) c.requires.short-table m scalar rest _ _ k.0 k.1 short

    turned : record_size * c.loop-next.next < length c.args.t.now → SoFar c e vs f q c.count_field.new.a (c.loop-next.next + 1) (resumed true c.count_field.new.a p c.args.n)
    turned m = let k = counted c _ is e vs f q rest u r in scalar-turn (ran c e vs f q rest u r) c.requires.short-table m scalar rest _ _ k.0 k.1 short u

pub returns-in-Err : goal.returns-in-Err
returns-in-Err c =
    let k = (goal.at.returns-in-Err c).After-count_field in
    (omega arith, λ e vs f q rest u r. let x = counted k _ c.in-Err.is e vs f q rest u r in ran-from (ran k e vs f q rest u r) _ _ x.0 x.1)

pub resume_at-at-requires : goal.resume_at-at-requires
resume_at-at-requires c =
    let g = c.requires in
    room (goal.at.resume_at-at-requires c).After-count_field _ c.in-Ok.is g.equivalence g.vs g.f g.q g.rest g.used g.ran (more (goal.at.resume_at-at-requires c).In-loop-next)

pub loop-next-preserved : goal.loop-next-preserved
loop-next-preserved c =
    let k = (goal.at.loop-next-preserved c).After-count_field in (
      c.count_field.auto.a ∙ c.loop-next.invariant.0,
      λ e vs f q rest u r. rw c.resume_at-at.ensures (turned k _ c.in-Ok.is e vs f q rest u r (more (goal.at.loop-next-preserved c).In-loop-next)),
    )

pub returns : goal.returns
returns c =
    let all : c.loop-next.next ≡ c.max-end.result = omega arith in
    (omega arith, rw all at c.loop-next.invariant.1)
