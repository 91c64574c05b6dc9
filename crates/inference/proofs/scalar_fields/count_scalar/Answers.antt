-- `count_scalar` meets its contract.
use mathlib.Core.List.{List, ◌++◌}
use mathlib.Core.Bool.{true, false}
use mathlib.Core.Path.{◌≡◌, refl, sym, ◌∙◌}
use Prim.Native.Nat.{ℕ, ◌+◌, ◌*◌, ◌-◌, ◌≤◌}
use native.Mathlib.Omega.{arith}
use lib.ListN.{length, take, drop, length-take, length-drop}
use Rattle.counting_theory.specs.Label.{field_kind, CountingType}
use Rattle.counting_theory.specs.Encoding.{type_size, type_span, encode}
use Rattle.value_table.specs.Value.{none, value, count}
use Rattle.type_arena.specs.Inside.Payload.{item_payload}
use Rattle.inference.specs.Inside.Inferring.{grown, ArenaHolds, StandsAt, split, Counted}
use Rattle.inference.specs.Inside.ScalarFields.{plain, SomeField}
use Rattle.inference.proofs.InPlace.Placing.{holds-length, here-within, here-counted}
use Rattle.inference.proofs.InPlace.Splits.{here-at}
use Rattle.inference.proofs.InPlace.Scalars.{begun_first, field-here, field_bound, union-holds, counted-union, scalar-counted}
use Rattle.inference.proofs.scalar_fields.count_scalar.Goals as goal
use Rattle.inference.proofs.scalar_fields.count_scalar.Goals.{After-join_payload}
use Rattle.counting_theory.specs.declared.equivalence.Equivalence.{Equivalence}

-- the field at p
bound : {a : List ℕ} {p : ℕ} → SomeField a p →
    (p + type_span a p ≤ length a) × (1 ≤ type_span a p) × (type_size * (p + type_span a p) ≤ length a) × (length a ≤ 65536)
bound g = omega (arith, field_bound g.holds g.key _ g.here)

pub overflow_mul-inner : goal.overflow_mul-inner
overflow_mul-inner c = omega (arith, bound c.requires.0)

pub overflow_add-inner : goal.overflow_add-inner
overflow_add-inner c = omega (arith, bound c.requires.0)

pub span_at-held-requires : goal.span_at-held-requires
span_at-held-requires c = omega (arith, bound c.requires.0)

pub overflow_sub-held : goal.overflow_sub-held
overflow_sub-held c = omega (arith, bound c.requires.0, c.span_at-held.ensures.0)

pub slice_bounds-find_scalar-count : goal.slice_bounds-find_scalar-count
slice_bounds-find_scalar-count c = omega (arith, bound c.requires.0)

pub slice_bounds-find_scalar-start : goal.slice_bounds-find_scalar-start
slice_bounds-find_scalar-start c = omega (arith, bound c.requires.0)

pub find_scalar-requires : goal.find_scalar-requires
find_scalar-requires c =
    let g = c.requires in
    let x = g.0 in
    let h = union-holds x.holds x.key _ x.here _ c.span_at-held.ensures.0 in
    (record { equivalence = x.equivalence; rest = _; f = _; q = _; free = _; holds = h; starts = (begun_first h (plain x.equivalence 0 0)).starts }, g.1)

pub join_payload-requires : goal.join_payload-requires
join_payload-requires c = omega (arith, bound c.requires.0)

no-elements : 0 ≡ count none
unfolding count
no-elements = refl

-- the scalar in its union, when the field has been counted
module _ (c : goal.After-join_payload) where
  abbrev span : ℕ
  span = c.span_at-held.result

  abbrev arena : List ℕ
  arena = c.join_payload.new.b

  short : length arena ≤ 65536
  short = omega (arith, bound c.requires.0, c.join_payload.auto.b)

  module _ (e : Equivalence) (n rest key : ℕ) (f : CountingType) (q free : List ℕ) (h : ArenaHolds e true c.args.a.now n rest f q free) (o : StandsAt (plain e field_kind key) f c.args.p) where
    counted : Counted (split (plain e field_kind key) f) (plain e field_kind key) (grown (split (plain e field_kind key) f).payload (item_payload c.args.weight field_kind (value (record { kind = c.args.kind }) key none none))) q c.args.p n arena
    counted = rw (c.given.ensures none (λ z. no-elements)) at (here-counted h _ _ _ (field-here h key _ o) _ _ c.join_payload.ensures)

    abbrev union : CountingType
    union = (split (plain e field_kind key) f).content

    stands : StandsAt (plain e c.args.kind 0) union c.in-Ok.q
    stands = sym c.in-Ok.is ∙ c.find_scalar.ensures e _ union _ _ (union-holds h key _ o _ c.span_at-held.ensures.0)

    inner : ArenaHolds e false (take (length arena - (type_size * c.args.p + type_size)) (drop (type_size * c.args.p + type_size) arena)) (span - 1) (n + rest - c.args.p - span) union (encode (split (plain e field_kind key) f).after ++ q) counted.free
    inner = counted-union h key _ o span c.span_at-held.ensures.0 c.args.weight c.args.kind counted short

pub slice_bounds-join_payload-count : goal.slice_bounds-join_payload-count
slice_bounds-join_payload-count c = omega (arith, bound c.requires.0, c.join_payload.auto.b)

pub slice_bounds-join_payload-start : goal.slice_bounds-join_payload-start
slice_bounds-join_payload-start c = omega (arith, bound c.requires.0, c.join_payload.auto.b)

pub join_payload-requires-2 : goal.join_payload-requires-2
join_payload-requires-2 c =
    let g = c.requires.0 in
    let h = inner (goal.at.join_payload-requires-2 c).After-join_payload g.equivalence g.n g.rest g.key g.f g.q g.free g.holds g.here in
    omega (arith, here-within h _ _ _ (here-at _ 0 _ _ (stands (goal.at.join_payload-requires-2 c).After-join_payload g.equivalence g.n g.rest g.key g.f g.q g.free g.holds g.here)), holds-length h)

pub returns : goal.returns
returns c e n rest key f q free h o =
    let j = inner (goal.at.returns c).After-join_payload e n rest key f q free h o in
    let k = here-counted j _ _ _ (here-at _ 0 _ _ (stands (goal.at.returns c).After-join_payload e n rest key f q free h o)) _ _ c.join_payload-2.ensures in
    scalar-counted h key _ o _ c.span_at-held.ensures.0 c.args.weight c.args.kind (counted (goal.at.returns c).After-join_payload e n rest key f q free h o) (short (goal.at.returns c).After-join_payload) c.requires.1
    (rw (c.given-2.ensures none (λ z. no-elements)) at k)
    (omega (arith, short (goal.at.returns c).After-join_payload, simp (length-take, length-drop) at c.join_payload-2.auto.b))
