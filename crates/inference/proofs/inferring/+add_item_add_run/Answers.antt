-- A run of values is added item by item, and an item with the run below it.
use mathlib.Core.Path.{◌≡◌, refl, sym, ◌∙◌}
use borrow.Author.Tests.{eqb-true}
use mathlib.Core.List.{List, ◌++◌}
use Prim.Native.Nat.{ℕ, ◌+◌, ◌*◌, ◌-◌, ◌≤◌, ◌<◌}
use native.Mathlib.Omega.{arith}
use lib.Dec.{eqb}
use lib.ListN.{length, take, drop, length-take, length-drop}
use borrow.Rule.Slice.PartMut.{put_mid, same_len_mid}
use Rattle.value_table.specs.Value.{record_size, record_kind, Values}
use Rattle.counting_theory.specs.Payload.{Payload}
use Rattle.counting_theory.specs.Trie.{size, add}
use Rattle.counting_theory.specs.Label.{Label, Counting, CountingType}
use Rattle.counting_theory.specs.Raw.{raw}
use Rattle.counting_theory.specs.Encoding.{type_size, encode}
use Rattle.type_arena.specs.Inside.Payload.{item_payload}
use Rattle.counting_theory.specs.Inside.Times.{times}
use Rattle.std.specs.Prelude.{Result, Ok}
use Rattle.std.proofs.lemmas.Result.{err_from_is_err_and}
use Rattle.type_arena.specs.declared.record_store.NoRoom.{NoRoom}
use Rattle.inference.specs.Inside.Inferring.{grown as grown_to, TableRun, ArenaHolds, split, Counted, Grown, label_for, with_item, Weighed, Added, AddedAt}
use Rattle.inference.specs.Inside.ScalarFields.{AddedSoFar}
use Rattle.inference.proofs.InPlace.AddItem.{Task, step-length, step-within, step-span, step-empty, nothing-added, step-holds, step-full, step-grown, added_full, added-records, grown-length}
use Rattle.inference.proofs.InPlace.RunLoop.{ran-start, ran-holds, ran-end, ran_first, below, below-run, turn-full, turn-room, turn-added, turn-order, turn-measure, turn-few, turn-weighed, turn-fits}
use Rattle.inference.proofs.InPlace.Runs.{whole-records}
use Rattle.inference.proofs.inferring.+add_item_add_run.Goals as goal
use Rattle.inference.proofs.inferring.+add_item_add_run.Goals.{add_item-After-span_at-span, add_item-In_ok-put, add_run-After-add_item, add_run-After-count_standing-standing, add_run-After-equal_values-more, add_run-After-read_item-kind, add_run-Else-end-i}

module _ {t : ℕ} where
  -- the label has its record
  module _ (c : goal.add_item-In_ok-put t) where
    abbrev Asked : Type 0
    Asked = Task c.args.equivalence c.args.item.now.kind c.args.from c.args.n c.args.rest c.args.a.now c.args.item.now.below.now

    asked : Asked
    asked =
        let g = c.requires in
        record { field = g.0.field; f = g.0.f; q = g.0.q; free = g.0.free; vs = g.1.values; holds = g.0.holds; starts = g.0.starts; run = g.1.run }

    abbrev label : Asked → Label
    label x = label_for c.args.equivalence c.args.item.now.kind c.args.item.now.key x.vs

    abbrev place : ℕ
    place = c.in_ok-put.put.at

    abbrev records : ℕ
    records = c.in_ok-put.put.records

    abbrev arena : List ℕ
    arena = c.locate.new.a

    abbrev payload : Asked → Payload
    payload x = item_payload c.args.item.now.weight c.args.item.now.kind x.vs

    counted : (x : Asked) → Counted (split (label x) x.f) (label x) (grown_to (split (label x) x.f).payload (payload x)) x.q place records arena
    counted x = rw c.in_ok-put.was at (c.locate.ensures x.field x.f x.q x.free x.holds x.starts x.vs x.run)

    same-arena : length arena ≡ length c.args.a.now
    same-arena = c.locate.auto.a

    same-work : length c.locate.new.work ≡ length c.args.work.now
    same-work = c.locate.auto.work

    short : length arena ≤ 65536
    short = omega (arith, asked.holds.short, same-arena)

    bound : (place + 1 ≤ records) × (type_size * (records + c.args.rest) ≤ length arena) × (length arena ≤ 65536)
    bound =
        let x = asked in
        omega (arith, short, step-within x.f _ x.holds.used short (counted x), step-length x.f _ x.holds.used short (counted x))

  -- its span is read
  module _ (c : goal.add_item-After-span_at-span t) where
    abbrev at : goal.add_item-In_ok-put t
    at = (goal.at.add_item-overflow_mul-inner t c).In_ok-put

    span : (x : Asked at) → c.span_at-span.result ≡ 1 + size (split (label at x) x.f).content
    span x = c.span_at-span.ensures.0 ∙ step-span x.f _ x.holds.used (short at) (counted at x)

    numbers : (1 ≤ c.span_at-span.result) × (place at + c.span_at-span.result ≤ records at)
    numbers = let x = asked at in omega (arith, span x, step-within x.f _ x.holds.used (short at) (counted at x))

    inner : (x : Asked at) → ArenaHolds c.args.equivalence (eqb c.args.item.now.kind record_kind) (take (length (arena at) - (type_size * place at + type_size)) (drop (type_size * place at + type_size) (arena at))) (c.span_at-span.result - 1) (records at + c.args.rest - place at - c.span_at-span.result) (split (label at x) x.f).content (encode (split (label at x) x.f).after ++ x.q) (counted at x).free
    inner x = step-holds x.f _ x.holds.used (short at) (counted at x) _ (span x) _ x.field x.holds.siblings

    abbrev material : Asked at → CountingType
    material x = times c.args.item.now.weight (raw c.args.equivalence (eqb c.args.item.now.kind record_kind) x.vs)

    abbrev low : List ℕ
    low = take (length (arena at) - (type_size * place at + type_size)) (drop (type_size * place at + type_size) (arena at))

    -- what is below it has been added
    same : (inside : List ℕ) → length inside ≡ length low → length (put_mid (type_size * place at + type_size) (length (arena at) - (type_size * place at + type_size)) (arena at) inside) ≡ length (arena at)
    same inside kept = same_len_mid (type_size * place at + type_size) (length (arena at) - (type_size * place at + type_size)) (arena at) inside kept

    abbrev Ran : Result ℕ NoRoom → List ℕ → Type 0
    Ran r inside = (x : Asked at) → Added (add Counting (material x) (split (label at x) x.f).content) (encode (split (label at x) x.f).after ++ x.q) (records at + c.args.rest - place at - c.span_at-span.result) r inside

    grown : (inside : List ℕ) (r : Result ℕ NoRoom) (size : ℕ) → r ≡ Ok size → Ran r inside → (x : Asked at) → Grown (add Counting (material x) (split (label at x) x.f).content) (encode (split (label at x) x.f).after ++ x.q) size inside
    grown inside r size is ran x = added-records _ _ _ inside _ _ is (ran x)

    small : (inside : List ℕ) (r : Result ℕ NoRoom) (size : ℕ) → length inside ≡ length low → r ≡ Ok size → Ran r inside → (size + 1 < 4294967296) × (type_size * place at + type_size ≤ length (arena at))
    small inside r size kept is ran = omega (arith, grown-length (grown inside r size is ran (asked at)), simp (length-take, length-drop) at kept, bound at)

pub add_item-returns-then-is_empty : goal.add_item-returns-then-is_empty
add_item-returns-then-is_empty t c field f q free h s vs r =
    let x : Asked (goal.at.add_item-returns-then-is_empty t c).In_ok-put = record { field = field; f = f; q = q; free = free; vs = vs; holds = h; starts = s; run = r } in
    (step-empty f _ h.used (short (goal.at.add_item-returns-then-is_empty t c).In_ok-put) (counted (goal.at.add_item-returns-then-is_empty t c).In_ok-put x) (payload (goal.at.add_item-returns-then-is_empty t c).In_ok-put x) refl _ (nothing-added _ _ (eqb-true (length c.args.item.now.below.now) 0 (sym c.is_empty.ensures ∙ c.if-is_empty.true)) r _ _), (counted (goal.at.add_item-returns-then-is_empty t c).In_ok-put x).place)

pub add_item-span_at-span-requires : goal.add_item-span_at-span-requires
add_item-span_at-span-requires t c = omega (arith, bound (goal.at.add_item-span_at-span-requires t c).In_ok-put)

pub add_item-overflow_mul-inner : goal.add_item-overflow_mul-inner
add_item-overflow_mul-inner t c = omega (arith, bound (at c))

pub add_item-overflow_add-inner : goal.add_item-overflow_add-inner
add_item-overflow_add-inner t c = omega (arith, bound (at c))

pub add_item-overflow_add-behind : goal.add_item-overflow_add-behind
add_item-overflow_add-behind t c = let s = (goal.at.add_item-overflow_add-behind t c).After-span_at-span in omega (arith, bound (at s), numbers s)

pub add_item-overflow_sub-behind : goal.add_item-overflow_sub-behind
add_item-overflow_sub-behind t c = let s = (goal.at.add_item-overflow_sub-behind t c).After-span_at-span in omega (arith, bound (at s), numbers s)

pub add_item-overflow_sub-behind-2 : goal.add_item-overflow_sub-behind-2
add_item-overflow_sub-behind-2 t c = let s = (goal.at.add_item-overflow_sub-behind-2 t c).After-span_at-span in omega (arith, bound (at s), numbers s)

pub add_item-overflow_sub-held : goal.add_item-overflow_sub-held
add_item-overflow_sub-held t c = let s = (goal.at.add_item-overflow_sub-held t c).After-span_at-span in omega (arith, numbers s)

pub add_item-slice_bounds-add_run-count : goal.add_item-slice_bounds-add_run-count
add_item-slice_bounds-add_run-count t c = let s = (goal.at.add_item-slice_bounds-add_run-count t c).After-span_at-span in omega (arith, bound (at s))

pub add_item-slice_bounds-add_run-start : goal.add_item-slice_bounds-add_run-start
add_item-slice_bounds-add_run-start t c = let s = (goal.at.add_item-slice_bounds-add_run-start t c).After-span_at-span in omega (arith, bound (at s))

pub add_item-add_run-requires : goal.add_item-add_run-requires
add_item-add_run-requires t c =
    let sp = (goal.at.add_item-add_run-requires t c).After-span_at-span in (
      omega (arith, c.decreases),
      (record { f = _; q = _; free = _; holds = inner sp (asked (at sp)) }, c.requires.1, simp (length-take, length-drop) (omega (arith, c.requires.2, same-arena (at sp), same-work (at sp))), c.requires.3, c.requires.4),
    )

pub add_item-returns-in_err-size : goal.add_item-returns-in_err-size
add_item-returns-in_err-size t c field f q free h o vs r =
    let s = (goal.at.add_item-returns-in_err-size t c).After-span_at-span in
    let i = at s in
    let x : Asked i = record { field = field; f = f; q = q; free = free; vs = vs; holds = h; starts = o; run = r } in
    let p = err_from_is_err_and c.from_residual-in_err-size.result c.from_residual-in_err-size.ensures.1 in
    rw p.1 (step-full f _ h.used (short i) (counted i x) _ (span s x) (payload i x) refl (add Counting (material s x)) c.add_run.new.a (added_full _ _ _ c.add_run.new.a _ _ c.in_err-size.was (c.add_run.ensures _ _ _ vs (inner s x) r)))

pub add_item-overflow_add-size : goal.add_item-overflow_add-size
add_item-overflow_add-size t c =
    let s = (goal.at.add_item-overflow_add-size t c).After-span_at-span in
    omega (arith, small s _ _ _ c.add_run.auto.a c.in_ok-size.was (λ x. c.add_run.ensures _ _ _ x.vs (inner s x) x.run), bound (at s))

pub add_item-store_span-requires : goal.add_item-store_span-requires
add_item-store_span-requires t c =
    let s = (goal.at.add_item-store_span-requires t c).After-span_at-span in
    omega (arith, small s _ _ _ c.add_run.auto.a c.in_ok-size.was (λ x. c.add_run.ensures _ _ _ x.vs (inner s x) x.run), same s _ c.add_run.auto.a)

pub add_item-overflow_add-result : goal.add_item-overflow_add-result
add_item-overflow_add-result t c =
    let s = (goal.at.add_item-overflow_add-result t c).After-span_at-span in
    omega (arith, small s _ _ _ c.add_run.auto.a c.in_ok-size.was (λ x. c.add_run.ensures _ _ _ x.vs (inner s x) x.run), numbers s, bound (at s))

pub add_item-overflow_add-result-2 : goal.add_item-overflow_add-result-2
add_item-overflow_add-result-2 t c =
    let s = (goal.at.add_item-overflow_add-result-2 t c).After-span_at-span in
    omega (arith, small s _ _ _ c.add_run.auto.a c.in_ok-size.was (λ x. c.add_run.ensures _ _ _ x.vs (inner s x) x.run), numbers s, bound (at s))

pub add_item-overflow_sub-result : goal.add_item-overflow_sub-result
add_item-overflow_sub-result t c =
    let s = (goal.at.add_item-overflow_sub-result t c).After-span_at-span in
    omega (arith, small s _ _ _ c.add_run.auto.a c.in_ok-size.was (λ x. c.add_run.ensures _ _ _ x.vs (inner s x) x.run), numbers s, bound (at s))

pub add_item-returns : goal.add_item-returns
add_item-returns t c field f q free h o vs r =
    let s = (goal.at.add_item-returns t c).After-span_at-span in
    let i = at s in
    let x : Asked i = record { field = field; f = f; q = q; free = free; vs = vs; holds = h; starts = o; run = r } in
    (step-grown f _ h.used (short i) (counted i x) _ (span s x) (payload i x) refl (add Counting (material s x)) _ _ _ (grown s _ _ _ c.in_ok-size.was (λ x. c.add_run.ensures _ _ _ x.vs (inner s x) x.run) x) c.store_span.ensures, (counted i x).place)

module _ {t : ℕ} where
  -- fields that stand in the arena have been counted
  module _ (c : goal.add_run-After-count_standing-standing t) where
    abbrev next : ℕ
    next = c.count_standing-standing.result.next

    abbrev arena-at : List ℕ
    arena-at = c.count_standing-standing.new.a

    same-arena-at : length arena-at ≡ length c.args.a.now
    same-arena-at = c.count_standing-standing.auto.a ∙ c.loop-i.invariant.1

    ran : (f : CountingType) (q free : List ℕ) (vs : Values) → ArenaHolds c.args.equivalence c.args.field c.args.a.now c.args.n c.args.rest f q free → TableRun c.args.field c.args.t.now vs → AddedSoFar c.args.equivalence c.args.field c.args.weight vs f q arena-at c.args.t.now c.loop-i.m next c.count_standing-standing.result.from
    ran f q free vs h r = c.count_standing-standing.ensures.1 c.args.equivalence vs f q c.args.rest h.used (c.loop-i.invariant.3 f q free vs h r)

    one : AddedSoFar c.args.equivalence c.args.field c.args.weight c.requires.1.values c.requires.0.f c.requires.0.q arena-at c.args.t.now c.loop-i.m next c.count_standing-standing.result.from
    one = let g = c.requires.0 in ran g.f g.q g.free c.requires.1.values g.holds c.requires.1.run

  -- the item behind them
  module _ (c : goal.add_run-Else-end-i t) where
    abbrev standing : goal.add_run-After-count_standing-standing t
    standing = (goal.at.add_run-read_item-kind-requires t c).After-count_standing-standing

    abbrev table-short : length c.args.t.now ≤ 65536
    table-short = c.requires.1.run.short

    more : record_size * next standing < length c.args.t.now
    more = omega (arith, c.loop-i.invariant.0, c.if-end-i.false)

    room : record_size * next standing + record_size ≤ length c.args.t.now
    room = let v = ran_first (one standing) table-short more in omega (arith, v.within, v.span-is)

  -- the order of its numbers
  module _ (c : goal.add_run-After-read_item-kind t) where
    abbrev behind : goal.add_run-Else-end-i t
    behind = (goal.at.add_run-overflow_mul-stop t c).Else-end-i

    abbrev order : (c.read_item-kind.result.start ≤ record_size * c.read_item-kind.result.next) × (record_size * c.read_item-kind.result.next ≤ length c.args.t.now) × (next (standing behind) < c.read_item-kind.result.next) × (record_size * next (standing behind) ≤ c.read_item-kind.result.start)
    order = turn-order (one (standing behind)) (table-short behind) (more behind) c.read_item-kind.ensures

  -- the values that equal it
  module _ (c : goal.add_run-After-equal_values-more t) where
    abbrev item : goal.add_run-Else-end-i t
    item = (goal.at.add_run-overflow_add-w t c).Else-end-i

    abbrev weight : ℕ
    weight = c.args.weight * (1 + c.equal_values-more.result)

    weighed : let x = c.read_item-kind.result in Weighed weight (take (record_size * x.next - x.start) (drop x.start c.args.t.now))
    weighed = turn-weighed (one (standing item)) (table-short item) (more item) c.read_item-kind.ensures c.equal_values-more.result c.equal_values-more.ensures.equal c.requires.3

    few : 1 + c.equal_values-more.result ≤ weight
    few = turn-few (one (standing item)) (table-short item) (more item) c.read_item-kind.ensures c.equal_values-more.result c.equal_values-more.ensures.equal

  -- what is said of the siblings after it
  module _ (c : goal.add_run-After-add_item t) where
    abbrev found : ℕ
    found = c.count_standing-standing.result.next

    same-siblings : length c.count_standing-standing.new.a ≡ length c.args.a.now
    same-siblings = c.count_standing-standing.auto.a ∙ c.loop-i.invariant.1

    ran-before : (f : CountingType) (q free : List ℕ) (vs : Values) → ArenaHolds c.args.equivalence c.args.field c.args.a.now c.args.n c.args.rest f q free → TableRun c.args.field c.args.t.now vs → AddedSoFar c.args.equivalence c.args.field c.args.weight vs f q c.count_standing-standing.new.a c.args.t.now c.loop-i.m found c.count_standing-standing.result.from
    ran-before f q free vs h r = c.count_standing-standing.ensures.1 c.args.equivalence vs f q c.args.rest h.used (c.loop-i.invariant.3 f q free vs h r)

    more-before : record_size * found < length c.args.t.now
    more-before = omega (arith, c.loop-i.invariant.0, c.if-end-i.false)

    added : (f : CountingType) (q free : List ℕ) (vs : Values) (h : ArenaHolds c.args.equivalence c.args.field c.args.a.now c.args.n c.args.rest f q free) (r : TableRun c.args.field c.args.t.now vs) → let x = ran-before f q free vs h r in let under-item = below x r.short more-before c.read_item-kind.ensures in let kind = c.read_item-kind.result.kind in let key = c.read_item-kind.result.key in AddedAt (with_item c.args.equivalence kind key (c.args.weight * (1 + c.equal_values-more.result)) under-item x.g) (size (split (label_for c.args.equivalence kind key under-item) x.g).before) q c.args.rest c.add_item.result c.add_item.new.a
    added f q free vs h r =
        let x = ran-before f q free vs h r in
        c.add_item.ensures c.args.field x.g q x.free (ran-holds x _ h.used (omega (arith, h.short, same-siblings))) x.starts _ (below-run x r.short more-before c.read_item-kind.ensures)

    short-arena : length c.add_item.new.a ≤ 65536
    short-arena = omega (arith, c.requires.0.holds.short, same-siblings, c.add_item.auto.a)

    same-work-at : length c.add_item.new.work ≡ length c.args.work.now
    same-work-at = c.add_item.auto.work ∙ c.loop-i.invariant.2

pub add_run-read_item-kind-requires : goal.add_run-read_item-kind-requires
add_run-read_item-kind-requires t c = room c

pub add_run-overflow_add-w : goal.add_run-overflow_add-w
add_run-overflow_add-w t c = omega (arith, (weighed c).small, few c)

pub add_run-loop-i-init : goal.add_run-loop-i-init
add_run-loop-i-init t c = (refl, refl, refl, λ f q free vs h r. ran-start h r c.requires.3.some)

pub add_run-returns-then-end-i : goal.add_run-returns-then-end-i
add_run-returns-then-end-i t c f q free vs h r =
    ran-end (ran (goal.at.add_run-returns-then-end-i t c).After-count_standing-standing f q free vs h r) (omega (arith, c.loop-i.invariant.0, c.if-end-i.true, whole-records _ vs r.bytes))

pub add_run-equal_values-more-requires : goal.add_run-equal_values-more-requires
add_run-equal_values-more-requires t c = ((order c).2, (order c).1)

pub add_run-overflow_mul-stop : goal.add_run-overflow_mul-stop
add_run-overflow_mul-stop t c = omega (arith, order c, c.requires.1.run.short)

pub add_run-add_item-requires : goal.add_run-add_item-requires
add_run-add_item-requires t c =
    let i = (goal.at.add_run-add_item-requires t c).Else-end-i in
    let g = c.requires in
    let x = one (standing i) in (
      rw c.decreases at (turn-measure x (table-short i) (more i) c.read_item-kind.ensures),
      (
        record { field = _; f = x.g; q = g.0.q; free = x.free; holds = ran-holds x _ g.0.holds.used (omega (arith, g.0.holds.short, same-arena-at (standing i))); starts = x.starts },
        record { values = _; run = below-run x (table-short i) (more i) c.read_item-kind.ensures },
        omega (arith, same-arena-at (standing i), c.loop-i.invariant.2, g.2),
        weighed (goal.at.add_run-add_item-requires t c).After-equal_values-more,
        turn-fits x (table-short i) (more i) c.read_item-kind.ensures g.4,
      ),
    )

pub add_run-returns-in_err-put : goal.add_run-returns-in_err-put
add_run-returns-in_err-put t c f q free vs h r =
    let k = (goal.at.add_run-returns-in_err-put t c).After-add_item in
    let p = err_from_is_err_and c.from_residual.result c.from_residual.ensures.1 in
    rw p.1 (turn-full (ran-before k f q free vs h r) r.short (more-before k) c.read_item-kind.ensures c.equal_values-more.result c.equal_values-more.ensures.equal _ _ _ c.in_err-put.was (added k f q free vs h r))

pub add_run-resume_at-from-requires : goal.add_run-resume_at-from-requires
add_run-resume_at-from-requires t c =
    let k = (goal.at.add_run-resume_at-from-requires t c).After-add_item in
    let g = c.requires in
    turn-room (ran-before k g.0.f g.0.q g.0.free g.1.values g.0.holds g.1.run) g.1.run.short (more-before k) c.read_item-kind.ensures
    c.equal_values-more.result c.equal_values-more.ensures.equal _ _ _ c.in_ok-put.was (added k g.0.f g.0.q g.0.free g.1.values g.0.holds g.1.run) (short-arena k)

pub add_run-loop-i-preserved : goal.add_run-loop-i-preserved
add_run-loop-i-preserved t c =
    let k = (goal.at.add_run-loop-i-preserved t c).After-add_item in (
      c.loop-i.invariant.0,
      c.add_item.auto.a ∙ same-siblings k,
      same-work-at k,
      λ f q free vs h r.
          turn-added (ran-before k f q free vs h r) r.short (more-before k) c.read_item-kind.ensures c.equal_values-more.result c.equal_values-more.ensures.equal _ _ _ c.in_ok-put.was (added k f q free vs h r) (short-arena k)
          h.used _ c.resume_at-from.ensures,
    )

pub add_run-returns : goal.add_run-returns
add_run-returns t c f q free vs h r =
    let v = c.loop-i.invariant in
    ran-end (v.3 f q free vs h r) (omega (arith, v.0, c.loop-i-test.false, whole-records _ vs r.bytes))
