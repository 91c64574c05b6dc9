-- `fold_addend` and `fold_run` meet their contracts.
use mathlib.Core.Path.{◌≡◌, refl, sym, ap, subst, ◌∙◌}
use mathlib.Core.List.{List, ◌++◌}
use Prim.Native.Nat.{ℕ, ◌+◌, ◌*◌, ◌-◌, ◌≤◌, ◌<◌}
use native.Mathlib.Nat.{le_refl}
use native.Mathlib.Omega.{arith}
use lib.Dec.{eqb}
use lib.ListN.{length, take, drop, length-take, length-drop}
use borrow.Author.Tests.{eqb-true, eqb-false}
use borrow.Rule.Slice.PartMut.{put_mid, same_len_mid}
use Rattle.std.proofs.Common.{Result, Ok}
use Rattle.std.proofs.lemmas.Result.{err_from_is_err_and}
use Rattle.value_table.specs.Value.{record_kind}
use Rattle.type_arena.specs.declared.record_store.NoRoom.{NoRoom}
use Rattle.folding.specs.declared.pass.Folded.{Folded}
use Rattle.folding.specs.declared.pass.Placed.{Placed}
use Rattle.counting_theory.specs.Trie.{size, add}
use Rattle.counting_theory.specs.Label.{Counting, CountingType}
use Rattle.counting_theory.specs.declared.equivalence.Equivalence.TheVariants.{Kind as by_kind}
use Rattle.counting_theory.specs.Encoding.{type_size, type_payload, type_span, encode, type_of}
use Rattle.type_arena.specs.Inside.Addend.{body, Coded}
use Rattle.inference.specs.Inside.Inferring.{grown, ArenaHolds, Starts, split, Counted, Grown}
use Rattle.folding.specs.Inside.Folding.{HeldAt, Inside, start_inside, first_label, with_first, FoldedRun, FoldedFirst}
use Rattle.type_arena.proofs.FirstAddend.{Addend, addend, headed, body-rest}
use Rattle.inference.proofs.InPlace.AddItem.{step-length, step-within, step-span, step-holds, step-empty, step-full, step-grown, grown-length}
use Rattle.inference.proofs.InPlace.Splits.{insert-split}
use Rattle.folding.proofs.OnBytes.Starts.{start-inside, inside-zero, inside_found}
use Rattle.folding.proofs.OnBytes.RunAdded.{RanTo, run-full, run-records, ran-start, ran-holds, ran-end, ran-full, ran-next}
use Rattle.folding.proofs.OnBytes.FirstAdded.{placed-first, inside-kind, coded-body, nothing-added, first_counted, first-full}
use Rattle.folding.proofs.pass.+fold_addend_fold_run.Goals as goal
use Rattle.folding.proofs.pass.+fold_addend_fold_run.Goals.{fold_addend-After-place, fold_addend-In_ok-put, fold_addend-Start, fold_run-In-loop-y}

module _ {t : ℕ} where
  -- What is known on the way through `fold_addend`: where its label was found, what stands inside the record there, and what was added.
  pub first : (s : goal.fold_addend-Start t) → Addend by_kind s.args.field s.args.x.now
  first s = addend s.requires.1 s.requires.2

  -- the label has its record
  module _ (c : goal.fold_addend-In_ok-put t) where
    abbrev pub Held : Type 0
    Held = HeldAt c.args.field c.args.a.now c.args.last.records c.args.rest c.args.last.at

    abbrev pub x : List ℕ
    x = c.args.x.now

    abbrev place : ℕ
    place = c.in_ok-put.put.at

    abbrev records : ℕ
    records = c.in_ok-put.put.records

    abbrev arena : List ℕ
    arena = c.place.new.a

    pub counted : (h : Held) → Counted (split (first_label x) h.f) (first_label x) (grown (split (first_label x) h.f).payload (type_payload x 0)) h.q place records arena
    counted h = first_counted x h.f h.q c.args.rest _ _ (placed-first c.args.x.now _ _ _ _ _ _ _ _ c.kind_at.ensures c.key_at.ensures c.payload_at-more.ensures (c.place.ensures c.args.field h.f h.q h.free h.holds (c.start_for-start.ensures _ h.f h.q h.free h.holds h.starts))) c.in_ok-put.put c.in_ok-put.was

    pub same-arena : length arena ≡ length c.args.a.now
    same-arena = c.place.auto.a

    pub short : length arena ≤ 65536
    short = omega (arith, c.requires.0.held.holds.short, same-arena)

    pub bound : (place + 1 ≤ records) × (type_size * (records + c.args.rest) ≤ length arena) × (length arena ≤ 65536)
    bound =
        let h = c.requires.0.held in
        omega (arith, short, step-within h.f _ h.holds.used short (counted h), step-length h.f _ h.holds.used short (counted h))

    -- where what stands inside it begins, and its bytes
    abbrev below-at : ℕ
    below-at = type_size * place + type_size

    abbrev below-bytes : List ℕ
    below-bytes = take (length arena - below-at) (drop below-at arena)

    -- the siblings inside, what is behind them, and how many records
    abbrev content : Held → CountingType
    content h = (split (first_label x) h.f).content

    abbrev pub behind : Held → List ℕ
    behind h = encode (split (first_label x) h.f).after ++ h.q

    abbrev pub in_use : ℕ → ℕ
    in_use span = records + c.args.rest - place - span

    abbrev Hint : Held → Type 0
    Hint h = Inside c.args.last.inside c.args.last.at h.f

    abbrev pub material : CountingType
    material = type_of by_kind (body x)

    -- its span is read
    module _ {span : ℕ} (e : span ≡ type_span arena place) where
      pub span-is : (h : Held) → span ≡ 1 + size (content h)
      span-is h = e ∙ step-span h.f _ h.holds.used short (counted h)

      pub numbers : (1 ≤ span) × (place + span ≤ records)
      numbers = let h = c.requires.0.held in omega (arith, span-is h, step-within h.f _ h.holds.used short (counted h))

      -- what is inside the record in the arena
      pub inner : (h : Held) → ArenaHolds by_kind (eqb c.kind_at.result record_kind) below-bytes (span - 1) (in_use span) (content h) (behind h) (counted h).free
      inner h =
          inside-kind x c.kind_at.ensures
          (step-holds h.f _ h.holds.used short (counted h) _ (span-is h) by_kind c.args.field h.holds.siblings)

      -- where the first search inside it begins
      pub begins : {begin : ℕ} → begin ≡ start_inside (eqb place c.args.last.at) c.args.last.inside (span - 1) → (h : Held) → Hint h → Starts begin (content h)
      begins b h i = rw b (start-inside (first_label x) _ h.f _ _ _ i (counted h).place (omega (arith, span-is h)))

      -- what is inside it has been added
      module _ {begin : ℕ} {below : List ℕ} (inside : List ℕ) (result : Result Folded NoRoom) (b : begin ≡ start_inside (eqb place c.args.last.at) c.args.last.inside (span - 1)) (w : below ≡ body x)
          (r : (f : CountingType) (q free : List ℕ) → ArenaHolds by_kind (eqb c.kind_at.result record_kind) below-bytes (span - 1) (in_use span) f q free → Starts begin f → FoldedRun (add Counting (type_of by_kind below) f) q (in_use span) result inside) where
        pub added : (h : Held) → Hint h → FoldedRun (add Counting material (content h)) (behind h) (in_use span) result inside
        added h i =
            subst (λ (y : List ℕ). FoldedRun (add Counting (type_of by_kind y) (content h)) (behind h) (in_use span) result inside) w
            (r _ _ _ (inner h) (begins b h i))

        pub stored : (h : Held) → Hint h → (k : Folded) → result ≡ Ok k → Grown (add Counting material (content h)) (behind h) k.records inside × Starts k.low (add Counting material (content h))
        stored h i k z = run-records _ (behind h) (in_use span) _ inside (added h i) k z

        pub small : length inside ≡ length below-bytes → (k : Folded) → result ≡ Ok k → (type_size * k.records ≤ length arena) × (below-at ≤ length arena)
        small n k z =
            let s = c.requires.0 in
            omega (arith, grown-length (stored s.held s.inside k z).0, simp (length-take, length-drop) at n, bound)

    -- the arena with these bytes inside the record
    pub same : (inside : List ℕ) → length inside ≡ length below-bytes → length (put_mid below-at (length arena - below-at) arena inside) ≡ length c.args.a.now
    same inside n = same_len_mid below-at (length arena - below-at) arena inside n ∙ same-arena

-- The needs of `fold_addend`.
pub fold_addend-kind_at-requires : goal.fold_addend-kind_at-requires
fold_addend-kind_at-requires t c = omega (arith, body-rest (first (goal.at.fold_addend-kind_at-requires t c).Start))

pub fold_addend-payload_at-more-requires : goal.fold_addend-payload_at-more-requires
fold_addend-payload_at-more-requires t c = omega (arith, body-rest (first (goal.at.fold_addend-payload_at-more-requires t c).Start))

pub fold_addend-key_at-requires : goal.fold_addend-key_at-requires
fold_addend-key_at-requires t c = omega (arith, body-rest (first (goal.at.fold_addend-key_at-requires t c).Start))

pub fold_addend-place-requires : goal.fold_addend-place-requires
fold_addend-place-requires t c =
    let h = c.requires.0.held in
    record { field = _; f = h.f; q = h.q; free = h.free; holds = h.holds; starts = c.start_for-start.ensures _ _ _ _ h.holds h.starts }

pub fold_addend-returns-in_err-put : goal.fold_addend-returns-in_err-put
fold_addend-returns-in_err-put t c f q free h s i =
    let p = err_from_is_err_and c.from_residual.result c.from_residual.ensures.1 in
    rw p.1 (first-full _ f q _ _ _ (placed-first c.args.x.now _ _ _ _ _ _ _ _ c.kind_at.ensures c.key_at.ensures c.payload_at-more.ensures (c.place.ensures c.args.field f q free h (c.start_for-start.ensures _ f q free h s))) _ c.in_err-put.was)

pub fold_addend-body_of-below-requires : goal.fold_addend-body_of-below-requires
fold_addend-body_of-below-requires t c = headed (first (goal.at.fold_addend-body_of-below-requires t c).Start)

pub fold_addend-returns-then-is_empty : goal.fold_addend-returns-then-is_empty
fold_addend-returns-then-is_empty t c f q free h s i =
    let o = (goal.at.fold_addend-returns-then-is_empty t c).In_ok-put in
    let k = counted o (record { f = f; q = q; free = free; holds = h; starts = s }) in
    let none : length (body c.args.x.now) ≡ 0 = sym (ap length c.body_of-below.ensures) ∙ eqb-true _ _ (sym c.is_empty.ensures ∙ c.if-is_empty.true) in
    (step-empty f _ h.used (short o) k (type_payload c.args.x.now 0) refl (add Counting (type_of by_kind (body c.args.x.now))) (nothing-added (body c.args.x.now) none), k.place, inside-zero _ _)

pub fold_addend-span_at-span-requires : goal.fold_addend-span_at-span-requires
fold_addend-span_at-span-requires t c = omega (arith, bound (goal.at.fold_addend-span_at-span-requires t c).In_ok-put)

pub fold_addend-overflow_mul-inner : goal.fold_addend-overflow_mul-inner
fold_addend-overflow_mul-inner t c = omega (arith, bound (goal.at.fold_addend-overflow_mul-inner t c).In_ok-put)

pub fold_addend-overflow_add-inner : goal.fold_addend-overflow_add-inner
fold_addend-overflow_add-inner t c = omega (arith, bound (goal.at.fold_addend-overflow_add-inner t c).In_ok-put)

pub fold_addend-overflow_add-behind : goal.fold_addend-overflow_add-behind
fold_addend-overflow_add-behind t c = omega (arith, bound (goal.at.fold_addend-overflow_add-behind t c).In_ok-put, numbers (goal.at.fold_addend-overflow_add-behind t c).In_ok-put c.span_at-span.ensures.0)

pub fold_addend-overflow_sub-behind : goal.fold_addend-overflow_sub-behind
fold_addend-overflow_sub-behind t c = omega (arith, bound (goal.at.fold_addend-overflow_sub-behind t c).In_ok-put, numbers (goal.at.fold_addend-overflow_sub-behind t c).In_ok-put c.span_at-span.ensures.0)

pub fold_addend-overflow_sub-behind-2 : goal.fold_addend-overflow_sub-behind-2
fold_addend-overflow_sub-behind-2 t c = omega (arith, bound (goal.at.fold_addend-overflow_sub-behind-2 t c).In_ok-put, numbers (goal.at.fold_addend-overflow_sub-behind-2 t c).In_ok-put c.span_at-span.ensures.0)

pub fold_addend-overflow_sub-held : goal.fold_addend-overflow_sub-held
fold_addend-overflow_sub-held t c = omega (arith, numbers (goal.at.fold_addend-overflow_sub-held t c).In_ok-put c.span_at-span.ensures.0)

pub fold_addend-slice_bounds-fold_run-count : goal.fold_addend-slice_bounds-fold_run-count
fold_addend-slice_bounds-fold_run-count t c = omega (arith, bound (goal.at.fold_addend-slice_bounds-fold_run-count t c).In_ok-put)

pub fold_addend-slice_bounds-fold_run-start : goal.fold_addend-slice_bounds-fold_run-start
fold_addend-slice_bounds-fold_run-start t c = omega (arith, bound (goal.at.fold_addend-slice_bounds-fold_run-start t c).In_ok-put)

pub fold_addend-fold_run-requires : goal.fold_addend-fold_run-requires
fold_addend-fold_run-requires t c =
    let o = (goal.at.fold_addend-fold_run-requires t c).In_ok-put in
    let h = c.requires.0 in
    let s = first (goal.at.fold_addend-fold_run-requires t c).Start in (
      omega (arith, c.decreases, ap length c.body_of-below.ensures, body-rest s),
      (
        record { f = _; q = _; free = _; holds = inner o c.span_at-span.ensures.0 h.held; starts = begins o c.span_at-span.ensures.0 c.start_inside-begin.ensures h.held h.inside },
        subst (λ (y : List ℕ). Coded by_kind (eqb c.kind_at.result record_kind) y) (sym c.body_of-below.ensures) (coded-body s (sym c.kind_at.ensures)),
      ),
    )

pub fold_addend-returns-in_err-folded : goal.fold_addend-returns-in_err-folded
fold_addend-returns-in_err-folded t c f q free h s i =
    let o = (goal.at.fold_addend-returns-in_err-folded t c).In_ok-put in
    let v : Held o = record { f = f; q = q; free = free; holds = h; starts = s } in
    let p = err_from_is_err_and c.from_residual-in_err-folded.result c.from_residual-in_err-folded.ensures.1 in
    rw p.1 (step-full f _ h.used (short o) (counted o v) _ (span-is o c.span_at-span.ensures.0 v) (type_payload c.args.x.now 0) refl (add Counting (material o)) c.fold_run.new.a
    (run-full _ (behind o v) (in_use o c.span_at-span.result) _ c.fold_run.new.a (added o c.span_at-span.ensures.0 _ _ c.start_inside-begin.ensures c.body_of-below.ensures c.fold_run.ensures v i) _ c.in_err-folded.was))

pub fold_addend-overflow_add-folded : goal.fold_addend-overflow_add-folded
fold_addend-overflow_add-folded t c = omega (arith, small (goal.at.fold_addend-overflow_add-folded t c).In_ok-put c.span_at-span.ensures.0 _ _ c.start_inside-begin.ensures c.body_of-below.ensures c.fold_run.ensures c.fold_run.auto.a _ c.in_ok-folded.was, bound (goal.at.fold_addend-overflow_add-folded t c).In_ok-put)

pub fold_addend-store_span-requires : goal.fold_addend-store_span-requires
fold_addend-store_span-requires t c = omega (arith, small (goal.at.fold_addend-store_span-requires t c).In_ok-put c.span_at-span.ensures.0 _ _ c.start_inside-begin.ensures c.body_of-below.ensures c.fold_run.ensures c.fold_run.auto.a _ c.in_ok-folded.was, same (goal.at.fold_addend-store_span-requires t c).In_ok-put c.fold_run.new.a c.fold_run.auto.a, same-arena (goal.at.fold_addend-store_span-requires t c).In_ok-put, bound (goal.at.fold_addend-store_span-requires t c).In_ok-put)

pub fold_addend-overflow_add-result : goal.fold_addend-overflow_add-result
fold_addend-overflow_add-result t c = omega (arith, small (goal.at.fold_addend-overflow_add-result t c).In_ok-put c.span_at-span.ensures.0 _ _ c.start_inside-begin.ensures c.body_of-below.ensures c.fold_run.ensures c.fold_run.auto.a _ c.in_ok-folded.was, numbers (goal.at.fold_addend-overflow_add-result t c).In_ok-put c.span_at-span.ensures.0, bound (goal.at.fold_addend-overflow_add-result t c).In_ok-put)

pub fold_addend-overflow_add-result-2 : goal.fold_addend-overflow_add-result-2
fold_addend-overflow_add-result-2 t c = omega (arith, small (goal.at.fold_addend-overflow_add-result-2 t c).In_ok-put c.span_at-span.ensures.0 _ _ c.start_inside-begin.ensures c.body_of-below.ensures c.fold_run.ensures c.fold_run.auto.a _ c.in_ok-folded.was, numbers (goal.at.fold_addend-overflow_add-result-2 t c).In_ok-put c.span_at-span.ensures.0, bound (goal.at.fold_addend-overflow_add-result-2 t c).In_ok-put)

pub fold_addend-overflow_sub-result : goal.fold_addend-overflow_sub-result
fold_addend-overflow_sub-result t c = omega (arith, small (goal.at.fold_addend-overflow_sub-result t c).In_ok-put c.span_at-span.ensures.0 _ _ c.start_inside-begin.ensures c.body_of-below.ensures c.fold_run.ensures c.fold_run.auto.a _ c.in_ok-folded.was, numbers (goal.at.fold_addend-overflow_sub-result t c).In_ok-put c.span_at-span.ensures.0, bound (goal.at.fold_addend-overflow_sub-result t c).In_ok-put)

pub fold_addend-returns : goal.fold_addend-returns
fold_addend-returns t c f q free h s i =
    let o = (goal.at.fold_addend-returns t c).In_ok-put in
    let v : Held o = record { f = f; q = q; free = free; holds = h; starts = s } in
    let w = stored o c.span_at-span.ensures.0 _ _ c.start_inside-begin.ensures c.body_of-below.ensures c.fold_run.ensures v i _ c.in_ok-folded.was in (
      step-grown f _ h.used (short o) (counted o v) _ (span-is o c.span_at-span.ensures.0 v) (type_payload c.args.x.now 0) refl (add Counting (material o)) _ _ _ w.0 c.store_span.ensures,
      (counted o v).place,
      inside_found _ _ _ _ (first_label c.args.x.now) _ _ _ (insert-split (first_label c.args.x.now) (type_payload c.args.x.now 0) (add Counting (material o)) f) (counted o v).place w.1,
    )

module _ {t : ℕ} where
  -- The needs of `fold_run`.
  -- a turn of the loop, in which something is left
  module _ (c : goal.fold_run-In-loop-y t) where
    -- the siblings that were there, of some type
    abbrev WereHeld : CountingType → List ℕ → List ℕ → Type 0
    WereHeld f q free = ArenaHolds by_kind c.args.field c.args.a.now c.args.n c.args.rest f q free

    ran : {f : CountingType} {q free : List ℕ} → WereHeld f q free → Starts c.args.start f → RanTo c.args.field c.args.x.now f q c.loop-y.a c.loop-y.y.now c.loop-y.last c.loop-y.low
    ran h s = c.loop-y.invariant.2 _ _ _ h s

    one : Coded by_kind c.args.field c.loop-y.y.now
    one = (ran c.requires.0.holds c.requires.0.starts).coded

    short-so-far : length c.loop-y.a ≤ 65536
    short-so-far = omega (arith, c.requires.0.holds.short, c.loop-y.invariant.0)

    -- its first addend or field has been added
    first-added : (result : Result Placed NoRoom) (a : List ℕ) → ((f : CountingType) (q free : List ℕ) → ArenaHolds by_kind c.args.field c.loop-y.a c.loop-y.last.records c.args.rest f q free → Starts c.loop-y.last.at f → Inside c.loop-y.last.inside c.loop-y.last.at f →
        FoldedFirst (with_first c.loop-y.y.now f) (size (split (first_label c.loop-y.y.now) f).before) q c.args.rest result a) → {f : CountingType} {q free : List ℕ} (h : WereHeld f q free) (s : Starts c.args.start f) →
        FoldedFirst (with_first c.loop-y.y.now (ran h s).g) (size (split (first_label c.loop-y.y.now) (ran h s).g).before) q c.args.rest result a
    first-added result a e h s =
        let r = ran h s in
        e r.g _ r.free (ran-holds r _ h.used short-so-far) r.starts r.inside

pub fold_run-loop-y-init : goal.fold_run-loop-y-init
fold_run-loop-y-init t c = (refl, le_refl _, λ f q free h s. ran-start h s c.requires.1)

pub fold_run-fold_addend-requires : goal.fold_run-fold_addend-requires
fold_run-fold_addend-requires t c =
    let some : 0 < length c.loop-y.y.now = omega (arith, eqb-false (length c.loop-y.y.now) 0 (sym c.is_empty.ensures ∙ c.loop-y-test.true)) in
    let o = (goal.at.fold_run-fold_addend-requires t c).In-loop-y in
    let h = c.requires.0 in
    let r = ran o h.holds h.starts in (
      omega (arith, c.decreases, c.loop-y.invariant.1),
      (
        record {
          held = record { f = r.g; q = _; free = r.free; holds = ran-holds r _ h.holds.used (short-so-far o); starts = r.starts };
          inside = r.inside;
        },
        r.coded,
        some,
      ),
    )

pub fold_run-returns-in_err-last : goal.fold_run-returns-in_err-last
fold_run-returns-in_err-last t c f q free h s =
    let some : 0 < length c.loop-y.y.now = omega (arith, eqb-false (length c.loop-y.y.now) 0 (sym c.is_empty.ensures ∙ c.loop-y-test.true)) in
    let o = (goal.at.fold_run-returns-in_err-last t c).In-loop-y in
    let p = err_from_is_err_and c.from_residual.result c.from_residual.ensures.1 in
    rw p.1 (ran-full (ran o h s) some _ _ _ _ c.in_err-last.was (first-added o _ _ c.fold_addend.ensures h s))

pub fold_run-rest_of-y-requires : goal.fold_run-rest_of-y-requires
fold_run-rest_of-y-requires t c =
    let some : 0 < length c.loop-y.y.now = omega (arith, eqb-false (length c.loop-y.y.now) 0 (sym c.is_empty.ensures ∙ c.loop-y-test.true)) in
    headed (addend (one (goal.at.fold_run-rest_of-y-requires t c).In-loop-y) some)

pub fold_run-loop-y-smaller : goal.fold_run-loop-y-smaller
fold_run-loop-y-smaller t c =
    let some : 0 < length c.loop-y.y.now = omega (arith, eqb-false (length c.loop-y.y.now) 0 (sym c.is_empty.ensures ∙ c.loop-y-test.true)) in
    omega (arith, ap length c.rest_of-y.ensures, body-rest (addend (one (goal.at.fold_run-loop-y-smaller t c).In-loop-y) some))

pub fold_run-loop-y-preserved : goal.fold_run-loop-y-preserved
fold_run-loop-y-preserved t c =
    let some : 0 < length c.loop-y.y.now = omega (arith, eqb-false (length c.loop-y.y.now) 0 (sym c.is_empty.ensures ∙ c.loop-y-test.true)) in
    let o = (goal.at.fold_run-loop-y-preserved t c).In-loop-y in (
      c.fold_addend.auto.a ∙ c.loop-y.invariant.0,
      omega (arith, ap length c.rest_of-y.ensures, body-rest (addend (one o) some), c.loop-y.invariant.1),
      λ f q free h s.
          ran-next (ran o h s) some _ _ _ c.in_ok-last.was (first-added o _ _ c.fold_addend.ensures h s) _ _ c.lowest_of-low.ensures _ c.rest_of-y.ensures,
    )

pub fold_run-returns : goal.fold_run-returns
fold_run-returns t c f q free h s = ran-end (c.loop-y.invariant.2 f q free h s) (eqb-true _ _ (sym c.is_empty.ensures ∙ c.loop-y-test.false))
