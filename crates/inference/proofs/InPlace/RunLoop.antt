-- A run of values is added, one item after the other.
use mathlib.Core.Path.{◌≡◌, refl, sym, ◌∙◌, ap}
use mathlib.Core.Bool.{Bool, true, false, cond, true≢false}
use mathlib.Core.List.{List, ◌++◌}
use Prim.Native.Nat.{ℕ, suc, ◌+◌, ◌-◌, ◌*◌, ◌^◌, ◌≤◌, ◌<◌}
use native.Mathlib.Nat.{mul-one, mul_assoc, mul_comm, mul-add, mul-pos, one-mul, mul-le-mul_left, mul-le-mul_right, le_trans}
use native.Mathlib.Omega.{arith}
use lib.Dec.{eqb}
use lib.ListN.{length, take, drop, length-take, length-drop}
use borrow.Author.Tests.{eqb-true, ne_eqb}
use Rattle.value_table.specs.Value.{Head, record_size, max_length, record_kind, span_at, Values, none, value, keys, encode, ValidAt}
use Rattle.value_table.specs.Value as table
use Rattle.inference.specs.declared.inferring.Item.{Item}
use Rattle.inference.specs.declared.placing.Put.{Put}
use Rattle.std.specs.Prelude.{Result, Ok, Err}
use Rattle.type_arena.specs.declared.record_store.NoRoom.{NoRoom}
use Rattle.counting_theory.specs.Payload.{one, one_field, copies}
use Rattle.counting_theory.specs.Trie.{nil, node, size, add}
use Rattle.counting_theory.specs.Inside.TrieLaws.{append}
use Rattle.counting_theory.specs.Label.{field_kind, Counting, CountingType}
use Rattle.counting_theory.specs.declared.equivalence.Equivalence.{Equivalence}
use Rattle.counting_theory.specs.Raw.{ascending, class_of, raw}
use Rattle.counting_theory.specs.Encoding.{type_size}
use Rattle.counting_theory.specs.Encoding as bytes
use Rattle.type_arena.specs.Inside.Arena.{RecordIn}
use Rattle.counting_theory.specs.Inside.Times.{times}
use Rattle.type_arena.specs.Inside.Payload.{item_payload}
use Rattle.inference.specs.Inside.Inferring.{TableRun, KeysFit, InferredSiblings, ArenaHolds, Starts, split, Grown, AddedAt, label_for, with_item, Weighed, ItemAt, EqualRecords, resumed}
use Rattle.inference.specs.Inside.ScalarFields.{AddedSoFar}
use Rattle.counting_theory.proofs.Label.{counting-laws}
use Rattle.counting_theory.proofs.Trie.Growth.{add-grows}
use Rattle.counting_theory.proofs.Tagged.Parts.{listed-field}
use Rattle.inference.proofs.InPlace.Runs.{FirstValue, first_of, none_left}
use Rattle.inference.proofs.InPlace.Splits.{insert-split}
use Rattle.inference.proofs.InPlace.Seeking.{starts-resumed}
use Rattle.inference.proofs.InPlace.Items.{insert-size}
use Rattle.inference.proofs.InPlace.AddItem.{grown-length}
use Rattle.inference.proofs.InPlace.Material.{times-siblings}
use Rattle.inference.proofs.InPlace.Words.{part-fits}
use Rattle.inference.proofs.InPlace.Repeats.{Copied, copied, add-copies}

-- the values below an item: a field's value by itself, or a value's content
abbrev item_below : Bool → Head → ℕ → Values → Values
item_below field head key content = cond field (value head key content none) content

-- what an item gives, by its kind
item-payload : (w : ℕ) (head : Head) (content below : Values) → head.kind ≤ 6 →
    (field : Bool) → below ≡ cond field below content → copies w (cond field one_field (one head content)) ≡ item_payload w (cond field field_kind head.kind) below
item-payload w head content below h true e = refl
item-payload w head content below h false e = rw (ne_eqb head.kind field_kind (λ z. omega arith), e) refl

raw-item : (e : Equivalence) (field : Bool) (head : Head) (key : ℕ) (content next : Values) →
    let k = cond field field_kind head.kind in let below = item_below field head key content in
    raw e field (value head key content next) ≡ node (label_for e k (cond field key 0) below) (cond field one_field (one head content)) (raw e (eqb k record_kind) below) (raw e field next)
unfolding raw
raw-item e true head key content next =
    ap (λ ks. node (record { kind = field_kind; key = key; keys = ks }) one_field (node (class_of e head.kind content) (one head content) (raw e (eqb head.kind record_kind) content) nil) (raw e true next))
    (sym (listed-field e (ascending (keys (value head key content none)))))
raw-item e false head key content next = refl

times-item : (e : Equivalence) (field : Bool) (w : ℕ) (head : Head) (key : ℕ) (content next : Values) → head.kind ≤ 6 →
    let k = cond field field_kind head.kind in let below = item_below field head key content in
    times w (raw e field (value head key content next)) ≡ node (label_for e k (cond field key 0) below) (item_payload w k below) (times w (raw e (eqb k record_kind) below)) (times w (raw e field next))
unfolding times
times-item e field w head key content next h =
    let k = cond field field_kind head.kind in
    let below = item_below field head key content in
    ap (times w) (raw-item e field head key content next)
    ∙ ap (λ n. node (label_for e k (cond field key 0) below) n (times w (raw e (eqb k record_kind) below)) (times w (raw e field next))) (item-payload w head content below h field (same field))
  where
    same : (o : Bool) → item_below o head key content ≡ cond o (item_below o head key content) content
    same true = refl
    same false = refl

bit-small : (o : Bool) → cond o 1 0 ≤ 1
bit-small true = omega arith
bit-small false = omega arith

module _ {e : Equivalence} {field : Bool} {w : ℕ} {vs : Values} {f : CountingType} {q t : List ℕ} where
  pub ran-start : {a free : List ℕ} {n rest : ℕ} → ArenaHolds e field a n rest f q free → TableRun field t vs → 1 ≤ w → AddedSoFar e field w vs f q a t n 0 0
  unfolding append size
  ran-start {free = free} h r o =
      record {
        as_fields = r.as_fields;
        depth = r.depth;
        left = vs;
        g = f;
        free = free;
        left-bytes = r.bytes;
        valid = r.valid;
        fields = r.fields;
        held = h.bytes;
        count = h.count;
        siblings = h.siblings;
        starts = record { first = nil; last = f; whole = refl; count = refl };
        some = o;
        same = refl;
      }

  module _ {a : List ℕ} {m i from : ℕ} (x : AddedSoFar e field w vs f q a t m i from) where
    pub ran-holds : (rest : ℕ) → length q ≡ type_size * rest → length a ≤ max_length → ArenaHolds e field a m rest x.g q x.free
    ran-holds rest u short = record { bytes = x.held; count = x.count; used = u; short = short; siblings = x.siblings }

    pub ran-end : length t ≤ record_size * i → Grown (add Counting (times w (raw e field vs)) f) q m a
    unfolding raw times add
    ran-end h =
        let z : x.g ≡ add Counting (times w (raw e field vs)) f = rw (none_left t i x.left h x.left-bytes) at x.same in
        record { count = x.count ∙ ap size z; free = x.free; bytes = x.held ∙ ap (λ g. bytes.encode g ++ (q ++ x.free)) z }

    module _ (short : length t ≤ max_length) (more : record_size * i < length t) where
      pub ran_first : FirstValue x.as_fields x.depth t i x.left
      ran_first = first_of x.as_fields x.depth t i short x.left more x.left-bytes x.valid

      module _ {item : Item} (y : ItemAt field t i item) where
        abbrev pub v : FirstValue x.as_fields x.depth t i x.left
        v = ran_first

        abbrev pub below : Values
        below = item_below field v.head v.key v.content

        item-kind : item.kind ≡ cond field field_kind v.head.kind
        item-kind = y.kind-is ∙ ap (cond field field_kind) v.kind-is

        item-key : item.key ≡ cond field v.key 0
        item-key = y.key-is ∙ ap (λ k. cond field k 0) v.key-is

        material : (k : ℕ) → times k (raw e field (value v.head v.key v.content none))
            ≡ node (label_for e item.kind item.key below) (item_payload k item.kind below) (times k (raw e (eqb item.kind record_kind) below)) (times k (raw e field none))
        material k = rw (item-kind, item-key) (times-item e field k v.head v.key v.content none v.proper.kind-high)

        -- the part of the table below the item
        pub turn-order : (item.start ≤ record_size * item.next) × (record_size * item.next ≤ length t) × (i < item.next) × (record_size * i ≤ item.start)
        turn-order = by_field field y.start_is
          where
            by_field : (o : Bool) → item.start ≡ cond o (record_size * i) (record_size * (i + 1)) →
                (item.start ≤ record_size * item.next) × (record_size * item.next ≤ length t) × (i < item.next) × (record_size * i ≤ item.start)
            by_field true z = omega (arith, y.next-is, v.within, v.span-is)
            by_field false z = omega (arith, y.next-is, v.within, v.span-is)

        below_by : (o : Bool) → field ≡ o → item.kind ≡ cond o field_kind v.head.kind → item.start ≡ cond o (record_size * i) (record_size * (i + 1)) →
            TableRun (eqb item.kind record_kind) (take (record_size * item.next - item.start) (drop item.start t)) (item_below o v.head v.key v.content)
        unfolding ValidAt
        below_by true f k z =
            let n : record_size * item.next - item.start ≡ record_size * span_at t i = omega (arith, y.next-is) in
            rw k (record {
              bytes = rw (n, z) v.alone;
              short = simp (length-take, length-drop) (omega arith);
              as_fields = x.as_fields;
              depth = x.depth;
              valid = (v.proper, v.content-valid, tt);
              fields = λ o. absurd (true≢false (sym o));
              distinct = λ o. absurd (true≢false (sym o));
            })
        below_by false f k z =
            let n : record_size * item.next - item.start ≡ record_size * table.size v.content = omega (arith, y.next-is, v.span-is) in
            rw k (record {
              bytes = rw (n, z) v.in-content;
              short = simp (length-take, length-drop) (omega arith);
              as_fields = eqb v.head.kind record_kind;
              depth = suc x.depth;
              valid = v.content-valid;
              fields = λ o. o;
              distinct = λ o. v.proper.distinct (eqb-true v.head.kind record_kind o);
            })

        pub below-run : TableRun (eqb item.kind record_kind) (take (record_size * item.next - item.start) (drop item.start t)) below
        below-run = below_by field refl item-kind y.start_is

        pub turn-fits : {words : Bool} → KeysFit words t → KeysFit words (take (record_size * item.next - item.start) (drop item.start t))
        turn-fits {words} h = by_field field y.start_is
          where
            by_field : (o : Bool) → item.start ≡ cond o (record_size * i) (record_size * (i + 1)) → KeysFit words (take (record_size * item.next - item.start) (drop item.start t))
            by_field true z = part-fits i item.next z turn-order.1 h
            by_field false z = part-fits (i + 1) item.next z turn-order.1 h

        measure-by : (o : Bool) → item.kind ≡ cond o field_kind v.head.kind → item.start ≡ cond o (record_size * i) (record_size * (i + 1)) →
            2 * (record_size * item.next - item.start) + cond (eqb item.kind record_kind) 1 0 < 2 * length t + cond o 1 0
        measure-by true k z = rw k (omega (arith, turn-order))
        measure-by false k z = omega (arith, turn-order, bit-small (eqb item.kind record_kind))

        -- less of the table is below it, or it is a field of which the value is next
        pub turn-measure : 2 * (2 * length (take (record_size * item.next - item.start) (drop item.start t)) + cond (eqb item.kind record_kind) 1 0) + 1 < 2 * (2 * length t + cond field 1 0)
        turn-measure = simp (length-take, length-drop) (omega (arith, turn-order, measure-by field item-kind y.start_is))

        -- n more values follow that equal it, and are added with it
        module _ (n : ℕ) (z : EqualRecords t i item.next ((item.next - i) * n)) where
          abbrev heavy : ℕ
          heavy = w * (1 + n)

          heavy-some : 1 ≤ heavy
          heavy-some = mul-pos {m = w} {n = 1 + n} (omega (arith, x.some)) (omega arith)

          pub turn-few : 1 + n ≤ heavy
          turn-few = rw (one-mul (1 + n)) at (mul-le-mul_right (1 + n) x.some)

          next-is : item.next ≡ i + (1 + table.size v.content)
          next-is = y.next-is ∙ ap (λ k. i + k) v.span-is

          span-is : item.next - i ≡ 1 + table.size v.content
          span-is = omega (arith, next-is)

          again : Copied t short x.as_fields x.depth i v.head v.key v.content v.next n
          unfolding ValidAt
          again =
              copied t short x.as_fields x.depth n i v.head v.key v.content v.next (v.proper, v.content-valid, v.next-valid) (x.left-bytes ∙ ap encode v.is-value)
              (rw (span-is, next-is) at z)

          abbrev pub grown : CountingType
          grown = with_item e item.kind item.key heavy below x.g

          grown-is : add Counting (times heavy (raw e field (value v.head v.key v.content none))) x.g ≡ grown
          unfolding raw times add
          grown-is = ap (λ r. add Counting r x.g) (material heavy)

          few-records : table.size (value v.head v.key v.content none) < 2 ^ 32
          unfolding table.size
          few-records = omega (arith, v.within, v.span-is)

          grown-siblings : InferredSiblings e field grown
          unfolding ValidAt
          grown-siblings =
              rw grown-is at
              (times-siblings e field x.as_fields x.depth (value v.head v.key v.content none) (v.proper, v.content-valid, tt) few-records x.fields heavy heavy-some x.g x.siblings)

          grown-same : add Counting (times w (raw e field again.rest)) grown ≡ add Counting (times w (raw e field vs)) f
          grown-same =
              ap (add Counting (times w (raw e field again.rest))) (sym grown-is)
              ∙ sym (add-copies e field w v.head v.key v.content again.rest n x.g x.siblings.sorted)
              ∙ ap (λ us. add Counting (times w (raw e field (value v.head v.key v.content us))) x.g) (sym again.is-copies)
              ∙ ap (λ us. add Counting (times w (raw e field us)) x.g) (sym v.is-value)
              ∙ x.same

          pub turn-full : (rest p : ℕ) (a' : List ℕ) {r : Result Put NoRoom} {o : NoRoom} → r ≡ Err o → AddedAt grown p q rest r a' → length a' < type_size * (size (add Counting (times w (raw e field vs)) f) + rest)
          turn-full rest p a' is h =
              let k : length a' < type_size * (size grown + rest) = rw is at h in
              omega (arith, (add-grows counting-laws (times w (raw e field again.rest)) grown).sizes, ap size grown-same)

          turn-next : (p k : ℕ) (a' : List ℕ) → Grown grown q k a' → Starts p grown →
              AddedSoFar e field w vs f q a' t k (item.next + (item.next - i) * n) p
          turn-next p k a' h o =
              record {
                as_fields = x.as_fields;
                depth = x.depth;
                left = again.rest;
                g = grown;
                free = h.free;
                left-bytes = ap (λ k. drop (record_size * k) t) (ap (λ k. item.next + k * n) span-is ∙ ap (λ k. k + (1 + table.size v.content) * n) next-is) ∙ again.rest-bytes;
                valid = again.rest-valid;
                fields = x.fields;
                held = h.bytes;
                count = h.count;
                siblings = grown-siblings;
                starts = o;
                some = x.some;
                same = grown-same;
              }

          module _ (rest : ℕ) (put : Put) (a' : List ℕ) {r : Result Put NoRoom} (o : r ≡ Ok put)
              (h : AddedAt grown (size (split (label_for e item.kind item.key below) x.g).before) q rest r a') (small : length a' ≤ max_length) where
            abbrev p : ℕ
            p = put.at

            abbrev k : ℕ
            k = put.records

            placed : Grown grown q k a' × (p ≡ size (split (label_for e item.kind item.key below) x.g).before)
            placed = rw o at h

            -- the item has its record
            pub turn-room : RecordIn a' p
            turn-room = record { whole = omega (arith, grown-length placed.0, placed.0.count, insert-size (label_for e item.kind item.key below) (item_payload heavy item.kind below) (add Counting (times heavy (raw e (eqb item.kind record_kind) below))) x.g, placed.1); short = small }

            pub turn-added : length q ≡ type_size * rest → (from' : ℕ) → from' ≡ resumed field a' p k → AddedSoFar e field w vs f q a' t k (item.next + (item.next - i) * n) from'
            turn-added used from' z =
                let held : ArenaHolds e field a' k rest grown q placed.0.free = record { bytes = placed.0.bytes; count = placed.0.count; used = used; short = small; siblings = grown-siblings } in
                let here : Starts p grown = record { first = _; last = _; whole = insert-split _ (item_payload heavy item.kind below) _ x.g; count = placed.1 } in
                turn-next from' k a' placed.0 (rw z (starts-resumed held field p here))

          -- all of them are in the run
          heavy-bound : Weighed w t → heavy * (record_size * (item.next - i)) ≤ max_length
          heavy-bound h =
              let c = item.next - i in
              let a : heavy * (record_size * c) ≡ w * (record_size * (c * (1 + n))) = mul_assoc w (1 + n) (record_size * c) ∙ ap (λ k. w * k) (mul_comm (1 + n) (record_size * c) ∙ mul_assoc record_size c (1 + n)) in
              let b : c * (1 + n) ≡ c + c * n = mul-add c 1 n ∙ ap (λ k. k + c * n) (mul-one c) in
              let d : record_size * (c * (1 + n)) ≤ length t = omega (arith, b, z.within) in
              rw a (le_trans (mul-le-mul_left w d) h.bound)

          pub turn-weighed : Weighed w t → Weighed heavy (take (record_size * item.next - item.start) (drop item.start t))
          turn-weighed h =
              let c = item.next - i in
              let small : heavy * 1 ≤ heavy * (record_size * c) = mul-le-mul_left heavy (omega (arith, span-is)) in
              let part : length (take (record_size * item.next - item.start) (drop item.start t)) ≤ record_size * c = simp (length-take, length-drop) (omega (arith, turn-order)) in
              record {
                some = heavy-some;
                small = le_trans (rw (mul-one heavy) at small) (heavy-bound h);
                bound = le_trans (mul-le-mul_left heavy part) (heavy-bound h);
              }
