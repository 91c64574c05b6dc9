-- Fields with a scalar, counted in place: searches by key alone and by kind alone, and what counting makes of the fields.
use mathlib.Core.Path.{◌≡◌, refl, sym, ◌∙◌, ap}
use mathlib.Core.Bool.{Bool, true, false}
use mathlib.Core.List.{List, [], ◌++◌}
use Prim.Native.Nat.Ordering.{eq}
use Prim.Native.Nat.Ordering.{gt}
use Prim.Native.Nat.Ordering.{lt}
use Prim.Native.Nat.{ℕ, ◌+◌, ◌*◌, ◌-◌, ◌≤◌, ◌<◌, Ordering}
use native.Mathlib.Nat.{mul-one}
use native.Mathlib.Decide.{dec_lt}
use native.Mathlib.Omega.{arith}
use lib.Dec.{eqb}
use lib.ListN.{length, take, drop}
use borrow.Author.Tests.{lt-ltb, le-ltb, ne_eqb}
use borrow.Rule.Slice.PartMut.{put_mid}
use Rattle.value_table.specs.Value.{record_size, max_length, record_kind, last_scalar, kind_at, key_at, span_at, Values, none, value, keys}
use Rattle.value_table.specs.Value as table
use Rattle.inference.specs.declared.inferring.Item.{Item}
use Rattle.std.specs.Prelude.{Ok}
use Rattle.type_arena.specs.Inside.Payload.{item_payload}
use Rattle.counting_theory.specs.Trie.{nil, node, size, insert, add}
use Rattle.counting_theory.specs.Inside.TrieLaws.{append}
use Rattle.counting_theory.specs.Label.{Label, field_kind, compare_label, Counting, CountingType}
use Rattle.counting_theory.specs.declared.equivalence.Equivalence.{Equivalence}
use Rattle.counting_theory.specs.Raw.{ascending, raw}
use Rattle.counting_theory.specs.Encoding.{type_size, type_kind, type_key, type_span, encode}
use Rattle.type_arena.specs.Inside.Arena.{label_at, RecordIn}
use Rattle.counting_theory.specs.Inside.Times.{times}
use Rattle.byte_records.specs.Inside.Numbers.{numbers_of}
use Rattle.inference.specs.Inside.Inferring.{StandsAt, ArenaHolds, Starts, split, grown, Counted, Grown, AddedAt, label_for, ItemAt, EqualRecords, resumed}
use Rattle.inference.specs.Inside.ScalarFields.{AddedSoFar, plain, field_start, BelowAt, with_scalar}
use Rattle.counting_theory.proofs.Label.{kind-eq, key-eq}
use Rattle.counting_theory.proofs.LabelOrder.{kind-less, kind-more, key_more, no_record}
use Rattle.counting_theory.proofs.Tagged.Parts.{listed-field, Shape, tagged-parts}
use Rattle.inference.proofs.InPlace.Append.{siblings-last}
use Rattle.inference.proofs.InPlace.Items.{label_is}
use Rattle.inference.proofs.InPlace.Nodes.{node_in}
use Rattle.inference.proofs.InPlace.Placing.{holds-length, here-as-is}
use Rattle.inference.proofs.InPlace.Seeking.{Seen, starts-zero, starts-next, from_bytes, from-count, seen_start, seen_at, stop, not-both}
use Rattle.inference.proofs.InPlace.Splits.{HereAt, here-at}
use Rattle.inference.proofs.InPlace.AddItem.{step-within, step-span, step-empty, step-holds, step_kept}
use Rattle.inference.proofs.InPlace.RunLoop.{ran_first, below, grown as grown_by, turn-room, turn-added}

-- a sibling where one starts: what is read there is its label
record SiblingAt (e : Equivalence) (field : Bool) (a : List ℕ) (n at : ℕ) : Type 0 where
  label : Label
  children : CountingType
  kind-is : type_kind a at ≡ label.kind
  key-is : type_key a at ≡ label.key
  shape : Shape e field label children
  here : RecordIn a at
  reach : (1 ≤ type_span a at) × (at + type_span a at ≤ n)

module _ {e : Equivalence} {field : Bool} {a : List ℕ} {n rest : ℕ} {f : CountingType} {q free : List ℕ} (h : ArenaHolds e field a n rest f q free) where
  sibling-in : (first last : CountingType) → f ≡ append first last → (at : ℕ) → at ≡ size first → at < n → SiblingAt e field a n at
  unfolding size
  sibling-in first nil whole at count u = absurd (omega (arith, from-count h first nil whole at count))
  sibling-in first (node k c d t) whole at count u =
      let s = siblings-last first (rw whole at h.siblings) in
      let bytes = from_bytes h first (node k c d t) whole at count in
      let y = node_in a h.short at k c d t (q ++ free) s.numbers bytes in
      record { label = k; children = d; kind-is = y.kind-is; key-is = y.key-is; shape = (tagged-parts e field k c d t s.tagged).0; here = record { whole = y.here.whole; short = h.short }; reach = omega (arith, y.span-is, from-count h first (node k c d t) whole at count) }

  sibling-at : {at : ℕ} → Starts at f → at < n → SiblingAt e field a n at
  sibling-at {at} s u = sibling-in s.first s.last s.whole at s.count u

  pub table_at : {at : ℕ} → Starts at f → at < n → RecordIn a at
  table_at s u = (sibling-at s u).here

  pub reach-at : {at : ℕ} → Starts at f → at < n → (1 ≤ type_span a at) × (at + type_span a at ≤ n)
  reach-at s u = (sibling-at s u).reach

module _ {e : Equivalence} {a : List ℕ} {n rest : ℕ} {f : CountingType} {q free : List ℕ} {at : ℕ} where
  pub field-kind : ArenaHolds e true a n rest f q free → Starts at f → at < n → field_kind ≡ type_kind a at
  field-kind h s u = let x = sibling-at h s u in sym (x.kind-is ∙ kind-eq x.shape)

  pub union-key : ArenaHolds e false a n rest f q free → Starts at f → at < n → 0 ≡ type_key a at
  union-key h s u = let x = sibling-at h s u in sym (x.key-is ∙ key-eq x.shape.tagged)

-- a label without a key list against that of the record at p
module _ (e : Equivalence) (b : List ℕ) (p kind key : ℕ) where
  abbrev compared : Ordering
  compared = compare_label (plain e kind key) (label_at e b p)

  pub plain-kind-less : kind < type_kind b p → compared ≡ lt
  unfolding label_at
  plain-kind-less h = sym (kind-less (plain e kind key) (label_at e b p) h)

  pub plain-kind-greater : type_kind b p < kind → compared ≡ gt
  unfolding label_at
  plain-kind-greater h = sym (kind-more (plain e kind key) (label_at e b p) h)

  pub plain-key-greater : kind ≡ type_kind b p → type_key b p < key → compared ≡ gt
  unfolding label_at
  plain-key-greater ek h = sym (key_more (plain e kind key) (label_at e b p) ek h)

pub plain-equal : (e : Equivalence) (b : List ℕ) (p kind key : ℕ) → kind ≡ type_kind b p → key ≡ type_key b p → (kind ≡ record_kind → ⊥) → compare_label (plain e kind key) (label_at e b p) ≡ eq
unfolding label_at
plain-equal e b p kind key ek ey m = sym (no_record e ek ey _ _ m)

-- where a search has come to, and what it has seen
pub record Begun (e : Equivalence) (b : List ℕ) (n : ℕ) (l : Label) (f : CountingType) (at : ℕ) : Type 0 where
  pub seen : Seen e b n l f false at
  pub starts : Starts at f

pub begun_first : {e : Equivalence} {field : Bool} {b : List ℕ} {n rest : ℕ} {f : CountingType} {q free : List ℕ} → ArenaHolds e field b n rest f q free → (l : Label) → Begun e b n l f 0
begun_first {f = f} h l = record { seen = seen_start h l; starts = starts-zero f }

module _ (e : Equivalence) {b : List ℕ} {n rest : ℕ} {f : CountingType} {q free : List ℕ} (h : ArenaHolds e true b n rest f q free) (key : ℕ) where
  abbrev wanted_field : Label
  wanted_field = plain e field_kind key

  module _ {from : ℕ} (s : Starts from f) where
    no_less : from < n → type_key b from ≤ key → compare_label wanted_field (label_at e b from) ≡ lt → ⊥
    no_less u z = go (dec_lt (type_key b from) key)
      where
        go : Dec (type_key b from < key) → compare_label wanted_field (label_at e b from) ≡ lt → ⊥
        go (yes v) y = (not-both _ y).1 (plain-key-greater e b from field_kind key (field-kind h s u) v)
        go (no v) y = (not-both _ y).0 (plain-equal e b from field_kind key (field-kind h s u) (omega arith) (λ w. omega arith))

    pub begun-start : Begun e b n wanted_field f (field_start b from n key)
    begun-start = go (dec_lt from n) (dec_lt key (type_key b from))
      where
        go : Dec (from < n) → Dec (key < type_key b from) → Begun e b n wanted_field f (field_start b from n key)
        go (no u) v = rw (le-ltb from n (omega arith)) (begun_first h wanted_field)
        go (yes u) (yes v) = rw (lt-ltb from n u, lt-ltb key (type_key b from) v) (begun_first h wanted_field)
        go (yes u) (no v) = rw (lt-ltb from n u, le-ltb key (type_key b from) (omega arith)) (record { seen = seen_at h wanted_field s u (no_less u (omega arith)); starts = s })

    -- the field stands at `from`
    pub key-stands : from < n → key ≡ type_key b from → StandsAt wanted_field f from
    key-stands u z =
        (stop h.short (seen_at h wanted_field s u (no_less u (omega arith))) u).equal (plain-equal e b from field_kind key (field-kind h s u) z (λ y. omega arith))

  -- what is behind a field with a smaller key, and where that has a smaller key too
  module _ {p next : ℕ} (x : BelowAt b n key f p) (is : next ≡ p + type_span b p) where
    pub starts-behind : Starts next f
    starts-behind = rw is (starts-next h p x.starts x.within)

    pub next-below : next < n → type_key b next < key → BelowAt b n key f next
    next-below u v = record { starts = starts-behind; within = u; below = v }

  -- a search goes on behind a field with a smaller key
  pub begun-behind : {p : ℕ} → BelowAt b n key f p → Begun e b n wanted_field f (p + type_span b p)
  begun-behind {p} x =
      let s = x.starts in
      let u = x.within in
      let seen = seen_at h wanted_field s u (no_less s u (omega (arith, x.below))) in
      record {
        seen = (stop h.short seen u).greater (plain-key-greater e b p field_kind key (field-kind h s u) x.below);
        starts = starts-next h p s u;
      }

-- a scalar as raw material
abbrev scalar : ℕ → ℕ → Values
scalar kind key = value (record { kind = kind }) key none none

scalar-material : (e : Equivalence) (kind key w : ℕ) (c : CountingType) → kind ≤ last_scalar →
    add Counting (times w (raw e (eqb field_kind record_kind) (scalar kind key))) c ≡ insert Counting (plain e kind 0) (item_payload w kind none) (add Counting nil) c
unfolding raw times add numbers_of ascending keys
scalar-material e kind key w c h = rw (ne_eqb kind field_kind (λ z. omega arith)) refl

field-label : (e : Equivalence) (key : ℕ) (vs : Values) → plain e field_kind key ≡ label_for e field_kind key vs
field-label e key vs = label_is e field_kind key 0 [] vs (listed-field e _ ∙ sym (listed-field e _))

-- the field at record p, its union, and both counted
module _ {e : Equivalence} {a : List ℕ} {n rest : ℕ} {f : CountingType} {q free : List ℕ} (h : ArenaHolds e true a n rest f q free) (key p : ℕ) (o : StandsAt (plain e field_kind key) f p) where
  abbrev l : Label
  l = plain e field_kind key

  abbrev union : CountingType
  union = (split l f).content

  pub field-here : HereAt (split l f) l 0 f p
  field-here = here-at l 0 p f o

  pub field-starts : Starts p f
  field-starts = record { first = _; last = _; whole = field-here.whole; count = omega (arith, field-here.spot_is) }

  pub uncounted : Counted (split l f) l field-here.held q p n a
  uncounted = here-as-is h l (split l f) p field-here

  pub union-span : type_span a p ≡ 1 + size union
  union-span = step-span f rest h.used h.short uncounted

  pub field_bound : (p + type_span a p ≤ n) × (1 ≤ type_span a p) × (type_size * n ≤ length a) × (length a ≤ max_length)
  field_bound = omega (arith, union-span, step-within f rest h.used h.short uncounted, holds-length h, h.short)

  module _ (s : ℕ) (es : s ≡ type_span a p) where
    pub union-holds : ArenaHolds e false (take (length a - (type_size * p + type_size)) (drop (type_size * p + type_size) a)) (s - 1) (n + rest - p - s) union (encode (split l f).after ++ q) uncounted.free
    union-holds = step-holds f rest h.used h.short uncounted s (es ∙ union-span) e true h.siblings

    module _ (w kind : ℕ) {b : List ℕ} (y : Counted (split l f) l (grown (split l f).payload (item_payload w field_kind (scalar kind key))) q p n b) (short : length b ≤ max_length) where
      pub counted-union : ArenaHolds e false (take (length b - (type_size * p + type_size)) (drop (type_size * p + type_size) b)) (s - 1) (n + rest - p - s) union (encode (split l f).after ++ q) y.free
      counted-union = step-holds f rest h.used short y s (es ∙ union-span) e true h.siblings

      module _ (low : kind ≤ last_scalar) {i : ℕ} {z : List ℕ} (k : Counted (split (plain e kind 0) union) (plain e kind 0) (grown (split (plain e kind 0) union).payload (item_payload w kind none)) (encode (split l f).after ++ q) i (s - 1) z) (small : length z ≤ max_length) where
        abbrev more : CountingType → CountingType
        more = add Counting (times w (raw e (eqb field_kind record_kind) (scalar kind key)))

        union-grown : Grown (more union) (encode (split l f).after ++ q) (s - 1) z
        unfolding add
        union-grown =
            rw (scalar-material e kind key w union low)
            (step-empty union (n + rest - p - s) counted-union.used small k (item_payload w kind none) refl (add Counting nil) (λ c. refl))

        pub scalar-counted : Grown (with_scalar e key kind w f) q n (put_mid (type_size * p + type_size) (length b - (type_size * p + type_size)) b z)
        scalar-counted =
            rw (field-label e key (scalar kind key)) at
            (step_kept f rest h.used short y s (es ∙ union-span) (item_payload w field_kind (scalar kind key)) refl more z union-grown)

-- one field of a run is counted
module _ {e : Equivalence} {w : ℕ} {vs : Values} {f : CountingType} {q a t : List ℕ} {n i from : ℕ} (x : AddedSoFar e true w vs f q a t n i from)
    (short : length t ≤ max_length) (more : record_size * i < length t) (plain_kind : kind_at t i ≤ last_scalar) where
  abbrev item : Item
  item = record { kind = field_kind; key = key_at t i; start = record_size * i; next = i + span_at t i }

  item-at : ItemAt true t i item
  item-at = record { kind-is = refl; key-is = refl; start_is = refl; next-is = refl }

  no_copies : EqualRecords t i (i + span_at t i) ((i + span_at t i - i) * 0)
  no_copies = record { within = omega (arith, (ran_first x short more).within); same = λ k u. absurd (omega arith) }

  none_in : (ran_first x short more).content ≡ none
  none_in = (ran_first x short more).proper.scalar (omega (arith, (ran_first x short more).kind-is))

  module _ (rest p : ℕ) (b : List ℕ) (g : Grown (with_scalar e (key_at t i) (kind_at t i) w x.g) q n b) (o : p ≡ size (split (plain e field_kind (key_at t i)) x.g).before) (small : length b ≤ max_length) where
    added : AddedAt (grown_by x short more item-at 0 no_copies) (size (split (label_for e field_kind (key_at t i) (below x short more item-at)) x.g).before) q rest (Ok (record { at = p; records = n })) b
    added =
        let v = ran_first x short more in
        let same : below x short more item-at ≡ scalar (kind_at t i) (key_at t i) = rw (v.kind-is, v.key-is, none_in) refl in
        (rw (same, mul-one w) g, o ∙ ap (λ l. size (split l x.g).before) (field-label e (key_at t i) _))

    pub scalar-room : RecordIn b p
    scalar-room = turn-room x short more item-at 0 no_copies rest (record { at = p; records = n }) b refl added small

    pub scalar-turn : length q ≡ type_size * rest → AddedSoFar e true w vs f q b t n (i + 1) (resumed true b p n)
    unfolding table.size
    scalar-turn used =
        let one : span_at t i ≡ 1 = (ran_first x short more).span-is ∙ ap (λ c. 1 + table.size c) none_in in
        let next : i + span_at t i + (i + span_at t i - i) * 0 ≡ i + 1 = omega arith in
        rw next at (turn-added x short more item-at 0 no_copies rest (record { at = p; records = n }) b refl added small used _ refl)

-- nothing has changed but where a search may begin
pub ran-from : {e : Equivalence} {field : Bool} {w : ℕ} {vs : Values} {f : CountingType} {q a t : List ℕ} {n i from : ℕ} (x : AddedSoFar e field w vs f q a t n i from) (p : ℕ) (b : List ℕ) → b ≡ a → Starts p x.g →
    AddedSoFar e field w vs f q b t n i p
ran-from x p b z s =
    record {
      as_fields = x.as_fields;
      depth = x.depth;
      left = x.left;
      g = x.g;
      free = x.free;
      left-bytes = x.left-bytes;
      valid = x.valid;
      fields = x.fields;
      held = z ∙ x.held;
      count = x.count;
      siblings = x.siblings;
      starts = s;
      some = x.some;
      same = x.same;
    }
