-- The search for a label among siblings, one sibling after the other.
use mathlib.Core.Path.{◌≡◌, refl, sym, ◌∙◌, ap}
use mathlib.Core.Bool.{Bool, true, false, cond, true≢false}
use mathlib.Core.List.{List, ◌++◌, append_assoc}
use Prim.Native.Nat.Ordering.{eq}
use Prim.Native.Nat.Ordering.{gt}
use Prim.Native.Nat.Ordering.{lt}
use Prim.Native.Nat.{ℕ, ◌+◌, ◌*◌, ◌≤◌, ◌<◌, Ordering}
use native.Mathlib.Nat.{add-zero}
use native.Mathlib.Decide.{dec_lt}
use native.Mathlib.Omega.{arith}
use lib.Dec.{ltb}
use lib.ListN.{length, drop}
use borrow.Author.Tests.{lt-ltb, le-ltb, ltb-true}
use Rattle.value_table.specs.Value.{max_length}
use Rattle.std.specs.Prelude.{Ok, Err}
use Rattle.counting_theory.specs.Payload.{Payload}
use Rattle.counting_theory.specs.Trie.{nil, node, size}
use Rattle.counting_theory.specs.Inside.TrieLaws.{append}
use Rattle.counting_theory.specs.Label.{Label, compare_label, CountingType}
use Rattle.counting_theory.specs.declared.equivalence.Equivalence.{Equivalence}
use Rattle.counting_theory.specs.Encoding.{type_size, type_span, encode}
use Rattle.type_arena.specs.Inside.Arena.{label_at, Labelled}
use Rattle.inference.specs.Inside.Inferring.{spot_here, spot, InferredSiblings, ArenaHolds, Starts, Ahead, resumed}
use Rattle.counting_theory.proofs.Trie.Profile.{append_assoc as forest-assoc}
use Rattle.counting_theory.proofs.Encoding.Header.{length-encode}
use Rattle.inference.proofs.InPlace.Part.{tail-drop}
use Rattle.inference.proofs.InPlace.Nodes.{node_in}
use Rattle.inference.proofs.InPlace.Append.{encode-append, size-append, siblings-next, siblings-last, AllBefore, all-before}

pub starts-zero : (f : CountingType) → Starts 0 f
unfolding append size
starts-zero f = record { first = nil; last = f; whole = refl; count = refl }

-- the siblings behind the first ones and one more
next-from : {f : CountingType} {at : ℕ} (first : CountingType) (k : Label) (c : Payload) (d t : CountingType) → f ≡ append first (node k c d t) → at ≡ size first + (1 + size d) → Starts at f
unfolding append size
next-from first k c d t whole count =
    record {
      first = append first (node k c d nil);
      last = t;
      whole = whole ∙ sym (forest-assoc first (node k c d nil) t);
      count = omega (arith, size-append first (node k c d nil));
    }

-- The siblings from record `at` on. A search among them gives what a search of all siblings f gives, unless it was resumed here and
-- the label comes before the sibling here.
pub record Seen (e : Equivalence) (a : List ℕ) (n : ℕ) (l : Label) (f : CountingType) (resumed : Bool) (at : ℕ) : Type 0 where
  pub field : Bool
  pub starts : Starts at f
  pub q : List ℕ
  pub bytes : drop (type_size * at) a ≡ encode starts.last ++ q
  pub count : at + size starts.last ≡ n
  pub siblings : InferredSiblings e field starts.last
  pub within : resumed ≡ true → at < n
  pub same : (resumed ≡ true → compare_label l (label_at e a at) ≡ lt → ⊥) → spot l at starts.last ≡ spot l 0 f

-- where it was not resumed, the label is ahead
pub seen-ahead : {e : Equivalence} {a : List ℕ} {n : ℕ} {l : Label} {f : CountingType} {at : ℕ} → Seen e a n l f false at → Ahead l f at
seen-ahead x = record { starts = x.starts; same = x.same (λ z. absurd (true≢false (sym z))) }

spot-skip : (l : Label) (at : ℕ) (f g : CountingType) → AllBefore l f → spot l at (append f g) ≡ spot l (at + size f) g
unfolding spot spot_here append size
spot-skip l at nil g b = rw add-zero
spot-skip l at (node k n c s) g b =
    let z : at + (1 + size c) + size s ≡ at + (1 + (size c + size s)) = omega arith in
    rw b.0 (spot-skip l (at + (1 + size c)) s g b.1 ∙ ap (λ i. spot l i g) z)

pub not-both : (o : Ordering) → o ≡ lt → (o ≡ eq → ⊥) × (o ≡ gt → ⊥)
not-both o z = (λ e. let y : ◌≡◌ {A = ℕ} 0 1 = cc in omega arith, λ e. let y : ◌≡◌ {A = ℕ} 0 1 = cc in omega arith)

module _ {e : Equivalence} {field : Bool} {a : List ℕ} {n rest : ℕ} {f : CountingType} {q free : List ℕ} (h : ArenaHolds e field a n rest f q free) where
  -- what is held behind the first siblings of f
  module _ (first last : CountingType) (whole : f ≡ append first last) (from : ℕ) (count : from ≡ size first) where
    pub from_bytes : drop (type_size * from) a ≡ encode last ++ (q ++ free)
    from_bytes =
        tail-drop a (encode first) (encode last ++ (q ++ free)) (type_size * from)
        (h.bytes ∙ ap (λ g. encode g ++ (q ++ free)) whole ∙ simp (encode-append, append_assoc)) (omega (arith, length-encode first))

    pub from-count : from + size last ≡ n
    from-count = omega (arith, h.count, ap size whole, size-append first last)

    from-siblings : InferredSiblings e field last
    from-siblings = siblings-last first (rw whole at h.siblings)

  next_start : (first last : CountingType) → f ≡ append first last → (from : ℕ) → from ≡ size first → from < n → Starts (from + type_span a from) f
  unfolding append size
  next_start first nil whole from count u = absurd (omega (arith, from-count first nil whole from count))
  next_start first (node k c d t) whole from count u =
      let s = from-siblings first (node k c d t) whole from count in
      let y = node_in a h.short from k c d t (q ++ free) s.numbers (from_bytes first (node k c d t) whole from count) in
      next-from first k c d t whole (omega (arith, y.span-is))

  -- at the end the first one follows again
  pub starts-again : {from p : ℕ} → Starts from f → 0 < n → p ≡ cond (ltb from n) from 0 → Starts p f × (p < n)
  starts-again {from} s u e = rw e (go (dec_lt from n))
    where
      go : Dec (from < n) → (Starts (cond (ltb from n) from 0) f × (cond (ltb from n) from 0 < n))
      go (yes v) = rw (lt-ltb from n v) (s, v)
      go (no v) = rw (le-ltb from n (omega arith)) (starts-zero f, u)

  pub starts-next : (from : ℕ) → Starts from f → from < n → Starts (from + type_span a from) f
  starts-next from s u = next_start s.first s.last s.whole from s.count u

  pub starts-resumed : (o : Bool) (from : ℕ) → Starts from f → Starts (resumed o a from n) f
  starts-resumed o from s = go o (ltb (from + type_span a from) n) refl
    where
      go : (o b : Bool) → ltb (from + type_span a from) n ≡ b → Starts (cond o (cond b (from + type_span a from) from) from) f
      go true true z = starts-next from s (omega (arith, ltb-true (from + type_span a from) n z))
      go true false z = s
      go false b z = s

module _ {e : Equivalence} {field : Bool} {a : List ℕ} {n rest : ℕ} {f : CountingType} {q free : List ℕ} (h : ArenaHolds e field a n rest f q free) (l : Label) where
  module _ (first last : CountingType) (whole : f ≡ append first last) (from : ℕ) (count : from ≡ size first) where
    from-same : AllBefore l first → spot l from last ≡ spot l 0 f
    from-same b =
        let z : 0 + size first ≡ from = omega arith in
        ap (λ i. spot l i last) (sym z) ∙ sym (spot-skip l 0 first last b) ∙ ap (spot l 0) (sym whole)

    -- the label is behind the first siblings if it does not come before the next one
    before_last : from < n → (compare_label l (label_at e a from) ≡ lt → ⊥) → (last : CountingType) → f ≡ append first last → drop (type_size * from) a ≡ encode last ++ (q ++ free) →
        from + size last ≡ n → InferredSiblings e field last → AllBefore l first
    unfolding size
    before_last u m nil z b w i = absurd (omega arith)
    before_last u m (node k c d t) z b w i =
        let label = (node_in a h.short from k c d t (q ++ free) i.numbers b).label_is e field i.tagged in
        all-before l first k c d t (rw z at h.siblings.sorted) (λ y. m (rw label y))

    first-before : from < n → (compare_label l (label_at e a from) ≡ lt → ⊥) → AllBefore l first
    first-before u m = before_last u m last whole (from_bytes h first last whole from count) (from-count h first last whole from count) (from-siblings h first last whole from count)

    seen-from : (resumed : Bool) → (resumed ≡ true → from < n) → (resumed ≡ false → AllBefore l first) → Seen e a n l f resumed from
    seen-from resumed u b =
        record { field = field; starts = record { first = first; last = last; whole = whole; count = count }; q = q ++ free; bytes = from_bytes h first last whole from count; count = from-count h first last whole from count; siblings = from-siblings h first last whole from count; within = u; same = λ m. from-same (go resumed u b m) }
      where
        go : (o : Bool) → (o ≡ true → from < n) → (o ≡ false → AllBefore l first) → (o ≡ true → compare_label l (label_at e a from) ≡ lt → ⊥) → AllBefore l first
        go true u b m = first-before (u refl) (m refl)
        go false u b m = b refl

  -- a search from where the label is ahead
  pub ahead-seen : {p : ℕ} → Ahead l f p → Seen e a n l f false p
  ahead-seen {p} x =
      let s = x.starts in
      record {
        field = field;
        starts = s;
        q = q ++ free;
        bytes = from_bytes h s.first s.last s.whole p s.count;
        count = from-count h s.first s.last s.whole p s.count;
        siblings = from-siblings h s.first s.last s.whole p s.count;
        within = λ z. absurd (true≢false (sym z));
        same = λ m. x.same;
      }

  -- a search from the first sibling on
  pub seen_start : Seen e a n l f false 0
  unfolding append size
  seen_start = seen-from nil f refl 0 refl false (λ z. absurd (true≢false (sym z))) (λ z. tt)

  -- one from a sibling that the label does not come before
  pub seen_at : {from : ℕ} → Starts from f → from < n → (compare_label l (label_at e a from) ≡ lt → ⊥) → Seen e a n l f false from
  seen_at {from} s u m =
      seen-from s.first s.last s.whole from s.count false (λ z. absurd (true≢false (sym z))) (λ z. first-before s.first s.last s.whole from s.count u m)

  -- one that is resumed at a sibling
  pub seen-there : {from : ℕ} → Starts from f → from < n → Seen e a n l f true from
  seen-there {from} s u = seen-from s.first s.last s.whole from s.count true (λ z. u) (λ z. absurd (true≢false z))

  -- one that is resumed, where it can be
  pub seen-resumed : {from : ℕ} → Starts from f → Seen e a n l f (ltb 0 (cond (ltb from n) from 0)) (cond (ltb from n) from 0)
  seen-resumed {from} s = go (dec_lt from n) (dec_lt 0 from)
    where
      go : Dec (from < n) → Dec (0 < from) → Seen e a n l f (ltb 0 (cond (ltb from n) from 0)) (cond (ltb from n) from 0)
      go (yes u) (yes v) = rw (lt-ltb from n u, lt-ltb 0 from v) (seen-there s u)
      go (yes u) (no v) = let z : from ≡ 0 = omega arith in rw (lt-ltb from n u, z) seen_start
      go (no u) w = rw (le-ltb from n (omega arith)) seen_start

-- a sibling where the search has come to
pub record Stop (e : Equivalence) (a : List ℕ) (n : ℕ) (l : Label) (f : CountingType) (resumed : Bool) (at : ℕ) : Type 0 where
  pub here : Labelled a at
  pub some : 1 ≤ type_span a at
  pub upto : at + type_span a at ≤ n
  pub equal : compare_label l (label_at e a at) ≡ eq → Ok at ≡ spot l 0 f
  pub less : compare_label l (label_at e a at) ≡ lt → resumed ≡ false → Err at ≡ spot l 0 f
  pub greater : compare_label l (label_at e a at) ≡ gt → Seen e a n l f false (at + type_span a at)

module _ {e : Equivalence} {a : List ℕ} {n : ℕ} {l : Label} {f : CountingType} {resumed : Bool} {at : ℕ} (short : length a ≤ max_length) (x : Seen e a n l f resumed at) where
  stop-at : at < n → (first g : CountingType) → f ≡ append first g → at ≡ size first → drop (type_size * at) a ≡ encode g ++ x.q → at + size g ≡ n → InferredSiblings e x.field g →
      ((resumed ≡ true → compare_label l (label_at e a at) ≡ lt → ⊥) → spot l at g ≡ spot l 0 f) → Stop e a n l f resumed at
  unfolding append size spot spot_here next-from
  stop-at u first nil whole count h z s m = absurd (omega arith)
  stop-at u first (node k c d t) whole count h z s m =
      let y = node_in a short at k c d t x.q s.numbers h in
      let label = y.label_is e x.field s.tagged in
      record {
        here = y.here;
        some = omega (arith, y.span-is);
        upto = omega (arith, y.span-is);
        equal = λ w. rw (rw label at w) at (m (λ r v. (not-both _ v).0 w));
        less = λ w r. rw (rw label at w) at (m (λ v. absurd (true≢false (sym v ∙ r))));
        greater = λ w. record {
          field = x.field;
          starts = next-from first k c d t whole (omega (arith, y.span-is));
          q = x.q;
          bytes = y.in-next;
          count = omega (arith, y.span-is);
          siblings = siblings-next s;
          within = λ v. absurd (true≢false (sym v));
          same = λ v. rw y.span-is (rw (rw label at w) at (m (λ r i. (not-both _ i).1 w)));
        };
      }

  pub stop : at < n → Stop e a n l f resumed at
  stop u = stop-at u x.starts.first x.starts.last x.starts.whole x.starts.count x.bytes x.count x.siblings x.same

  end-at : n ≤ at → (g : CountingType) → at + size g ≡ n → spot l at g ≡ spot l 0 f → Err at ≡ spot l 0 f
  unfolding size spot
  end-at u nil z m = m
  end-at u (node k c d t) z m = absurd (omega arith)

  pub seen_end : n ≤ at → Err at ≡ spot l 0 f
  seen_end u = end-at u x.starts.last x.count (x.same (λ r. absurd (omega (arith, x.within r))))
