-- Messages are taken into their slots one after the other, and what waits in a slot is added to the arena.
use mathlib.Core.Path.{◌≡◌, refl, sym, ◌∙◌, ap}
use mathlib.Core.Bool.{false}
use mathlib.Core.List.{List, [], ◌∷◌}
use mathlib.Core.Option.{Option}
use Prim.Native.Nat.{ℕ, zero, suc, ◌+◌, ◌*◌, ◌≤◌, ◌<◌}
use native.Mathlib.Nat.{one-mul, add-mul}
use native.Mathlib.Omega.{arith}
use lib.ListN.{length, get_or, set}
use Rattle.value_table.specs.Value.{record_size, max_length, span_at, Values}
use Rattle.value_table.specs.Judged.{messages}
use Rattle.counting_theory.specs.Payload.{Payload}
use Rattle.counting_theory.specs.Trie.{◌⊞◌ as join_option, lookup, size, add, Sorted}
use Rattle.counting_theory.specs.Inside.TrieLaws.{append}
use Rattle.counting_theory.specs.Label.{Label, Counting, CountingType}
use Rattle.counting_theory.specs.declared.equivalence.Equivalence.{Equivalence}
use Rattle.counting_theory.specs.Raw.{raw, profile_of}
use Rattle.counting_theory.specs.Encoding.{type_size}
use Rattle.counting_theory.proofs.Label.{counting-laws}
use Rattle.counting_theory.proofs.Trie.Join.{⊞-none, ⊞-comm, ⊞-assoc, ⊞-left-comm}
use Rattle.counting_theory.proofs.Trie.Lookup.{lookup-add, lookup-append}
use Rattle.counting_theory.proofs.Trie.Sorted.{sorted-add, sorted-profile}
use Rattle.counting_theory.proofs.Trie.Canonical.{canonical}
use Rattle.counting_theory.proofs.Trie.Profile.{lookup-profile}
use Rattle.counting_theory.proofs.Trie.Growth.{add-grows}
use Rattle.std.specs.Prelude.{Result, Ok, Err}
use Rattle.type_arena.specs.declared.record_store.NoRoom.{NoRoom}
use Rattle.inference.specs.Inside.Inferring.{InferredSiblings, ArenaHolds, Grown, Added}
use Rattle.gathering.specs.Inside.Gathering.{slot_start, slot_count, message_at, message_raw, slot_raw, waiting, SameMessage, MessageAt, Waits, Slot, Slots, Gathering, GatheredTo}
use Rattle.inference.proofs.InPlace.Runs.{FirstValue, first_of, whole-records}
use Rattle.inference.proofs.InPlace.Material.{times-siblings}
use Rattle.gathering.proofs.Waiting.Messages.{message-is, message-at, same-message-at}
use Rattle.gathering.proofs.Waiting.Slots.{slot-gives, waiting-gives, message-gives, waiting-more, waiting-replaced, slot-more, slot-first, slot-empty}

infixr 66 ◌⊞◌
abbrev ◌⊞◌ : Option Payload → Option Payload → Option Payload
x ⊞ y = join_option Counting x y

-- what f has, and what r gives beside it, is all that the messages give
module _ (e : Equivalence) (ms : Values) (f : CountingType) (sorted : Sorted Counting f) where
  pub within-profile : (r : CountingType) → ((p : List Label) → lookup Counting f p ⊞ lookup Counting r p ≡ lookup Counting (raw e false ms) p) → size f ≤ size (profile_of e ms)
  unfolding profile_of
  within-profile r h =
      let g : add Counting r f ≡ profile_of e ms =
      canonical counting-laws (sorted-add counting-laws r f sorted) (sorted-profile counting-laws (raw e false ms))
      (λ p. lookup-add counting-laws r f p ∙ ⊞-comm counting-laws (lookup Counting r p) (lookup Counting f p) ∙ h p ∙ sym (lookup-profile counting-laws (raw e false ms) p)) in
      omega (arith, (add-grows counting-laws r f).sizes, ap size g)

  pub is-profile : ((p : List Label) → lookup Counting f p ≡ lookup Counting (raw e false ms) p) → f ≡ profile_of e ms
  unfolding profile_of
  is-profile h = canonical counting-laws sorted (sorted-profile counting-laws (raw e false ms)) (λ p. h p ∙ sym (lookup-profile counting-laws (raw e false ms) p))

-- the slots, as more of the table has been read, and with one of them set
pub slot-later : {t : List ℕ} {i j first count : ℕ} → i ≤ j → Waits t i first count → Waits t j first count
slot-later h x = record { start = omega (arith, x.start); few = omega (arith, x.few); bound = omega (arith, x.bound); message = x.message }

slots_set : {t : List ℕ} {i : ℕ} (slots : List ℕ) (k v : ℕ) → Slots t i slots → Slot t i v → Slots t i (set slots k v)
slots_set [] k v s x q l = absurd (omega arith)
slots_set (u ∷ slots) zero v s x zero l = x
slots_set (u ∷ slots) zero v s x (suc q) l = s (suc q) l
slots_set (u ∷ slots) (suc k) v s x zero l = s 0 (omega arith)
slots_set (u ∷ slots) (suc k) v s x (suc q) l = slots_set slots k v (λ r h. s (suc r) (omega arith)) x q (omega arith)

-- what waits in a slot keeps the order of f
pub added-sibling : (e : Equivalence) (t : List ℕ) (i n : ℕ) (f : CountingType) → (1 ≤ n → MessageAt t i) → InferredSiblings e false f → InferredSiblings e false (add Counting (message_raw e t i n) f)
unfolding message_raw add
added-sibling e t i zero f m s = s
added-sibling e t i (suc n) f m s =
    let r = (m (omega arith)).run in
    times-siblings e false r.as_fields r.depth (message_at t i) r.valid (omega (arith, r.short, whole-records _ (message_at t i) r.bytes)) r.fields (suc n) (omega arith) f s

pub regroup : (s f w l : Option Payload) → (s ⊞ f) ⊞ (w ⊞ l) ≡ f ⊞ ((s ⊞ w) ⊞ l)
regroup s f w l =
    ⊞-assoc counting-laws s f (w ⊞ l) ∙ ⊞-left-comm counting-laws s f (w ⊞ l) ∙ ap (λ x. f ⊞ x) (sym (⊞-assoc counting-laws s w l))

module _ {e : Equivalence} {t a : List ℕ} {m i : ℕ} {slots : List ℕ} (g : Gathering e t a m i slots) where
  -- the arena once it holds r more; `rest` has taken the place of the slots
  pub grown-holds : (r : CountingType) (k : ℕ) (b : List ℕ) → length b ≤ max_length → InferredSiblings e false (add Counting r g.f) → (h : Grown (add Counting r g.f) [] k b) →
      ArenaHolds e false b k 0 (add Counting r g.f) [] h.free
  grown-holds r k b short s h = record { bytes = h.bytes; count = h.count; used = refl; short = short; siblings = s }

  pub added-same : (v : ℕ) (rest : List ℕ) (l : List Label → Option Payload) (p : List Label) → slot-gives e t p v ⊞ waiting-gives e t p rest ≡ waiting-gives e t p slots →
      lookup Counting (add Counting (slot_raw e t v) g.f) p ⊞ (waiting-gives e t p rest ⊞ l p) ≡ lookup Counting g.f p ⊞ (waiting-gives e t p slots ⊞ l p)
  added-same v rest l p h =
      ap (λ x. x ⊞ (waiting-gives e t p rest ⊞ l p)) (lookup-add counting-laws (slot_raw e t v) g.f p)
      ∙ regroup (slot-gives e t p v) (lookup Counting g.f p) (waiting-gives e t p rest) (l p)
      ∙ ap (λ x. lookup Counting g.f p ⊞ (x ⊞ l p)) h

  -- no room for what waits in a slot is no room for the profile
  pub slot-full : (v : ℕ) (rest b : List ℕ) → ((p : List Label) → slot-gives e t p v ⊞ waiting-gives e t p rest ≡ waiting-gives e t p slots) →
      length b < type_size * (size (add Counting (slot_raw e t v) g.f) + 0) → length b < type_size * size (profile_of e (messages t))
  slot-full v rest b h l =
      let r = append (waiting e t rest) (raw e false g.left) in
      let f = add Counting (slot_raw e t v) g.f in
      omega (
        arith,
        within-profile e (messages t) f (sorted-add counting-laws (slot_raw e t v) g.f g.holds.siblings.sorted) r
            (λ p. ap (λ x. lookup Counting f p ⊞ x) (lookup-append counting-laws (waiting e t rest) (raw e false g.left) p)
            ∙ added-same v rest (lookup Counting (raw e false g.left)) p (h p) ∙ g.same p),
      )

  module _ (short : length t ≤ max_length) (more : record_size * i < length t) where
    first : FirstValue false 1 t i g.left
    first = first_of false 1 t i short g.left more g.left-bytes g.valid

    pub here : MessageAt t i
    here = message-at short first

    -- the message at record i, and those behind it
    left-gives : (p : List Label) → lookup Counting (raw e false g.left) p ≡ message-gives e t p i ⊞ lookup Counting (raw e false first.next) p
    unfolding raw lookup join_option
    left-gives p =
        let v = first in
        ap (λ vs. lookup Counting (raw e false vs) p) v.is-value
        ∙ rw (message-is short v, ⊞-none counting-laws) refl

    -- the message at hand waits in slots that give it beside what was there; f and the arena stay, or have got the rest
    taken : (slots' : List ℕ) → Slots t (i + span_at t i) slots' → ((p : List Label) → waiting-gives e t p slots' ≡ message-gives e t p i ⊞ waiting-gives e t p slots) →
        Gathering e t a m (i + span_at t i) slots'
    taken slots' s h =
        record {
          f = g.f;
          free = g.free;
          left = first.next;
          holds = g.holds;
          left-bytes = first.in-next;
          valid = first.next-valid;
          held = s;
          same = λ p.
              let w = waiting-gives e t p slots in
              let n = message-gives e t p i in
              let l = lookup Counting (raw e false first.next) p in
              ap (λ x. lookup Counting g.f p ⊞ (x ⊞ l)) (h p)
              ∙ ap (λ x. lookup Counting g.f p ⊞ x) (⊞-assoc counting-laws n w l ∙ ⊞-left-comm counting-laws n w l ∙ ap (λ x. w ⊞ x) (sym (left-gives p)))
              ∙ g.same p;
        }

    later : Slots t (i + span_at t i) slots
    later q l = slot-later (omega arith) (g.held q l)

    module _ (k : ℕ) (inside : k < length slots) where
      abbrev v : ℕ
      v = get_or slots k 0

      abbrev x : Slot t i v
      x = g.held k inside

      -- it is like those in its slot
      pub taken-same : SameMessage t (slot_start v) i → Gathering e t a m (i + span_at t i) (set slots k (v + 8192))
      taken-same z =
          let s : slot_start (v + 8192) ≡ slot_start v = omega arith in
          let c : slot_count (v + 8192) ≡ slot_count v + 1 = omega arith in
          let b : (slot_count v + 1) * span_at t (slot_start v) ≡ slot_count v * span_at t (slot_start v) + span_at t (slot_start v) =
          add-mul (slot_count v) 1 (span_at t (slot_start v)) ∙ ap (λ y. slot_count v * span_at t (slot_start v) + y) (one-mul (span_at t (slot_start v))) in
          let new : Slot t (i + span_at t i) (v + 8192) =
          record {
            start = omega (arith, x.start);
            few = omega (arith, x.few, here.some);
            bound = rw (s, c) (omega (arith, b, x.bound, z.0));
            message = λ h. rw s (same-message-at z x.start here);
          } in
          taken (set slots k (v + 8192)) (slots_set slots k (v + 8192) later new)
          (λ p. waiting-more e t p slots k (v + 8192) (message-gives e t p i) inside
          (slot-more e t p v ∙ ap (λ y. slot-gives e t p v ⊞ lookup Counting (raw e false (messages y)) p) z.1))

      begun : i < 8192 → Slot t (i + span_at t i) (i + 8192)
      begun small =
          let s : slot_start (i + 8192) ≡ i = omega arith in
          let c : slot_count (i + 8192) ≡ 1 = omega arith in
          record { start = omega arith; few = omega (arith, here.some); bound = rw (s, c) (omega (arith, one-mul (span_at t i))); message = λ h. rw s here }

      -- what waited in its slot has been added
      taken-added : i < 8192 → (r : ℕ) (a' : List ℕ) → length a' ≤ max_length → Grown (add Counting (slot_raw e t v) g.f) [] r a' →
          Gathering e t a' r (i + span_at t i) (set slots k (i + 8192))
      taken-added small r a' l h =
          let s = added-sibling e t (slot_start v) (slot_count v) g.f x.message g.holds.siblings in
          record {
            f = add Counting (slot_raw e t v) g.f;
            free = h.free;
            left = first.next;
            holds = grown-holds (slot_raw e t v) r a' l s h;
            left-bytes = first.in-next;
            valid = first.next-valid;
            held = slots_set slots k (i + 8192) later (begun small);
            same = λ p.
                let w = waiting-gives e t p slots in
                let n = message-gives e t p i in
                let o = lookup Counting (raw e false first.next) p in
                ap (λ y. y ⊞ (waiting-gives e t p (set slots k (i + 8192)) ⊞ o)) (lookup-add counting-laws (slot_raw e t v) g.f p)
                ∙ regroup (slot-gives e t p v) (lookup Counting g.f p) (waiting-gives e t p (set slots k (i + 8192))) o
                ∙ ap (λ y. lookup Counting g.f p ⊞ (y ⊞ o)) (waiting-replaced e t p slots k (i + 8192) inside ∙ ap (λ y. y ⊞ w) (slot-first e t p i small))
                ∙ ap (λ y. lookup Counting g.f p ⊞ y) (⊞-assoc counting-laws n w o ∙ ⊞-left-comm counting-laws n w o ∙ ap (λ y. w ⊞ y) (sym (left-gives p)))
                ∙ g.same p;
          }

      taken-full : (a' : List ℕ) → length a' < type_size * (size (add Counting (slot_raw e t v) g.f) + 0) → length a' < type_size * size (profile_of e (messages t))
      unfolding join_option
      taken-full a' h = slot-full v (set slots k 0) a' (λ p. waiting-replaced e t p slots k 0 inside ∙ rw (slot-empty e t p 0 (omega arith)) refl) h

      pub taken-to : i < 8192 → (r : Result ℕ NoRoom) (a' : List ℕ) → length a' ≤ max_length → Added (add Counting (slot_raw e t v) g.f) [] 0 r a' →
          GatheredTo e t (i + span_at t i) r a' (set slots k (i + 8192))
      taken-to small (Ok r) a' l h = taken-added small r a' l h
      taken-to small (Err _) a' l h = taken-full a' h
