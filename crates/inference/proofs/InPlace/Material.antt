-- What is added of a run of values keeps siblings as inference makes them.
use mathlib.Core.Path.{◌≡◌, refl, sym, ◌∙◌, ap}
use mathlib.Core.Bool.{Bool, true, false}
use Prim.Native.Nat.Ordering.{eq}
use Prim.Native.Nat.Ordering.{gt}
use Prim.Native.Nat.Ordering.{lt}
use Prim.Native.Nat.{ℕ, suc, ◌^◌, ◌≤◌, ◌<◌, Ordering}
use native.Mathlib.Omega.{arith}
use lib.Dec.{eqb, lit<}
use Rattle.value_table.specs.Value.{record_kind, Values, none, value, size, ValidAt}
use Rattle.counting_theory.specs.Payload.{Payload, one}
use Rattle.counting_theory.specs.Trie.{nil, node, insert_step, insert, add, profile, reduce}
use Rattle.counting_theory.specs.Label.{Label, compare_label, Counting, CountingType}
use Rattle.counting_theory.specs.declared.equivalence.Equivalence.{Equivalence}
use Rattle.counting_theory.specs.Raw.{class_of, addend, raw}
use Rattle.counting_theory.specs.Encoding.{Tagged}
use Rattle.counting_theory.specs.Inside.Times.{times}
use Rattle.type_arena.specs.Inside.Payload.{LengthsKept}
use Rattle.type_arena.proofs.PayloadBytes.{kept-one, kept_field, kept-join}
use Rattle.inference.specs.Inside.Inferring.{NumbersFit, InferredSiblings}
use Rattle.counting_theory.proofs.Label.{counting-laws}
use Rattle.counting_theory.proofs.Trie.Sorted.{sorted-add, sorted-profile}
use Rattle.counting_theory.proofs.Trie.Profile.{add_comm, reduce-add}
use Rattle.counting_theory.proofs.Tagged.Profile.{inferred}
use Rattle.counting_theory.proofs.Tagged.Reduce.{tagged-reduce}
use Rattle.value_table.proofs.TableLayout.{key_below}
use Rattle.counting_theory.proofs.Times.{times-keeps}

-- values that are no fields: their keys make no difference
unfoldable unkeyed : Values → Values
unkeyed none = none
unkeyed (value head key content next) = value head 0 content (unkeyed next)

module _ (e : Equivalence) where
  raw-unkeyed : (vs : Values) → raw e false (unkeyed vs) ≡ raw e false vs
  unfolding raw unkeyed
  raw-unkeyed none = refl
  raw-unkeyed (value head key content next) = ap (addend false key (class_of e head.kind content) (one head content) (raw e (eqb head.kind record_kind) content)) (raw-unkeyed next)

  valid-unkeyed : (as_fields : Bool) (depth : ℕ) (vs : Values) → ValidAt as_fields depth vs → ValidAt false depth (unkeyed vs)
  unfolding ValidAt unkeyed
  valid-unkeyed as_fields depth none h = tt
  valid-unkeyed as_fields depth (value head key content next) h =
      let p = h.0 in (
        record { kind-low = p.kind-low; kind-high = p.kind-high; scalar = p.scalar; keyed = refl; distinct = p.distinct; few = p.few; shallow = p.shallow },
        h.1,
        valid-unkeyed as_fields depth next h.2,
      )

  run-tagged : (field as_fields : Bool) (depth : ℕ) (vs : Values) → ValidAt as_fields depth vs → (field ≡ true → as_fields ≡ true) → Tagged e field (profile Counting (raw e field vs))
  run-tagged true as_fields depth vs h i = (inferred e true depth vs (rw (i refl) at h)).is-tagged
  run-tagged false as_fields depth vs h i = rw (raw-unkeyed vs) at (inferred e false depth (unkeyed vs) (valid-unkeyed as_fields depth vs h)).is-tagged

  numbers-raw : (field as_fields : Bool) (depth : ℕ) (vs : Values) → ValidAt as_fields depth vs → size vs < 2 ^ 32 → NumbersFit (raw e field vs)
  unfolding raw ValidAt size
  numbers-raw field as_fields depth none h few = tt
  numbers-raw true as_fields depth (value head key content next) h few =
      let inside = numbers-raw (eqb head.kind record_kind) (eqb head.kind record_kind) (suc depth) content h.1 (omega arith) in (
        (lit< tt, key_below as_fields key h.0.keyed, kept_field),
        ((omega (arith, h.0.kind-high), lit< tt, kept-one head content (omega arith)), inside, tt),
        numbers-raw true as_fields depth next h.2 (omega arith),
      )
  numbers-raw false as_fields depth (value head key content next) h few = (
    (omega (arith, h.0.kind-high), lit< tt, kept-one head content (omega arith)),
    numbers-raw (eqb head.kind record_kind) (eqb head.kind record_kind) (suc depth) content h.1 (omega arith),
    numbers-raw false as_fields depth next h.2 (omega arith),
  )

numbers-insert : (l : Label) (a : Payload) (g : CountingType → CountingType) → (l.kind < 256) × (l.key < 65536) × LengthsKept a → ((c : CountingType) → NumbersFit c → NumbersFit (g c)) →
    (f : CountingType) → NumbersFit f → NumbersFit (insert Counting l a g f)
unfolding insert insert_step
numbers-insert l a g h i nil k = (h, i nil tt, tt)
numbers-insert l a g h i (node m b c s) k = go (compare_label l m) (numbers-insert l a g h i s k.2)
  where
    go : (o : Ordering) → NumbersFit (insert Counting l a g s) → NumbersFit (insert_step Counting o l a g m b c s (insert Counting l a g s))
    go lt j = (h, i nil tt, k)
    go eq j = ((k.0.0, k.0.1, kept-join b a k.0.2 h.2), i c k.1, k.2)
    go gt j = (k.0, k.1, j)

pub numbers-add : (r f : CountingType) → NumbersFit r → NumbersFit f → NumbersFit (add Counting r f)
unfolding add
numbers-add nil f h k = k
numbers-add (node l a c s) f h k =
    numbers-add s (insert Counting l a (add Counting c) f) h.2 (numbers-insert l a (add Counting c) h.0 (λ d. numbers-add c d h.1) f k)

module _ (e : Equivalence) (field as_fields : Bool) (depth : ℕ) (vs : Values) (valid : ValidAt as_fields depth vs) (few : size vs < 2 ^ 32) (fields : field ≡ true → as_fields ≡ true) where
  add-siblings : (f : CountingType) → InferredSiblings e field f → InferredSiblings e field (add Counting (raw e field vs) f)
  add-siblings f h =
      let r = raw e field vs in
      let p = profile Counting r in
      let z : reduce Counting f p ≡ add Counting r f = reduce-add counting-laws f p h.sorted (sorted-profile counting-laws r) ∙ sym (add_comm counting-laws r f h.sorted) in
      record {
        tagged = rw z at (tagged-reduce e field f p h.tagged (run-tagged e field as_fields depth vs valid fields));
        sorted = sorted-add counting-laws r f h.sorted;
        numbers = numbers-add r f (numbers-raw e field as_fields depth vs valid few) h.numbers;
      }

  pub times-siblings : (w : ℕ) → 1 ≤ w → (f : CountingType) → InferredSiblings e field f → InferredSiblings e field (add Counting (times w (raw e field vs)) f)
  times-siblings = times-keeps (InferredSiblings e field) (raw e field vs) (λ f h. h.sorted) add-siblings
