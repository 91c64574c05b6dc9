-- The labels of a type whose messages have keys up to m: what holds of each label of raw material holds of each label of its profile.
use mathlib.Core.Bool.{Bool, true, false}
use Prim.Native.Nat.Ordering.{eq}
use Prim.Native.Nat.Ordering.{gt}
use Prim.Native.Nat.Ordering.{lt}
use Prim.Native.Nat.{ℕ, suc, ◌^◌, ◌≤◌, ◌<◌, Ordering}
use mathlib.Core.Path.{◌≡◌}
use native.Mathlib.Omega.{arith}
use lib.Dec.{eqb}
use Rattle.value_table.specs.Value.{Head, record_kind, Values, none, value, Proper, ValidAt, Valid}
use Rattle.counting_theory.specs.Payload.{Payload, one}
use Rattle.counting_theory.specs.Trie.{nil, node, size, insert_step, insert, add}
use Rattle.counting_theory.specs.Label.{Label, field_kind, compare_label, Counting, CountingType}
use Rattle.counting_theory.specs.declared.equivalence.Equivalence.TheVariants.{Label as by_label}
use Rattle.counting_theory.specs.Raw.{class_of, addend, raw, profile_of}
use Rattle.type_arena.proofs.Nodes.{HeadsFit}

module _ (P : Label → Type 0) where
  abbrev pub Labels : CountingType → Type 0
  Labels nil = Unit {0}
  Labels (node l a c s) = P l × Labels c × Labels s

  labels-insert : (l : Label) (a : Payload) (g : CountingType → CountingType) → P l → ((c : CountingType) → Labels c → Labels (g c)) →
      (f : CountingType) → Labels f → Labels (insert Counting l a g f)
  unfolding insert insert_step
  labels-insert l a g p h nil u = (p, h nil tt, tt)
  labels-insert l a g p h (node k b d s) u = go (compare_label l k) (labels-insert l a g p h s u.2)
    where
      go : (o : Ordering) → Labels (insert Counting l a g s) → Labels (insert_step Counting o l a g k b d s (insert Counting l a g s))
      go lt i = (p, h nil tt, u)
      go eq i = (u.0, h d u.1, u.2)
      go gt i = (u.0, u.1, i)

  labels-add : (r f : CountingType) → Labels r → Labels f → Labels (add Counting r f)
  unfolding add
  labels-add nil f u v = v
  labels-add (node l a c s) f u v = labels-add s (insert Counting l a (add Counting c) f) u.2 (labels-insert l a (add Counting c) u.0 (λ d w. labels-add c d u.1 w) f v)

-- the kind and the key of an addend or a field, where no key is above m
pub record KeyWithin (m : ℕ) (l : Label) : Type 0 where
  pub kind-high : l.kind ≤ field_kind
  pub key-low : l.kind ≡ field_kind → 1 ≤ l.key
  pub key-high : l.key ≤ m

-- each key is at most m
abbrev pub ValueKeys : ℕ → Values → Type 0
ValueKeys m none = Unit {0}
ValueKeys m (value head key content next) = (key ≤ m) × ValueKeys m content × ValueKeys m next

module _ (m : ℕ) where
  class-within : (field : Bool) (depth : ℕ) (head : Head) (key : ℕ) (content : Values) → Proper field depth head key content → KeyWithin m (class_of by_label head.kind content)
  class-within field depth head key content p =
      record { kind-high = omega (arith, p.kind-high); key-low = λ e. absurd (omega (arith, p.kind-high)); key-high = omega arith }

  labels-addend : (field : Bool) (depth : ℕ) (head : Head) (key : ℕ) (content : Values) (a : Payload) (c s : CountingType) → Proper field depth head key content → key ≤ m →
      Labels (KeyWithin m) c → Labels (KeyWithin m) s → Labels (KeyWithin m) (addend field key (class_of by_label head.kind content) a c s)
  labels-addend true depth head key content a c s p h u v =
      (record { kind-high = omega arith; key-low = λ e. p.keyed.0; key-high = h }, (class-within true depth head key content p, u, tt), v)
  labels-addend false depth head key content a c s p h u v = (class-within false depth head key content p, u, v)

  labels-raw : (field : Bool) (depth : ℕ) (vs : Values) → ValidAt field depth vs → ValueKeys m vs → Labels (KeyWithin m) (raw by_label field vs)
  unfolding raw ValidAt
  labels-raw field depth none h u = tt
  labels-raw field depth (value head key content next) h u =
      labels-addend field depth head key content (one head content) _ _ h.0 u.0
      (labels-raw (eqb head.kind record_kind) (suc depth) content h.1 u.1) (labels-raw field depth next h.2 u.2)

  pub labels-profile : (messages : Values) → Valid messages → ValueKeys m messages → Labels (KeyWithin m) (profile_of by_label messages)
  unfolding profile_of
  labels-profile messages valid keys = labels-add (KeyWithin m) (raw by_label false messages) nil (labels-raw false 1 messages valid keys) tt

  pub labels-fit : (f : CountingType) → m < 65536 → Labels (KeyWithin m) f → size f < 2 ^ 32 → HeadsFit f
  unfolding size
  labels-fit nil h u n = tt
  labels-fit (node l a c s) h u n =
      ((omega (arith, u.0.kind-high), omega (arith, u.0.key-high), omega arith), labels-fit c h u.1 (omega arith), labels-fit s h u.2 (omega arith))
