-- Where a search may begin: among siblings that grow, and inside the one that was found last.
use mathlib.Core.Path.{◌≡◌, refl, sym, ◌∙◌, ap}
use mathlib.Core.Bool.{Bool, true, false, cond}
use Prim.Native.Nat.Ordering.{eq}
use Prim.Native.Nat.Ordering.{gt}
use Prim.Native.Nat.Ordering.{lt}
use Prim.Native.Nat.{ℕ, ◌+◌, ◌≤◌, ◌<◌, Ordering}
use native.Mathlib.Omega.{arith}
use lib.Dec.{eqb, ltb}
use borrow.Author.Tests.{eqb-true, ltb-true, ltb-false}
use Rattle.counting_theory.specs.Payload.{Payload}
use Rattle.counting_theory.specs.Trie.{nil, node, size, insert_step, insert}
use Rattle.counting_theory.specs.Inside.TrieLaws.{append}
use Rattle.counting_theory.specs.Label.{Label, compare_label, Counting, CountingType}
use Rattle.inference.specs.Inside.Inferring.{Starts, split_here, split}
use Rattle.inference.proofs.InPlace.Seeking.{starts-zero}
use Rattle.folding.specs.Inside.Folding.{Inside, start_inside, lowest_of}

pub inside-zero : (from : ℕ) (f : CountingType) → Inside 0 from f
inside-zero from f = record { begins = λ first l a c s e k i. starts-zero c }

-- a sibling more in front
starts-behind : (k : Label) (b : Payload) (c s : CountingType) (p : ℕ) → Starts p s → Starts (1 + (size c + p)) (node k b c s)
unfolding append size
starts-behind k b c s p h = record { first = node k b c h.first; last = h.last; whole = ap (node k b c) h.whole; count = omega (arith, h.count) }

-- inserting at or behind a sibling leaves it where it is
module _ (l : Label) (a : Payload) (g : CountingType → CountingType) where
  kept : (first last : CountingType) → size first ≤ size (split l (append first last)).before → Starts (size first) (insert Counting l a g (append first last))
  unfolding append size insert insert_step split split_here
  kept nil last h = starts-zero _
  kept (node k b c s) last h = go (compare_label l k) h (kept s last)
    where
      go : (o : Ordering) → 1 + (size c + size s) ≤ size (split_here o k b c (append s last) (split l (append s last))).before →
          (size s ≤ size (split l (append s last)).before → Starts (size s) (insert Counting l a g (append s last))) →
          Starts (1 + (size c + size s)) (insert_step Counting o l a g k b c (append s last) (insert Counting l a g (append s last)))
      go lt i later = absurd (omega arith)
      go eq i later = absurd (omega arith)
      go gt i later = starts-behind k b c (insert Counting l a g (append s last)) (size s) (later (omega arith))

  pub starts-kept : (low : ℕ) (f : CountingType) → Starts low f → low ≤ size (split l f).before → Starts low (insert Counting l a g f)
  starts-kept low f h i = rw (h.count, h.whole) (kept h.first h.last (rw (h.count, h.whole) at i))

pub starts-lowest : (first : Bool) (low p : ℕ) (f : CountingType) → Starts p f → (low ≤ p → Starts low f) → Starts (lowest_of first low p) f
unfolding lowest_of
starts-lowest true low p f h i = h
starts-lowest false low p f h i = go (ltb p low) refl
  where
    go : (b : Bool) → ltb p low ≡ b → Starts (cond b p low) f
    go true z = h
    go false z = i (ltb-false p low z)

-- what stands inside the label, if it stands where the last one was found
module _ (l : Label) (i : ℕ) where
  abbrev Begins : CountingType → ℕ → Type 0
  Begins f from = (first : CountingType) (k : Label) (a : Payload) (c s : CountingType) → f ≡ append first (node k a c s) → from ≡ size first → i < size c → Starts i c

  content-starts : (f : CountingType) → Begins f (size (split l f).before) → i < size (split l f).content → Starts i (split l f).content
  unfolding split split_here append size
  content-starts nil h n = absurd (omega arith)
  content-starts (node k b c s) h n = go (compare_label l k) h n (content-starts s)
    where
      go : (o : Ordering) → Begins (node k b c s) (size (split_here o k b c s (split l s)).before) → i < size (split_here o k b c s (split l s)).content →
          (Begins s (size (split l s).before) → i < size (split l s).content → Starts i (split l s).content) →
          Starts i (split_here o k b c s (split l s)).content
      go lt h n later = absurd (omega arith)
      go eq h n later = h nil k b c s refl refl n
      go gt h n later = later (λ first m a d t e z. h (node k b c first) m a d t (ap (node k b c) e) (omega (arith, z))) n

  pub start-inside : (f : CountingType) (from p held : ℕ) → Inside i from f → p ≡ size (split l f).before → held ≡ size (split l f).content →
      Starts (start_inside (eqb p from) i held) (split l f).content
  unfolding start_inside
  start-inside f from p held h z n = go (eqb p from) (ltb i held) refl refl
    where
      go : (b c : Bool) → eqb p from ≡ b → ltb i held ≡ c → Starts (cond b (cond c i 0) 0) (split l f).content
      go true true x y =
          let w : from ≡ size (split l f).before = sym (eqb-true p from x) ∙ z in
          content-starts f (rw w at h.begins) (omega (arith, ltb-true i held y))
      go true false x y = starts-zero _
      go false c x y = starts-zero _

-- siblings of which one is at a record: what stands inside it is known by that
same-content : (f g : CountingType) (k l : Label) (a b : Payload) (c d s t : CountingType) → append f (node k a c s) ≡ append g (node l b d t) → size f ≡ size g → c ≡ d
unfolding append size
same-content nil nil k l a b c d s t e n = cc
same-content nil (node m x u v) k l a b c d s t e n = absurd (omega arith)
same-content (node m x u v) nil k l a b c d s t e n = absurd (omega arith)
same-content (node m x u v) (node o y w z) k l a b c d s t e n =
    let same : u ≡ w = cc in
    let rest : append v (node k a c s) ≡ append z (node l b d t) = cc in
    same-content v z k l a b c d s t rest (omega (arith, ap size same))

pub inside_found : (i p : ℕ) (f before : CountingType) (l : Label) (a : Payload) (c after : CountingType) → f ≡ append before (node l a c after) → p ≡ size before →
    Starts i c → Inside i p f
inside_found i p f before l a c after e z h =
    record {
      begins = λ first k b d s w n m.
          let same : c ≡ d = same-content before first l k a b c d after s (sym e ∙ w) (sym z ∙ n) in
          rw same at h;
    }
