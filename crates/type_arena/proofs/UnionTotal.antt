-- The total of a union, addend by addend.
use Rattle.std.proofs.Common.{◌≡◌, ℕ, ◌+◌, ◌<◌, false, List, [], ◌∷◌, length, refl, zero-add, arith}
use Rattle.counting_theory.specs.Trie.{total}
use Rattle.counting_theory.specs.Label.{Counting}
use Rattle.counting_theory.specs.declared.equivalence.Equivalence.{Equivalence}
use Rattle.counting_theory.specs.Encoding.{type_payload, type_of}
use Rattle.counting_theory.specs.Inside.TypeBytes.{type_count}
use Rattle.type_arena.specs.Inside.Arena.{label_at}
use Rattle.type_arena.specs.Inside.Addend.{rest, Coded}
use Rattle.counting_theory.proofs.Encoding.Header.{payload-count}
use Rattle.counting_theory.proofs.WellFormed.Fitting.{weight-addend}
use Rattle.type_arena.proofs.FirstAddend.{Addend, addend, type-empty}

total-next : {e : Equivalence} {x : List ℕ} → Addend e false x → total Counting (type_of e x) ≡ type_count x 0 + total Counting (type_of e (rest x))
unfolding total
total-next {e} {x} a = rw (a.is-type, weight-addend (label_at e x 0) (type_payload x 0) a.is-shape.kind-high, payload-count x 0) refl

total-none : (e : Equivalence) (x : List ℕ) → length x ≡ 0 → total Counting (type_of e x) ≡ 0
unfolding total
total-none e [] h = rw (type-empty e) refl
total-none e (b ∷ x) h = absurd (omega arith)

-- The sum so far and the total of what is left, x, give the total of a.
pub record Adding (e : Equivalence) (a x : List ℕ) (sum : ℕ) : Type 0 where
  pub left : Coded e false x
  pub same : sum + total Counting (type_of e x) ≡ total Counting (type_of e a)

pub adding-start : (a : List ℕ) (e : Equivalence) → Coded e false a → Adding e a a 0
adding-start a e k = record { left = k; same = zero-add _ }

module _ {e : Equivalence} {a x : List ℕ} {sum : ℕ} (w : Adding e a x sum) where
  pub adding-first : 0 < length x → Addend e false x
  adding-first h = addend w.left h

  pub adding-next : {n : ℕ} {r : List ℕ} → 0 < length x → n ≡ type_count x 0 → r ≡ rest x → Adding e a r (sum + n)
  adding-next h i z =
      let f = adding-first h in
      rw z (record { left = f.in_rest; same = omega (arith, w.same, total-next f) })

  pub adding-done : length x ≡ 0 → sum ≡ total Counting (type_of e a)
  adding-done h = omega (arith, w.same, total-none e x h)
