-- Whether a count in a run passes a limit, addend by addend.
use mathlib.Core.Path.{◌≡◌, refl, sym, ap, ◌∙◌}
use mathlib.Core.Bool.{Bool, true, false, not}
use mathlib.Core.List.{List, [], ◌∷◌}
use Prim.Native.Nat.{ℕ, ◌+◌, ◌≤◌, ◌<◌}
use native.Mathlib.Omega.{arith}
use lib.Dec.{leb}
use lib.ListN.{length}
use borrow.Author.Tests.{leb-true, le-leb, lt-leb}
use Rattle.removal_theory.specs.Payload.{Payload, join}
use Rattle.counting_theory.specs.Trie.{nil, node, total, largest_total}
use Rattle.counting_theory.specs.declared.equivalence.Equivalence.{Equivalence}
use Rattle.counting_theory.specs.declared.equivalence.Equivalence.TheVariants.{Kind as by_kind}
use Rattle.removal_theory.specs.Label.{Counting, CountingType}
use Rattle.removal_theory.specs.Encoding.{type_payload, type_of, Tagged}
use Rattle.removal_theory.specs.Inside.TypeBytes.{type_count}
use Rattle.counting_theory.specs.WellFormed.{max_total}
use Rattle.removal_theory.specs.WellFormed.{within_limit, fields_of}
use Rattle.removal_theory.proofs.Encoding.Header.{payload-count}
use Rattle.removal_theory.proofs.Tagged.Parts.{tagged-parts}
use Rattle.removal_theory.proofs.WellFormed.Fitting.{weight-addend}
use Rattle.counting_theory.proofs.WellFormed.Tests.{both}
use Rattle.removal_theory.proofs.WellFormed.Limit.{limit-totals}
use Rattle.byte_records.proofs.Tests.{and_parts}
use Rattle.removal_arena.specs.Inside.Addend.{rest, Coded}
use Rattle.removal_arena.proofs.FirstAddend.{Addend, addend, type-empty, coded-type}
use Rattle.removal.specs.Removed.{taken}
use Rattle.removal.proofs.Difference as steps
use Rattle.removal.proofs.Difference.{Removal, apart, dropped, lessened}
use Rattle.removal.proofs.Taken.{taken-laws}

-- a has a count above the limit exactly if what is left of it, x, has one
pub record Seeking (e : Equivalence) (field : Bool) (limit : ℕ) (a x : List ℕ) : Type 0 where
  pub left : Coded e field x
  pub same : fields_of by_kind limit (type_of e x) ≡ fields_of by_kind limit (type_of e a)

pub seeking-start : (a : List ℕ) (limit : ℕ) (e : Equivalence) (field : Bool) → Coded e field a → Seeking e field limit a a
seeking-start a limit e field k = record { left = k; same = refl }

module _ {e : Equivalence} {field : Bool} {limit : ℕ} {a x : List ℕ} (w : Seeking e field limit a x) where
  pub seeking-first : 0 < length x → Addend e field x
  seeking-first h = addend w.left h

  pub seeking-next : {n : ℕ} {r : List ℕ} → 0 < length x → n ≡ type_count x 0 → n ≤ limit → r ≡ rest x → Seeking e field limit a r
  unfolding fields_of
  seeking-next h i k z =
      let f = seeking-first h in
      let low : leb (type_payload x 0).count limit ≡ true = le-leb (type_payload x 0).count limit (omega (arith, payload-count x 0)) in
      let here : fields_of by_kind limit (type_of e x) ≡ fields_of by_kind limit (type_of e (rest x)) = rw (f.is-type, low) refl in
      rw z (record { left = f.in_rest; same = sym here ∙ w.same })

  pub seeking-found : {n : ℕ} → 0 < length x → n ≡ type_count x 0 → limit < n → true ≡ not (fields_of by_kind limit (type_of e a))
  unfolding fields_of
  seeking-found h i k =
      let f = seeking-first h in
      let high : leb (type_payload x 0).count limit ≡ false = lt-leb (type_payload x 0).count limit (omega (arith, payload-count x 0)) in
      let here : fields_of by_kind limit (type_of e x) ≡ false = rw (f.is-type, high) refl in
      rw (← w.same, here) refl

  pub seeking-done : length x ≡ 0 → false ≡ not (fields_of by_kind limit (type_of e a))
  unfolding fields_of
  seeking-done h = go x h w.same
    where
      go : (y : List ℕ) → length y ≡ 0 → fields_of by_kind limit (type_of e y) ≡ fields_of by_kind limit (type_of e a) → false ≡ not (fields_of by_kind limit (type_of e a))
      go [] h s = rw (← s, type-empty e) refl
      go (b ∷ y) h s = absurd (omega arith)

-- what is left of siblings keeps the limit that they keep
module _ (limit : ℕ) where
  pub limit-left : {w g f : CountingType} → Removal Counting taken w g f → fields_of by_kind limit w ≡ true → fields_of by_kind limit f ≡ true
  unfolding fields_of join
  limit-left steps.rest h = h
  limit-left (apart {a = a} {s = s} e r) h = let p = and_parts (leb a.count limit) (fields_of by_kind limit s) h in both p.0 (limit-left r p.1)
  limit-left (dropped {a = a} {s = s} e q r) h = limit-left r (and_parts (leb a.count limit) (fields_of by_kind limit s) h).1
  limit-left (lessened {a = a} {b = b} {e = n} {s = s} e q r) h =
      let p = and_parts (leb a.count limit) (fields_of by_kind limit s) h in
      let z : n.count + b.count ≡ a.count = ap (λ (p : Payload). p.count) (taken-laws.take_left e).0 in
      both (le-leb n.count limit (omega (arith, leb-true a.count limit p.0))) (limit-left r p.1)

-- no count of a union passes the limit on its total
union-limit : (e : Equivalence) (f : CountingType) → Tagged e false f → total Counting f ≤ max_total → fields_of by_kind max_total f ≡ true
unfolding fields_of total
union-limit e nil t h = refl
union-limit e (node l a c s) t h =
    let p = tagged-parts e false l a c s t in
    let z = weight-addend l a p.0.kind-high in
    both (le-leb a.count max_total (omega arith)) (union-limit e s p.2 (omega arith))

pub run-limit : (e : Equivalence) (x : List ℕ) → Coded e false x → within_limit (type_of e x) ≡ true → fields_of by_kind max_total (type_of e x) ≡ true
unfolding largest_total
run-limit e x k w =
    let z : type_of e x ≡ k.trie = coded-type k in
    rw z (union-limit e k.trie k.tagged (omega (arith, rw z at (limit-totals (type_of e x) w))))
