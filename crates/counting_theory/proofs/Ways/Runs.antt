-- Of every run, however it ends: the working buffers are zero, and if no call is refused, every call of the plan has run.
use mathlib.Core.Path.{◌≡◌, refl, sym, ap}
use mathlib.Core.Bool.{Bool, true, false, cond, ◌&&◌}
use mathlib.Core.List.{List, [], ◌∷◌}
use mathlib.Core.Option.{Option, none, some}
use Prim.Native.Nat.{ℕ, zero, suc, ◌<◌, pred}
use native.Mathlib.Omega.{arith}
use lib.Dec.{ltb}
use lib.ListN.{length}
use borrow.Author.Tests.{ltb-true}
use Rattle.counting_theory.specs.declared.equivalence.Equivalence.{Equivalence}
use Rattle.counting_theory.specs.Answers.{Left, leaves, equivalence_number, merged}
use Rattle.counting_theory.specs.Ways.{Call, infer, infer_default, merge, pull, in_use, go_on, run, at_hand, AllAllowed, zero_work, WorkZero}
use Rattle.counting_theory.proofs.Trie.Canonical.{some-none}
use Rattle.counting_theory.proofs.Ways.Alike.{AllAccepted}
use Rattle.counting_theory.proofs.Ways.Pull.{pull-found}

pub run-merge : (e : Equivalence) (i j : ℕ) (arena : List ℕ) (calls : List Call) (hand others rest : List (List ℕ)) (first second : List ℕ) →
    pull i hand ≡ some (first, others) → pull j others ≡ some (second, rest) →
    run e (merge i j arena ∷ calls) hand ≡ go_on (leaves (merged first second (equivalence_number e) (length arena)) arena []) (λ b. run e calls (b ∷ rest))
unfolding run
run-merge e i j arena calls hand others rest first second p q = rw (p, run, q, run) refl

-- a merge names two of the h types at hand
pub merge-parts : (i j h : ℕ) (o : Option ℕ) → cond (ltb i h && ltb (suc j) h) o none ≡ some 1 → (i < h) × (suc j < h) × (o ≡ some 1)
merge-parts i j h o e = go (ltb i h) (ltb (suc j) h) refl refl e
  where
    go : (a b : Bool) → ltb i h ≡ a → ltb (suc j) h ≡ b → cond (a && b) o none ≡ some 1 → (i < h) × (suc j < h) × (o ≡ some 1)
    go true true x y z = (ltb-true i h x, ltb-true (suc j) h y, z)
    go true false x y z = absurd (some-none (sym z))
    go false b x y z = absurd (some-none (sym z))

module _ (n : ℕ) (c : Call) (calls : List Call) (l : Left) (rest : List ℕ → List Left) where
  -- what go_on gives where the call's number is k
  abbrev after : ℕ → List Left
  after zero = l ∷ rest (in_use l)
  after (suc k) = l ∷ []

  call-zero : l.work ≡ zero_work n c → ((b : List ℕ) → WorkZero n calls (rest b)) → WorkZero n (c ∷ calls) (go_on l rest)
  unfolding go_on
  call-zero z h = go l.outcome.number
    where
      go : (k : ℕ) → WorkZero n (c ∷ calls) (after k)
      go zero = (z, h (in_use l))
      go (suc k) = (z, tt)

  call-ran : ((b : List ℕ) → AllAccepted (rest b) → length (rest b) ≡ length calls) → AllAccepted (go_on l rest) → length (go_on l rest) ≡ length (c ∷ calls)
  unfolding go_on
  call-ran h = go l.outcome.number refl
    where
      go : (k : ℕ) → l.outcome.number ≡ k → AllAccepted (after k) → length (after k) ≡ length (c ∷ calls)
      go zero i a = ap suc (h (in_use l) a.1)
      go (suc k) i a = absurd (omega (arith, a.0))

found-zero : {A : Type 0} (n : ℕ) (calls : List Call) (o : Option A) (rest : A → List Left) → ((x : A) → WorkZero n calls (rest x)) →
    WorkZero n calls (elim o [ none ↦ [] | some x ↦ rest x ])
found-zero n calls none rest h = tt
found-zero n calls (some x) rest h = h x

module _ (e : Equivalence) (n : ℕ) where
  pub run-zero : (calls : List Call) (hand : List (List ℕ)) → AllAllowed e n calls → WorkZero n calls (run e calls hand)
  unfolding run
  run-zero [] hand a = tt
  run-zero (infer source arena work ∷ calls) hand a = call-zero n _ calls _ _ (rw a.0.2 refl) (λ b. run-zero calls (b ∷ hand) a.1)
  run-zero (infer_default source arena work ∷ calls) hand a = call-zero n _ calls _ _ (rw a.0.3 refl) (λ b. run-zero calls (b ∷ hand) a.1)
  run-zero (merge i j arena ∷ calls) hand a =
      found-zero n _ (pull i hand) _ (λ first. found-zero n _ (pull j first.1) _ (λ second. call-zero n (merge i j arena) calls _ (λ b. run e calls (b ∷ second.1)) refl (λ b. run-zero calls (b ∷ second.1) a.1)))

  pub all-run : (calls : List Call) (hand : List (List ℕ)) → at_hand calls (length hand) ≡ some 1 → AllAccepted (run e calls hand) →
      length (run e calls hand) ≡ length calls
  unfolding run at_hand
  all-run [] hand h a = refl
  all-run (infer source arena work ∷ calls) hand h a = call-ran n (infer source arena work) calls _ _ (λ b. all-run calls (b ∷ hand) h) a
  all-run (infer_default source arena work ∷ calls) hand h a = call-ran n (infer_default source arena work) calls _ _ (λ b. all-run calls (b ∷ hand) h) a
  all-run (merge i j arena ∷ calls) hand h a =
      let m = merge-parts i j (length hand) (at_hand calls (pred (length hand))) h in
      let p = pull-found i hand m.0 in
      let q = pull-found j p.1 (omega (arith, p.3)) in
      let k : pred (length hand) ≡ suc (length q.1) = omega (arith, p.3, q.3) in
      let r = run-merge e i j arena calls hand p.1 q.1 p.0 q.0 p.2 q.2 in
      rw r (call-ran n (merge i j arena) calls _ _ (λ b. all-run calls (b ∷ q.1) (rw k at m.2)) (rw r at a))
