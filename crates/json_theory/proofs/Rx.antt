-- The rest of an expression after a byte.
use mathlib.Core.Path.{◌≡◌, refl, sym, ◌∙◌, ap, subst}
use mathlib.Core.Bool.{Bool, true, false, cond, ◌&&◌, ◌||◌}
use mathlib.Core.Logic.{◌⊎◌, inl, inr}
use mathlib.Core.List.{List, [], ◌∷◌, ◌++◌}
use Prim.Native.Nat.{ℕ}
use native.Mathlib.Omega.{arith}
use lib.Dec.{leb}
use borrow.Author.Tests.{leb-true, le-leb}
use Rattle.byte_records.proofs.Tests.{and_parts}
use Rattle.json_theory.specs.Rx.{Rx, never, empty, range, then, either, star, Star, stop, more, Word, within}
use Rattle.json_theory.specs.Inside.Derivative.{nullable, seq, or_never, alt, rest}

pub seq-then : (a b : Rx) (w : List ℕ) → Word (seq a b) w → Word (then a b) w
unfolding seq
seq-then never b w h = absurd h
seq-then empty b w h = ([], w, refl, h, refl)
seq-then (range low high) b w h = h
seq-then (then a c) b w h = h
seq-then (either a c) b w h = h
seq-then (star a) b w h = h

pub then-seq : (a b : Rx) (w : List ℕ) → Word (then a b) w → Word (seq a b) w
unfolding seq
then-seq never b w h = absurd h.2
then-seq empty b w h = let e : w ≡ h.1 = h.4 ∙ ap (λ (u : List ℕ). u ++ h.1) h.2 in rw e h.3
then-seq (range low high) b w h = h
then-seq (then a c) b w h = h
then-seq (either a c) b w h = h
then-seq (star a) b w h = h

or-either : (a b : Rx) (w : List ℕ) → Word (or_never a b) w → Word (either a b) w
unfolding or_never
or-either a never w h = inl h
or-either a empty w h = h
or-either a (range low high) w h = h
or-either a (then b c) w h = h
or-either a (either b c) w h = h
or-either a (star b) w h = h

either-or : (a b : Rx) (w : List ℕ) → Word (either a b) w → Word (or_never a b) w
unfolding or_never
either-or a never w (inl h) = h
either-or a never w (inr h) = absurd h
either-or a empty w h = h
either-or a (range low high) w h = h
either-or a (then b c) w h = h
either-or a (either b c) w h = h
either-or a (star b) w h = h

alt-either : (a b : Rx) (w : List ℕ) → Word (alt a b) w → Word (either a b) w
unfolding alt
alt-either never b w h = inr h
alt-either empty b w h = or-either empty b w h
alt-either (range low high) b w h = or-either (range low high) b w h
alt-either (then a c) b w h = or-either (then a c) b w h
alt-either (either a c) b w h = or-either (either a c) b w h
alt-either (star a) b w h = or-either (star a) b w h

either-alt : (a b : Rx) (w : List ℕ) → Word (either a b) w → Word (alt a b) w
unfolding alt
either-alt never b w (inl h) = absurd h
either-alt never b w (inr h) = h
either-alt empty b w h = either-or empty b w h
either-alt (range low high) b w h = either-or (range low high) b w h
either-alt (then a c) b w h = either-or (then a c) b w h
either-alt (either a c) b w h = either-or (either a c) b w h
either-alt (star a) b w h = either-or (star a) b w h

pub cons-nil : (c : ℕ) (w : List ℕ) → c ∷ w ≡ [] → ⊥
cons-nil c w e = let z : ◌≡◌ {A = ℕ} 0 1 = cc in omega arith

pub false-true : {A : Type 0} → false ≡ true → A
false-true e = absurd (let z : ◌≡◌ {A = ℕ} 0 1 = cc in omega arith)

pub and_intro : (a b : Bool) → a ≡ true → b ≡ true → (a && b) ≡ true
and_intro a b p q = rw (p, q)

pub or-out : (a b : Bool) → (a || b) ≡ true → (a ≡ true) ⊎ (b ≡ true)
or-out true b e = inl refl
or-out false b e = inr e

pub or_left : (a b : Bool) → a ≡ true → (a || b) ≡ true
or_left a b p = rw p

pub or_right : (a b : Bool) → b ≡ true → (a || b) ≡ true
or_right true b p = refl
or_right false b p = p

pub nil-parts : (u v : List ℕ) → [] ≡ u ++ v → (u ≡ []) × (v ≡ [])
nil-parts [] v e = (refl, sym e)
nil-parts (c ∷ u) v e = absurd (cons-nil c (u ++ v) (sym e))

-- the empty word
pub nullable-word : (r : Rx) → nullable r ≡ true → Word r []
unfolding nullable
nullable-word never h = false-true h
nullable-word empty h = refl
nullable-word (range low high) h = false-true h
nullable-word (then a b) h = let p = and_parts (nullable a) (nullable b) h in ([], [], nullable-word a p.0, nullable-word b p.1, refl)
nullable-word (either a b) h = go (or-out (nullable a) (nullable b) h) (nullable-word a) (nullable-word b)
  where
    go : (nullable a ≡ true) ⊎ (nullable b ≡ true) → (nullable a ≡ true → Word a []) → (nullable b ≡ true → Word b []) → Word (either a b) []
    go (inl p) f g = inl (f p)
    go (inr p) f g = inr (g p)
nullable-word (star a) h = stop

pub word-nullable : (r : Rx) → Word r [] → nullable r ≡ true
unfolding nullable
word-nullable never h = absurd h
word-nullable empty h = refl
word-nullable (range low high) h = absurd (cons-nil h.0 [] (sym h.3))
word-nullable (then a b) h =
    let p = nil-parts h.0 h.1 h.4 in
    and_intro (nullable a) (nullable b) (word-nullable a (rw p.0 at h.2)) (word-nullable b (rw p.1 at h.3))
word-nullable (either a b) (inl h) = or_left (nullable a) (nullable b) (word-nullable a h)
word-nullable (either a b) (inr h) = or_right (nullable a) (nullable b) (word-nullable b h)
word-nullable (star a) h = refl

-- a word of u ++ v that begins with c
pub cons-append : (c : ℕ) (w u v : List ℕ) → c ∷ w ≡ u ++ v → ((u ≡ []) × (v ≡ c ∷ w)) ⊎ ((t : List ℕ) × (u ≡ c ∷ t) × (w ≡ t ++ v))
cons-append c w [] v e = inl (refl, sym e)
cons-append c w (d ∷ u) v e = let p : c ≡ d = cc in let q : w ≡ u ++ v = cc in inr (u, rw p refl, q)

star-first : {P : List ℕ → Type 0} {x : List ℕ} (c : ℕ) (w : List ℕ) → Star P x → x ≡ c ∷ w → (u : List ℕ) × (v : List ℕ) × P (c ∷ u) × Star P v × (w ≡ u ++ v)
star-first c w stop e = absurd (cons-nil c w (sym e))
star-first {P} c w (more {u} {v} p t) e = go (cons-append c w u v (sym e)) (λ q. star-first c w t q)
  where
    go : ((u ≡ []) × (v ≡ c ∷ w)) ⊎ ((t : List ℕ) × (u ≡ c ∷ t) × (w ≡ t ++ v)) →
        (v ≡ c ∷ w → (u : List ℕ) × (v : List ℕ) × P (c ∷ u) × Star P v × (w ≡ u ++ v)) →
        (u : List ℕ) × (v : List ℕ) × P (c ∷ u) × Star P v × (w ≡ u ++ v)
    go (inl h) ih = ih h.1
    go (inr h) ih = (h.0, v, rw h.1 at p, t, h.2)

-- Word (rest r c) w exactly when Word r (c ∷ w)
pub rest-word : (r : Rx) (c : ℕ) (w : List ℕ) → Word (rest r c) w → Word r (c ∷ w)
unfolding rest
rest-word never c w h = h
rest-word empty c w h = absurd h
rest-word (range low high) c w h = go (within low high c) refl h
  where
    go : (t : Bool) → within low high c ≡ t → Word (cond t empty never) w → Word (range low high) (c ∷ w)
    go true e h = let p = and_parts (leb low c) (leb c high) e in (c, leb-true low c p.0, leb-true c high p.1, rw h refl)
    go false e h = absurd h
rest-word (then a b) c w h = go (nullable a) refl (rest-word a c) (rest-word b c) (alt-either (seq (rest a c) b) (cond (nullable a) (rest b c) never) w h)
  where
    go : (t : Bool) → nullable a ≡ t → ((w : List ℕ) → Word (rest a c) w → Word a (c ∷ w)) → ((w : List ℕ) → Word (rest b c) w → Word b (c ∷ w)) →
        Word (either (seq (rest a c) b) (cond t (rest b c) never)) w → Word (then a b) (c ∷ w)
    go true e f g (inl h) = let p = seq-then (rest a c) b w h in (c ∷ p.0, p.1, f p.0 p.2, p.3, ap (λ (x : List ℕ). c ∷ x) p.4)
    go false e f g (inl h) = let p = seq-then (rest a c) b w h in (c ∷ p.0, p.1, f p.0 p.2, p.3, ap (λ (x : List ℕ). c ∷ x) p.4)
    go true e f g (inr h) = ([], c ∷ w, nullable-word a e, g w h, refl)
    go false e f g (inr h) = absurd h
rest-word (either a b) c w h = go (alt-either (rest a c) (rest b c) w h) (rest-word a c w) (rest-word b c w)
  where
    go : Word (either (rest a c) (rest b c)) w → (Word (rest a c) w → Word a (c ∷ w)) → (Word (rest b c) w → Word b (c ∷ w)) → Word (either a b) (c ∷ w)
    go (inl h) f g = inl (f h)
    go (inr h) f g = inr (g h)
rest-word (star a) c w h =
    let p = seq-then (rest a c) (star a) w h in
    subst (λ (x : List ℕ). Star (Word a) (c ∷ x)) (sym p.4) (more {u = c ∷ p.0} (rest-word a c p.0 p.2) p.3)

pub word-rest : (r : Rx) (c : ℕ) (w : List ℕ) → Word r (c ∷ w) → Word (rest r c) w
unfolding rest
word-rest never c w h = h
word-rest empty c w h = absurd (cons-nil c w h)
word-rest (range low high) c w h =
    let p : c ≡ h.0 = let z = h.3 in cc in
    let q : w ≡ [] = let z = h.3 in cc in
    let e : within low high c ≡ true = and_intro (leb low c) (leb c high) (le-leb low c (rw p h.1)) (le-leb c high (rw p h.2)) in
    rw (e, rest) q
word-rest (then a b) c w h =
    either-alt (seq (rest a c) b) (cond (nullable a) (rest b c) never) w
    (go (cons-append c w h.0 h.1 h.4) (λ v. word-rest a c v) (word-rest b c w))
  where
    go : ((h.0 ≡ []) × (h.1 ≡ c ∷ w)) ⊎ ((t : List ℕ) × (h.0 ≡ c ∷ t) × (w ≡ t ++ h.1)) →
        ((v : List ℕ) → Word a (c ∷ v) → Word (rest a c) v) → (Word b (c ∷ w) → Word (rest b c) w) →
        Word (either (seq (rest a c) b) (cond (nullable a) (rest b c) never)) w
    go (inl p) f g = inr (rw (word-nullable a (rw p.0 at h.2)) (g (rw p.1 at h.3)))
    go (inr p) f g = inl (then-seq (rest a c) b w (p.0, h.1, f p.0 (rw p.1 at h.2), h.3, p.2))
word-rest (either a b) c w (inl h) = either-alt (rest a c) (rest b c) w (inl (word-rest a c w h))
word-rest (either a b) c w (inr h) = either-alt (rest a c) (rest b c) w (inr (word-rest b c w h))
word-rest (star a) c w h =
    let p = star-first c w h refl in
    then-seq (rest a c) (star a) w (p.0, p.1, word-rest a c p.0 p.2, p.3, p.4)
