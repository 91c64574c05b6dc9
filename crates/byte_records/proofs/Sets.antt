-- Runs of stores, of which those past the end are lost.
use mathlib.Core.Path.{◌≡◌, refl, sym, ap, ◌∙◌}
use mathlib.Core.List.{List, [], ◌∷◌, ◌++◌, append-nil, append_assoc}
use Prim.Native.Nat.{ℕ, zero, suc, min, ◌+◌, ◌-◌, ◌/◌, ◌%◌, ◌^◌, ◌≤◌, ◌<◌}
use native.Mathlib.Nat.{add-zero, add-suc, suc-add, zero-add, div-one, pow-suc, mul_comm, div-div-eq-div-mul}
use native.Mathlib.Decide.{dec_le}
use native.Mathlib.Numerals.{add-one}
use native.Mathlib.Omega.{arith}
use lib.ListN.{length, set, take, drop, get_or, drop_of_length-le, take-append-drop}
use lib.Seq.{sets, sets-eq, length-sets, length-take-le, set_comm, set_out, take_all, drop-drop, drop-cons}
use Rattle.byte_records.specs.Number.{bytes_of}
use Rattle.byte_records.proofs.Number.{length-bytes_of}

pub sets-append : (xs ys l : List ℕ) (i : ℕ) → sets l i (xs ++ ys) ≡ sets (sets l i xs) (i + length xs) ys
sets-append [] ys l i = rw add-zero
sets-append (x ∷ xs) ys l i = rw (add-suc, ← suc-add i) (sets-append xs ys (set l i x) (suc i))

set-sets : (vs l : List ℕ) (i j a : ℕ) → i < j → set (sets l j vs) i a ≡ sets (set l i a) j vs
set-sets [] l i j a h = refl
set-sets (v ∷ vs) l i j a h =
    rw (set-sets vs (set l j v) i (suc j) a (omega arith), set_comm l j i v a (λ e. omega arith)) refl

-- what comes first may be stored last
pub sets_last : (xs ys l : List ℕ) (i : ℕ) → sets (sets l (i + length xs) ys) i xs ≡ sets l i (xs ++ ys)
sets_last [] ys l i = rw add-zero
sets_last (x ∷ xs) ys l i =
    rw (set-sets ys l i (i + suc (length xs)) x (omega arith), add-suc, ← suc-add i) (sets_last xs ys (set l i x) (suc i))

sets-out : (vs l : List ℕ) (i : ℕ) → length l ≤ i → sets l i vs ≡ l
sets-out [] l i h = refl
sets-out (v ∷ vs) l i h = rw (set_out l i v h) (sets-out vs l (suc i) (omega arith))

-- a number in two parts
bytes_of-add : (v w n : ℕ) → bytes_of (v + w) n ≡ bytes_of v n ++ bytes_of w (n / 256 ^ v)
unfolding bytes_of
bytes_of-add zero w n = rw (zero-add, div-one) refl
bytes_of-add (suc v) w n =
    rw (suc-add, bytes_of-add v w (n / 256), div-div-eq-div-mul, pow-suc, mul_comm (256 ^ v) 256) refl

pub sets-bytes : (v w n : ℕ) (l : List ℕ) (i : ℕ) → sets (sets l i (bytes_of v n)) (i + v) (bytes_of w (n / 256 ^ v)) ≡ sets l i (bytes_of (v + w) n)
sets-bytes v w n l i =
    rw (bytes_of-add v w n, sets-append (bytes_of v n) (bytes_of w (n / 256 ^ v)) l i, length-bytes_of v n) refl

-- one byte of a number more is stored
pub sets_more : (n : ℕ) (l : List ℕ) (i k : ℕ) {m : List ℕ} {rest : ℕ} → m ≡ sets l i (bytes_of k n) → rest ≡ n / 256 ^ k →
    (set m (i + k) (rest % 256) ≡ sets l i (bytes_of (k + 1) n)) × (rest / 256 ≡ n / 256 ^ (k + 1))
unfolding bytes_of
sets_more n l i k e f =
    let z : n / 256 ^ k / 256 ≡ n / 256 ^ (k + 1) = rw (add-one, pow-suc 256 k, div-div-eq-div-mul) refl in
    rw (e, f) (sets-bytes k 1 n l i, z)

sets-whole : (vs l : List ℕ) → length l ≡ length vs → sets l 0 vs ≡ vs
sets-whole vs l h = sets-eq vs l 0 (omega arith) ∙ rw (zero-add, drop_of_length-le l {i = length vs} (omega arith)) (append-nil vs)

-- what was stored aside, over all of l, and then copied
pub sets-aside : (vs l out : List ℕ) (at : ℕ) {made out' : List ℕ} → length l ≡ length vs → made ≡ sets l 0 vs → out' ≡ sets out at made → out' ≡ sets out at vs
sets-aside vs l out at h e f = f ∙ ap (sets out at) (e ∙ sets-whole vs l h)

-- one byte of a copy
pub copy_more : (src out : List ℕ) (at i : ℕ) → i < length src →
    sets (set out (at + i) (get_or src i 0)) (at + (i + 1)) (drop (i + 1) src) ≡ sets out (at + i) (drop i src)
copy_more src out at i h =
    let d : at + (i + 1) ≡ suc (at + i) = omega arith in
    let k : i + 1 ≡ suc i = omega arith in
    rw (d, k, drop-cons src i 0) refl

-- all is copied, or there is no more room
pub copy-end : (src out all : List ℕ) (at i : ℕ) → min (length src) (length out - at) ≤ i → sets out (at + i) (drop i src) ≡ all → out ≡ all
copy-end src out all at i h e = go (dec_le (length src) i)
  where
    go : Dec (length src ≤ i) → out ≡ all
    go (yes z) = rw (drop_of_length-le src z) at e
    go (no z) = sym (sets-out (drop i src) out (at + i) (omega arith)) ∙ e

-- only what there is room for is stored
sets-front : (vs l : List ℕ) (i n : ℕ) → n ≡ min (length vs) (length l - i) → sets l i vs ≡ sets l i (take n vs)
sets-front vs l i n h = go (dec_le (length vs) n)
  where
    go : Dec (length vs ≤ n) → sets l i vs ≡ sets l i (take n vs)
    go (yes z) = ap (sets l i) (sym (take_all n vs z))
    go (no z) =
        let k : length (take n vs) ≡ n = length-take-le n vs (omega arith) in
        let o : length (sets l i (take n vs)) ≤ i + n = rw length-sets (omega arith) in
        ap (sets l i) (sym (take-append-drop n vs)) ∙ sets-append (take n vs) (drop n vs) l i ∙ rw k (sets-out (drop n vs) (sets l i (take n vs)) (i + n) o)

-- the same as one part that is replaced
pub sets-part : (vs l : List ℕ) (i a n : ℕ) → a ≡ min i (length l) → n ≡ min (length vs) (length l - a) → take a l ++ (take n vs ++ drop n (drop a l)) ≡ sets l i vs
sets-part vs l i a n h k = go (dec_le i (length l))
  where
    e : sets l i vs ≡ sets l i (take n vs)
    e = sets-front vs l i n (omega arith)

    go : Dec (i ≤ length l) → take a l ++ (take n vs ++ drop n (drop a l)) ≡ sets l i vs
    go (yes z) =
        let w : length (take n vs) ≡ n = length-take-le n vs (omega arith) in
        let q : a ≡ i = omega arith in
        let d : drop n (drop i l) ≡ drop (i + n) l = drop-drop n i l in
        rw (e, sets-eq (take n vs) l i (omega arith), w, q, d, append_assoc) refl
    go (no z) =
        let q : n ≡ 0 = omega arith in
        rw (e, q) (take-append-drop a l)
