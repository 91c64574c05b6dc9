-- Bytes stored one after the other: by a loop, and by one call after another.
use mathlib.Core.Path.{◌≡◌, refl, sym, ap, ◌∙◌}
use mathlib.Core.List.{List, [], ◌∷◌, ◌++◌}
use Prim.Native.Nat.{ℕ, zero, suc, ◌+◌, ◌-◌, ◌≤◌}
use native.Mathlib.Omega.{arith}
use lib.ListN.{length, take, drop, replicate, length-append, length-take, length-drop, length-replicate}
use lib.Seq.{sets, length-sets, sets-eq, length-take-le}
use borrow.Rule.Slice.PartMut.{put_mid}
use Rattle.byte_records.proofs.Sets.{sets-append, sets-part}
use Rattle.report.specs.Decimal.{leaves_text, text_left}
use Rattle.report.specs.Inside.Room.{TextStored}

-- a part of a run of one byte
pub take-replicate : (n m byte : ℕ) → n ≤ m → take n (replicate m byte) ≡ replicate n byte
take-replicate zero m byte h = refl
take-replicate (suc n) zero byte h = absurd (omega arith)
take-replicate (suc n) (suc m) byte h = ap (λ xs. byte ∷ xs) (take-replicate n m byte (omega arith))

-- a part that is filled with one byte
pub filled-part : (s new : List ℕ) (at n byte : ℕ) → at + n ≤ length s → new ≡ replicate (length (take (at + n - at) (drop at s))) byte →
    put_mid at (at + n - at) s new ≡ sets s at (replicate n byte)
filled-part s new at n byte h e =
    let k : at + n - at ≡ n = omega arith in
    let l : length (take n (drop at s)) ≡ n = omega (arith, length-take n (drop at s), length-drop at s) in
    let part = sets-part (replicate n byte) s at at n (omega arith) (omega (arith, length-replicate n byte)) in
    rw (e, k, l) (rw (take-replicate n n byte (omega arith)) at part)

-- Of xs, to be stored in s from position p on, ys are left, at position q of the buffer s'.
pub record Storing (s : List ℕ) (p : ℕ) (xs : List ℕ) (s' : List ℕ) (q : ℕ) (ys : List ℕ) : Type 0 where
  pub bytes : sets s' q ys ≡ sets s p xs
  pub behind : q + length ys ≡ p + length xs
  pub same : length s' ≡ length s

pub storing-all : (s : List ℕ) (p : ℕ) (xs : List ℕ) → Storing s p xs s p xs
storing-all s p xs = record { bytes = refl; behind = refl; same = refl }

module _ {s : List ℕ} {p : ℕ} {xs s' : List ℕ} {q : ℕ} where
  pub storing-none : {ys : List ℕ} → ys ≡ [] → Storing s p xs s' q ys → TextStored s p xs s' q
  storing-none e h = record { bytes = rw e at h.bytes; behind = omega (arith, h.behind, ap length e) }

  pub storing-past : {ys zs ws s'' : List ℕ} {r : ℕ} → ws ≡ ys ++ zs → Storing s p xs s' q ws → TextStored s' q ys s'' r → Storing s p xs s'' r zs
  storing-past {ys} {zs} e h i =
      let j : Storing s p xs s' q (ys ++ zs) = rw e at h in
      record {
        bytes = rw (i.bytes, i.behind, ← sets-append ys zs s' q) j.bytes;
        behind = omega (arith, i.behind, j.behind, length-append ys zs);
        same = rw i.bytes (length-sets s' q ys ∙ h.same);
      }

pub stored-then : {s : List ℕ} {p : ℕ} {xs s₁ : List ℕ} {q : ℕ} {ys s₂ : List ℕ} {r : ℕ} → TextStored s p xs s₁ q → TextStored s₁ q ys s₂ r → TextStored s p (xs ++ ys) s₂ r
stored-then {s} {p} {xs} {s₁} {q} {ys} {s₂} {r} h i =
    record {
      bytes = i.bytes ∙ rw (h.bytes, h.behind) (sym (sets-append xs ys s p));
      behind = simp length-append (omega (arith, h.behind, i.behind));
    }

-- what was stored at the start of a buffer that has room for it
pub stored-front : {s xs s' : List ℕ} {n : ℕ} → TextStored s 0 xs s' n → n ≤ length s → text_left n s' ≡ leaves_text xs s
unfolding leaves_text
stored-front {s} {xs} {s'} {n} h i =
    let z : 0 + length xs ≡ length xs = omega arith in
    let k : n ≡ length xs = h.behind ∙ z in
    let all : s' ≡ xs ++ drop (length xs) s = rw z at (h.bytes ∙ sets-eq xs s 0 (omega arith)) in
    λ j. record { count = k j; buffer = all j }

-- the bytes that are answered stand in the buffer, so a caller may hand them on
module _ (xs s : List ℕ) {n : ℕ} {s' : List ℕ} (left : text_left n s' ≡ leaves_text xs s) where
  pub left-within : n ≤ length s'
  unfolding leaves_text
  left-within = omega (arith, ap (λ l. l.count) left, ap (λ l. length l.buffer) left, length-append xs (drop (length xs) s))

  pub left-counted : n ≡ length (take n s')
  left-counted = sym (length-take-le n s' left-within)
