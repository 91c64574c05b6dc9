-- A key is compared with the bytes of a text, one by one or as numbers, and found by halving.
use mathlib.Core.Path.{◌≡◌, refl, sym, ◌∙◌, ap, subst}
use mathlib.Core.Bool.{Bool, true, false, cond}
use mathlib.Core.List.{List, [], ◌∷◌}
use Prim.Native.Nat.{ℕ, zero, suc, ◌+◌, ◌*◌, ◌-◌, ◌≤◌, ◌<◌}
use native.Mathlib.Numerals.{add-one}
use native.Mathlib.Nat.{zero-add, add-zero}
use native.Mathlib.Omega.{arith}
use lib.Dec.{eqb, ltb}
use lib.ListN.{length, get_or, take, drop, drop_of_length-le}
use borrow.Author.Tests.{eqb-true, eqb-false, eq-eqb, ne_eqb, ltb-true, ltb-false, lt-ltb, not-true}
use Rattle.std.proofs.Common.{Some, ◌⊎◌, inl, inr}
use Rattle.std.proofs.lemmas.Bool.{false≢true}
use Rattle.std.specs.declared.cmp.Ordering.{Ordering}
use Rattle.std.specs.declared.cmp.Ordering.TheVariants.{Less, Equal, Greater}
use Rattle.std.specs.Ordering.{is_eq, nat_cmp, ordering_then}
use Rattle.std.specs.Cmp.Lexicographic.{slice_cmp}
use Rattle.byte_records.specs.Number.{number_at, Bytes}
use Rattle.json_theory.specs.Book.{book_size, key_of, before, book_records, book_keys, bad_book, place_of}
use Rattle.json_theory.specs.Inside.Scanning.{byte_at, Running, between}
use Rattle.key_book.specs.Inside.Records.{book_record, HasRecord, OrderIs, is_filled, Sought, listed}
use Rattle.json_theory.proofs.Book.{place-of, keys_length}
use Rattle.json_theory.proofs.Scanning.{between-length, between-byte}
use Rattle.key_book.proofs.Halving.{key-at, Among, among-left, among-right}
use Rattle.key_book.proofs.GoodBook.{from_on, record-byte, record-length, book-ascends}
use Rattle.key_book.proofs.Words.{word_bytes, word_end}

-- a record against bytes without zeros: where the first bytes of both are the same, what stands behind them in the record decides
abbrev Compared : List ℕ → List ℕ → Ordering → Type 0
Compared r w Less = before (key_of r) w ≡ true
Compared r w Equal = (get_or r (length w) 0 ≡ 0 → key_of r ≡ w) × ((get_or r (length w) 0 ≡ 0 → ⊥) → before w (key_of r) ≡ true)
Compared r w Greater = before w (key_of r) ≡ true

order-by : (r w : List ℕ) (o : Ordering) → Compared r w o → is_eq o ≡ false ⊎ (get_or r (length w) 0 ≡ 0) → OrderIs (key_of r) w o
order-by r w Less h e = h
order-by r w Equal h (inl e) = absurd (false≢true (sym e))
order-by r w Equal h (inr e) = h.0 e
order-by r w Greater h e = h

longer-by : (r w : List ℕ) (o : Ordering) → Compared r w o → is_eq o ≡ true → (get_or r (length w) 0 ≡ 0 → ⊥) → before w (key_of r) ≡ true
longer-by r w Less h e n = absurd (false≢true e)
longer-by r w Equal h e n = h.1 n
longer-by r w Greater h e n = h

abbrev Filled : List ℕ → Type 0
Filled w = (i : ℕ) → i < length w → 1 ≤ get_or w i 0

compared-end : (r : List ℕ) → Compared r [] Equal
unfolding before key_of
compared-end [] = (λ _. refl, λ h. absurd (h refl))
compared-end (c ∷ r) = (λ h. rw (eq-eqb c 0 h) refl, λ h. rw (ne_eqb c 0 h) refl)

compared-on : (c d : ℕ) (r w : List ℕ) (o : Ordering) → c ≡ d → 1 ≤ d → Compared r w o → Compared (c ∷ r) (d ∷ w) o
unfolding before key_of
compared-on c d r w Less e l h = rw (ne_eqb c 0 (λ x. omega arith), eq-eqb c d e, h) (mathlib.Core.Bool.or-true (ltb c d))
compared-on c d r w Equal e l h =
    (λ z. rw (ne_eqb c 0 (λ x. omega arith), e) (ap (λ (x : List ℕ). d ∷ x) (h.0 z)), λ z. rw (ne_eqb c 0 (λ x. omega arith), eq-eqb d c (sym e), h.1 z) (mathlib.Core.Bool.or-true (ltb d c)))
compared-on c d r w Greater e l h = rw (ne_eqb c 0 (λ x. omega arith), eq-eqb d c (sym e), h) (mathlib.Core.Bool.or-true (ltb d c))

compared : (r w : List ℕ) → Filled w → length w ≤ length r → Compared r w (slice_cmp nat_cmp (take (length w) r) w)
unfolding before key_of
compared r [] f l = compared-end r
compared [] (d ∷ w) f l = absurd (omega arith)
compared (c ∷ r) (d ∷ w) f l =
    look (compared r w (λ i m. f (suc i) (omega arith)) (omega arith)) (ltb c d) (eqb c d) refl refl
  where
    look : Compared r w (slice_cmp nat_cmp (take (length w) r) w) → (s t : Bool) → ltb c d ≡ s → eqb c d ≡ t → Compared (c ∷ r) (d ∷ w) (ordering_then (cond s Less (cond t Equal Greater)) (slice_cmp nat_cmp (take (length w) r) w))
    look h true t p q = less (eqb c 0) refl
      where
        less : (z : Bool) → eqb c 0 ≡ z → before (cond z [] (c ∷ key_of r)) (d ∷ w) ≡ true
        less true e = refl
        less false e = rw p refl
    look h false true p q =
        compared-on c d r w (slice_cmp nat_cmp (take (length w) r) w) (eqb-true c d q) (f 0 (omega arith)) h
    look h false false p q =
        let m : d < c = omega (arith, ltb-false c d p, eqb-false c d q) in
        rw (ne_eqb c 0 (λ x. omega arith), lt-ltb d c m) refl

-- record i of a book, `key`, against the bytes of a text from p to q
module _ (book : List ℕ) (i : ℕ) (text : List ℕ) (p q : ℕ) (sought : Sought book i text p q) where
  text-length : length (between text p q) ≡ q - p
  text-length = between-length text p q sought.1.upto

  filled_text : Filled (between text p q)
  filled_text j l =
      let n = text-length in
      let z : get_or (between text p q) j 0 ≡ byte_at text (p + j) = between-byte text p q j (omega arith) in
      omega (arith, eqb-false (byte_at text (p + j)) 0 (not-true (eqb (byte_at text (p + j)) 0) (sought.1.passes (p + j) (omega arith) (omega arith))))

  module _ (key : List ℕ) (o : Ordering) (is : key ≡ book_record book i) (e : o ≡ slice_cmp nat_cmp (take (q - p) key) (between text p q)) where
    compared-text : Compared key (between text p q) o
    compared-text =
        let n = text-length in
        let m : length key ≡ book_size = ap length is ∙ record-length book i sought.0.0 in
        let h : Compared key (between text p q) (slice_cmp nat_cmp (take (length (between text p q)) key) (between text p q)) = compared key (between text p q) filled_text (omega arith) in
        subst (Compared key (between text p q)) (ap (λ (x : ℕ). slice_cmp nat_cmp (take x key) (between text p q)) n ∙ sym e) h

    pub key-longer : is_eq o ≡ true → (get_or key (q - p) 0 ≡ 0 → ⊥) → before (between text p q) (key_of (book_record book i)) ≡ true
    key-longer t h =
        subst (λ (r : List ℕ). before (between text p q) (key_of r) ≡ true) is
        (longer-by key (between text p q) o compared-text t (λ z. h (ap (λ (x : ℕ). get_or key x 0) (sym text-length) ∙ z)))

    pub key-ordered : is_eq o ≡ false ⊎ (get_or key (q - p) 0 ≡ 0) → OrderIs (key_of (book_record book i)) (between text p q) o
    key-ordered h =
        subst (λ (r : List ℕ). OrderIs (key_of r) (between text p q) o) is (order-by key (between text p q) o compared-text (or_zero h))
      where
        or_zero : is_eq o ≡ false ⊎ (get_or key (q - p) 0 ≡ 0) → is_eq o ≡ false ⊎ (get_or key (length (between text p q)) 0 ≡ 0)
        or_zero (inl t) = inl t
        or_zero (inr z) = inr (ap (λ (x : ℕ). get_or key x 0) text-length ∙ z)

-- a key against bytes without zeros, of which the first k are the key's
record Matched (r w : List ℕ) (k : ℕ) : Type 0 where
  same : key_of (drop k r) ≡ drop k w → key_of r ≡ w

matched-start : (r w : List ℕ) → Matched r w 0
matched-start r w = record { same = λ h. h }

module _ (r w : List ℕ) (k : ℕ) (m : Matched r w k) where
  matched-on : k < length r → k < length w → get_or r k 0 ≡ get_or w k 0 → 1 ≤ get_or w k 0 → Matched r w (k + 1)
  unfolding key_of
  matched-on l n e f =
      let a = from_on r k l in
      let b = from_on w k n in
      let z : key_of (drop k r) ≡ get_or w k 0 ∷ key_of (drop (k + 1) r) = rw (a, ne_eqb (get_or r k 0) 0 (λ x. omega arith), e) refl in
      record { same = λ h. m.same (z ∙ ap (λ (x : List ℕ). get_or w k 0 ∷ x) h ∙ sym b) }

  matched-whole : length w ≤ k → length r ≤ k → key_of r ≡ w
  unfolding key_of
  matched-whole n l = m.same (rw (drop_of_length-le r {i = k} l, drop_of_length-le w {i = k} n) refl)

  matched-end : length w ≤ k → k < length r → get_or r k 0 ≡ 0 → key_of r ≡ w
  unfolding key_of
  matched-end n l h = m.same (rw (from_on r k l, drop_of_length-le w {i = k} n, eq-eqb (get_or r k 0) 0 h) refl)

-- record i of a book against the bytes of a text from p to q
pub record Comparing (book : List ℕ) (i : ℕ) (text : List ℕ) (p q k : ℕ) : Type 0 where
  has : HasRecord book i
  filled : Running is_filled text p q
  short : q ≤ p + book_size
  matched : Matched (book_record book i) (between text p q) k

pub comparing-start : {book : List ℕ} {i : ℕ} {text : List ℕ} {p q : ℕ} → HasRecord book i → Running is_filled text p q → q ≤ p + book_size → Comparing book i text p q 0
comparing-start h r s = record { has = h; filled = r; short = s; matched = matched-start _ _ }

module _ {book : List ℕ} {i : ℕ} {text : List ℕ} {p q k : ℕ} (m : Comparing book i text p q k) where
  r-length : length (book_record book i) ≡ book_size
  r-length = record-length book i m.has.0

  w-length : length (between text p q) ≡ q - p
  w-length = between-length text p q m.filled.upto

  in-record : p + k < q → k < length (book_record book i)
  in-record l = omega (arith, r-length, m.short)

  in-text : p + k < q → k < length (between text p q)
  in-text l = omega (arith, w-length)

  behind-text : q ≤ p + k → length (between text p q) ≤ k
  behind-text l = omega (arith, w-length)

  filled-byte : p + k < q → 1 ≤ byte_at text (p + k)
  filled-byte l = omega (arith, eqb-false (byte_at text (p + k)) 0 (not-true (eqb (byte_at text (p + k)) 0) (m.filled.passes (p + k) (omega arith) l)))

  comparing-on : p + k < q → get_or (book_record book i) k 0 ≡ byte_at text (p + k) → Comparing book i text p q (k + 1)
  comparing-on l e =
      let z = between-byte text p q k l in
      record {
        has = m.has;
        filled = m.filled;
        short = m.short;
        matched = matched-on _ _ _ m.matched (in-record l) (in-text l) (e ∙ sym z) (omega (arith, z, filled-byte l));
      }

  comparing-whole : q ≤ p + k → book_size ≤ k → key_of (book_record book i) ≡ between text p q
  comparing-whole l h = matched-whole _ _ _ m.matched (behind-text l) (omega (arith, r-length))

  comparing-end : q ≤ p + k → k < book_size → get_or (book_record book i) k 0 ≡ 0 → key_of (book_record book i) ≡ between text p q
  comparing-end l h e = matched-end _ _ _ m.matched (behind-text l) (omega (arith, r-length)) e

-- more bytes at once: w of the text's from the s-th on give the number of w + v of the record's
comparing-far : {book : List ℕ} {i : ℕ} {text : List ℕ} {p q k : ℕ} (m : ℕ) → Comparing book i text p q k → p + (k + m) ≤ q →
    ((j : ℕ) → k ≤ j → j < k + m → get_or (book_record book i) j 0 ≡ byte_at text (p + j)) → Comparing book i text p q (k + m)
comparing-far zero h l f = rw add-zero h
comparing-far {k = k} (suc m) h l f =
    let e : k + suc m ≡ k + 1 + m = omega arith in
    rw e (comparing-far {k = k + 1} m (comparing-on h (omega arith) (f k (omega arith) (omega arith))) (omega arith) (λ j a b. f j (omega arith) (omega arith)))

pub comparing-word : {book : List ℕ} {i : ℕ} {text : List ℕ} {p q k : ℕ} (w v s : ℕ) → Bytes text → Bytes book → Comparing book i text p q k →
    s ≤ k → k ≤ s + w → p + s + w ≤ q → s + (w + v) ≤ book_size → number_at w text (p + s) ≡ number_at (w + v) book (book_size * i + s) → Comparing book i text p q (s + w)
comparing-word {book} {i} {text} {p} {q} {k} w v s bt bb h l m n u e =
    let z : k + (s + w - k) ≡ s + w = omega arith in
    subst (Comparing book i text p q) z (comparing-far (s + w - k) h (omega arith) byte)
  where
    byte : (j : ℕ) → k ≤ j → j < k + (s + w - k) → get_or (book_record book i) j 0 ≡ byte_at text (p + j)
    byte j a b =
        let x : p + s + (j - s) ≡ p + j = omega arith in
        let y : book_size * i + s + (j - s) ≡ book_size * i + j = omega arith in
        let f = word_bytes text book bt bb w v (p + s) (book_size * i + s) (omega (arith, h.filled.upto)) (omega (arith, h.has.0)) e (j - s) (omega arith) in
        record-byte book i j (omega arith) ∙ rw (x, y) at f

pub comparing-done : {book : List ℕ} {i : ℕ} {text : List ℕ} {p q k : ℕ} → Comparing book i text p q k → q ≤ p + k → (k < book_size → get_or (book_record book i) k 0 ≡ 0) →
    key_of (book_record book i) ≡ between text p q
comparing-done {book} {i} {text} {p} {q} {k} h l f = look (ltb k book_size) refl
  where
    look : (t : Bool) → ltb k book_size ≡ t → key_of (book_record book i) ≡ between text p q
    look true e = comparing-end h l (ltb-true k book_size e) (f (ltb-true k book_size e))
    look false e = comparing-whole h l (ltb-false k book_size e)

-- a short key is one number, with the zeros behind it
pub comparing-short : (book : List ℕ) (i : ℕ) (text : List ℕ) (p q : ℕ) → Bytes text → Bytes book → Sought book i text p q → q < p + 8 →
    number_at (q - p) text p ≡ number_at 8 book (book_size * i) → key_of (book_record book i) ≡ between text p q
comparing-short book i text p q bt bb (h, r, s) l e =
    let n = q - p in
    let v = 7 - n in
    let z : 8 ≡ n + suc v = omega arith in
    let x : p + 0 ≡ p = omega arith in
    let y : book_size * i + 0 ≡ book_size * i = omega arith in
    let f : number_at n text p ≡ number_at (n + suc v) book (book_size * i) = e ∙ ap (λ (w : ℕ). number_at w book (book_size * i)) z in
    let g = word_end text book bt bb n v p (book_size * i) (omega (arith, r.from, r.upto)) (omega arith) f in
    comparing-done (comparing-word n (suc v) 0 bt bb (comparing-start h r s) (omega arith) (omega arith) (omega (arith, r.from)) (omega arith) (rw (x, y) f))
    (omega arith) (λ m. record-byte book i (0 + n) (omega arith) ∙ rw zero-add g)

-- halving
pub key-of : (b : List ℕ) (i : ℕ) → i < book_records b → get_or (book_keys b) i [] ≡ key_of (book_record b i)
unfolding book_record
key-of b i l = key-at (book_records b) i b l

pub among-all : (w b : List ℕ) → Among w (book_keys b) 0 (book_records b)
among-all w b j l e = (omega arith, omega (arith, keys_length (book_records b) b))

module _ (b w : List ℕ) (up : bad_book b ≡ false) (m : ℕ) (l : m < book_records b) where
  in-book : m < length (book_keys b)
  in-book = omega (arith, keys_length (book_records b) b)

  pub key-found : key_of (book_record b m) ≡ w → Some (m + 1) ≡ listed (place_of w 1 (book_keys b))
  key-found e =
      let z : 1 + m ≡ m + 1 = omega arith in
      let f : place_of w 1 (book_keys b) ≡ m + 1 = subst (λ (x : List ℕ). place_of x 1 (book_keys b) ≡ m + 1) (key-of b m l ∙ e) (place-of 1 (book_keys b) m (book-ascends b up) in-book ∙ z) in
      rw (f, add-one) refl

module _ (b w : List ℕ) (up : bad_book b ≡ false) (low high m : ℕ) (l : m < book_records b) (h : Among w (book_keys b) low high) where
  pub halve-left : before w (key_of (book_record b m)) ≡ true → Among w (book_keys b) low m
  halve-left e = among-left w (book_keys b) (book-ascends b up) low high m (in-book b w up m l) h (rw (key-of b m l) e)

  pub halve-right : before (key_of (book_record b m)) w ≡ true → Among w (book_keys b) (m + 1) high
  halve-right e = among-right w (book_keys b) (book-ascends b up) low high m (in-book b w up m l) h (rw (key-of b m l) e)
