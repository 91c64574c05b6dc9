-- Laws of records in bytes, over the format: what is read of a record is what it was written from, and the other way round.
use mathlib.Core.Path.{◌≡◌, refl, sym, ◌∙◌, ap}
use mathlib.Core.List.{List, [], ◌∷◌, ◌++◌, append_assoc, append-nil}
use Prim.Native.Nat.{ℕ, zero, suc, ◌+◌, ◌*◌, ◌/◌, ◌^◌, ◌<◌, ◌≤◌}
use native.Mathlib.Nat.{add-zero, add_assoc, zero-add, suc-add, mul-zero}
use native.Mathlib.Omega.{arith}
use lib.Dec.{lit<}
use lib.ListN.{length, take, drop, get_or, set, length-append, length-drop, take-append-drop}
use lib.Seq.{get_or-drop, drop-drop, drop_at, take_at, length-take-le, ext_get_or, sets, sets-eq}
use Rattle.byte_records.specs.Number.{bytes_of, number_of, number_at, Bytes}
use Rattle.byte_records.specs.Format.{Format, width_of, field_at, fields_from, fields_at, record_bytes}
use Rattle.byte_records.specs.Inside.Fits.{Fits}
use Rattle.byte_records.proofs.Number.{length-bytes_of, number_of-bytes_of, number_of-below, bytes_of-number_of}

pub length-record : (format : Format) (ns : List ℕ) → length (record_bytes format ns) ≡ width_of format
unfolding record_bytes
length-record [] ns = refl
length-record (w ∷ ws) ns = simp (length-append, length-bytes_of) (rw (length-record ws (drop 1 ns)) refl)

get_or-next : (ns : List ℕ) (k : ℕ) → get_or (drop 1 ns) k 0 ≡ get_or ns (suc k) 0
get_or-next [] k = refl
get_or-next (n ∷ ns) k = refl

-- a field ends within the record
field-within : (format : Format) (k : ℕ) → width_of (take k format) + get_or format k 0 ≤ width_of format
field-within [] zero = omega arith
field-within [] (suc k) = omega arith
field-within (w ∷ ws) zero = omega arith
field-within (w ∷ ws) (suc k) = omega (arith, field-within ws k)

-- stores behind the front xs
pub sets_behind : (xs ys vs : List ℕ) (i : ℕ) → sets (xs ++ ys) (length xs + i) vs ≡ xs ++ sets ys i vs
sets_behind [] ys vs i = rw zero-add refl
sets_behind (x ∷ xs) ys vs i = rw suc-add (go vs (length xs + i) (xs ++ ys)) ∙ ap (λ zs. x ∷ zs) (sets_behind xs ys vs i)
  where
    go : (vs : List ℕ) (j : ℕ) (zs : List ℕ) → sets (x ∷ zs) (suc j) vs ≡ x ∷ sets zs j vs
    go [] j zs = refl
    go (v ∷ vs) j zs = go vs (suc j) (set zs j v)

-- a number stored in field k
pub field-set : (format : Format) (ns rest : List ℕ) (k v : ℕ) → k < length ns →
    sets (record_bytes format ns ++ rest) (width_of (take k format)) (bytes_of (get_or format k 0) v) ≡ record_bytes format (set ns k v) ++ rest
unfolding record_bytes
field-set [] ns rest zero v h = unfold bytes_of in refl
field-set [] ns rest (suc k) v h = unfold bytes_of in refl
field-set (w ∷ ws) [] rest k v h = absurd (omega arith)
field-set (w ∷ ws) (n ∷ ns) rest zero v h =
    let long : 0 + length (bytes_of w v) ≤ length (bytes_of w n ++ (record_bytes ws ns ++ rest)) = simp (length-append, length-bytes_of) (omega arith) in
    rw (append_assoc, sets-eq (bytes_of w v) (bytes_of w n ++ (record_bytes ws ns ++ rest)) 0 long, zero-add, length-bytes_of w v, drop_at (bytes_of w n) (record_bytes ws ns ++ rest) w (length-bytes_of w n))
    (sym (append_assoc (bytes_of w v) (record_bytes ws ns) rest))
field-set (w ∷ ws) (n ∷ ns) rest (suc k) v h =
    let e : w + width_of (take k ws) ≡ length (bytes_of w n) + width_of (take k ws) = rw (length-bytes_of w n) refl in
    rw (append_assoc, e, sets_behind (bytes_of w n) (record_bytes ws ns ++ rest) (bytes_of (get_or ws k 0) v) (width_of (take k ws)), field-set ws ns rest k v (omega arith))
    (sym (append_assoc (bytes_of w n) (record_bytes ws (set ns k v)) rest))

-- the bytes of field k
field-bytes : (format : Format) (ns rest : List ℕ) (k : ℕ) →
    take (get_or format k 0) (drop (width_of (take k format)) (record_bytes format ns ++ rest)) ≡ bytes_of (get_or format k 0) (get_or ns k 0)
unfolding record_bytes
field-bytes [] ns rest k = unfold bytes_of in refl
field-bytes (w ∷ ws) ns rest zero = rw append_assoc (take_at (bytes_of w (get_or ns 0 0)) (record_bytes ws (drop 1 ns) ++ rest) w (length-bytes_of w (get_or ns 0 0)))
field-bytes (w ∷ ws) ns rest (suc k) =
    rw (append_assoc, ← drop-drop, drop_at (bytes_of w (get_or ns 0 0)) (record_bytes ws (drop 1 ns) ++ rest) w (length-bytes_of w (get_or ns 0 0)), ← get_or-next ns k)
    (field-bytes ws (drop 1 ns) rest k)

fits_each : (format : Format) (ns : List ℕ) → ((k : ℕ) → k < length format → get_or ns k 0 < 256 ^ get_or format k 0) → Fits format ns
fits_each [] ns h = tt
fits_each (w ∷ ws) ns h = (h 0 (omega arith), fits_each ws (drop 1 ns) (λ k n. rw (get_or-next ns k) (h (suc k) (omega arith))))

fits-at : (format : Format) (ns : List ℕ) → Fits format ns → (k : ℕ) → k < length format → get_or ns k 0 < 256 ^ get_or format k 0
fits-at [] ns h k n = absurd (omega arith)
fits-at (w ∷ ws) ns h zero n = h.0
fits-at (w ∷ ws) ns h (suc k) n = rw (← get_or-next ns k) (fits-at ws (drop 1 ns) h.1 k (omega arith))

length_fields : (format : Format) (b : List ℕ) (i k n : ℕ) → length (fields_from format k n b i) ≡ n
unfolding fields_from
length_fields format b i k zero = refl
length_fields format b i k (suc n) = ap suc (length_fields format b i (suc k) n)

get_or-fields : (format : Format) (b : List ℕ) (i k n j : ℕ) → j < n → get_or (fields_from format k n b i) j 0 ≡ field_at format (k + j) b i
unfolding fields_from
get_or-fields format b i k zero j h = absurd (omega arith)
get_or-fields format b i k (suc n) zero h = rw add-zero refl
get_or-fields format b i k (suc n) (suc j) h = get_or-fields format b i (suc k) n j (omega arith) ∙ (let e : suc k + j ≡ k + suc j = omega arith in rw e refl)

-- record i of b is written from ns, and rest comes behind it
module _ (format : Format) (ns b rest : List ℕ) (i : ℕ) (written : drop (width_of format * i) b ≡ record_bytes format ns ++ rest) where
  -- of a number that may be too large, what its bytes tell
  pub field_stored : (k : ℕ) → field_at format k b i ≡ number_of (bytes_of (get_or format k 0) (get_or ns k 0))
  unfolding field_at number_at
  field_stored k = rw (← drop-drop, written, field-bytes format ns rest k) refl

  pub field-read : (k : ℕ) → get_or ns k 0 < 256 ^ get_or format k 0 → field_at format k b i ≡ get_or ns k 0
  field-read k h = field_stored k ∙ number_of-bytes_of (get_or format k 0) (get_or ns k 0) h

  pub fields_read : Fits format ns → length ns ≡ length format → fields_at format b i ≡ ns
  fields_read h n =
      let m = length_fields format b i 0 (length format) in
      ext_get_or 0 (fields_at format b i) ns (m ∙ sym n)
      (λ k j. get_or-fields format b i 0 (length format) k (omega arith) ∙ rw zero-add (field-read k (fits-at format ns h k (omega arith))))

  pub next-read : drop (width_of format * (i + 1)) b ≡ rest
  next-read =
      let e : width_of format * (i + 1) ≡ width_of format * i + width_of format = omega arith in
      rw (e, ← drop-drop, written) (drop_at (record_bytes format ns) rest (width_of format) (length-record format ns))

-- records with the same bytes have the same numbers
pub record_same : (format : Format) (ns ms : List ℕ) → Fits format ns → Fits format ms → length ns ≡ length format → length ms ≡ length format →
    record_bytes format ns ≡ record_bytes format ms → ns ≡ ms
record_same format ns ms h k n m e =
    let b = record_bytes format ns in
    let written : (xs : List ℕ) → b ≡ record_bytes format xs → drop (width_of format * 0) b ≡ record_bytes format xs ++ [] = λ xs z. rw mul-zero (z ∙ sym (append-nil _)) in
    sym (fields_read format ns b [] 0 (written ns refl) h n) ∙ fields_read format ms b [] 0 (written ms e) k m

bytes_take : (w : ℕ) (x : List ℕ) → Bytes x → Bytes (take w x)
bytes_take zero x h p = lit< tt
bytes_take (suc w) [] h p = lit< tt
bytes_take (suc w) (a ∷ x) h zero = h 0
bytes_take (suc w) (a ∷ x) h (suc p) = bytes_take w x (λ q. h (suc q)) p

module _ (w : ℕ) (b : List ℕ) (p : ℕ) (bytes : Bytes b) (fits : p + w ≤ length b) where
  part_length : length (take w (drop p b)) ≡ w
  part_length = length-take-le w (drop p b) (omega (arith, length-drop p b))

  part_bytes : Bytes (take w (drop p b))
  part_bytes = bytes_take w (drop p b) (λ q. rw get_or-drop (bytes (p + q)))

  pub number_at-below : number_at w b p < 256 ^ w
  unfolding number_at
  number_at-below = rw part_length at (number_of-below (take w (drop p b)) part_bytes)

  part-written : bytes_of w (number_at w b p) ≡ take w (drop p b)
  unfolding number_at
  part-written = rw part_length at (bytes_of-number_of (take w (drop p b)) part_bytes)

-- bytes that give one number are the same
pub part_same : (w : ℕ) (b c : List ℕ) (p q : ℕ) → Bytes b → Bytes c → p + w ≤ length b → q + w ≤ length c → number_at w b p ≡ number_at w c q →
    take w (drop p b) ≡ take w (drop q c)
part_same w b c p q f g h k e = sym (part-written w b p f h) ∙ ap (bytes_of w) e ∙ part-written w c q g k

-- the bytes from p on, by the numbers that are read there
numbers-written : (format : Format) (ns b : List ℕ) (p : ℕ) → Bytes b → p + width_of format ≤ length b →
    ((k : ℕ) → k < length format → get_or ns k 0 ≡ number_at (get_or format k 0) b (p + width_of (take k format))) →
    drop p b ≡ record_bytes format ns ++ drop (p + width_of format) b
unfolding record_bytes
numbers-written [] ns b p bytes fits h = rw add-zero refl
numbers-written (w ∷ ws) ns b p bytes fits h =
    let first : get_or ns 0 0 ≡ number_at w b p = rw add-zero at (h 0 (omega arith)) in
    let next : drop (p + w) b ≡ record_bytes ws (drop 1 ns) ++ drop (p + (w + width_of ws)) b =
    rw add_assoc at (numbers-written ws (drop 1 ns) b (p + w) bytes (omega arith) (λ k n. get_or-next ns k ∙ rw add_assoc (h (suc k) (omega arith)))) in
    sym (take-append-drop w (drop p b)) ∙ rw (← part-written w b p bytes (omega arith), drop-drop, first, next, append_assoc) refl

-- record i stands in b
module _ (format : Format) (b : List ℕ) (i : ℕ) (bytes : Bytes b) (fits : width_of format * (i + 1) ≤ length b) where
  pub field_below : (k : ℕ) → field_at format k b i < 256 ^ get_or format k 0
  unfolding field_at
  field_below k = number_at-below (get_or format k 0) b (width_of format * i + width_of (take k format)) bytes (omega (arith, field-within format k))

  pub record-written : drop (width_of format * i) b ≡ record_bytes format (fields_at format b i) ++ drop (width_of format * (i + 1)) b
  record-written =
      let e : width_of format * (i + 1) ≡ width_of format * i + width_of format = omega arith in
      rw e (numbers-written format (fields_at format b i) b (width_of format * i) bytes (omega arith)
      (λ k n. get_or-fields format b i 0 (length format) k n ∙ rw zero-add (unfold field_at in refl)))

  pub record-fits : Fits format (fields_at format b i)
  record-fits =
      fits_each format (fields_at format b i)
      (λ k n. rw (get_or-fields format b i 0 (length format) k n, zero-add) (field_below k))

-- each element of a record is a byte
bytes-cons : (x : ℕ) (xs : List ℕ) → x < 256 → Bytes xs → Bytes (x ∷ xs)
bytes-cons x xs h i zero = h
bytes-cons x xs h i (suc p) = i p

pub bytes-append : (xs ys : List ℕ) → Bytes xs → Bytes ys → Bytes (xs ++ ys)
bytes-append [] ys h i = i
bytes-append (x ∷ xs) ys h i = bytes-cons x (xs ++ ys) (h 0) (bytes-append xs ys (λ p. h (suc p)) i)

bytes-number : (w n : ℕ) → Bytes (bytes_of w n)
unfolding bytes_of
bytes-number zero n = λ p. omega arith
bytes-number (suc w) n = bytes-cons _ (bytes_of w (n / 256)) (omega arith) (bytes-number w (n / 256))

pub bytes-record : (format : Format) (ns : List ℕ) → Bytes (record_bytes format ns)
unfolding record_bytes
bytes-record [] ns = λ p. omega arith
bytes-record (w ∷ ws) ns = bytes-append (bytes_of w (get_or ns 0 0)) (record_bytes ws (drop 1 ns)) (bytes-number w (get_or ns 0 0)) (bytes-record ws (drop 1 ns))
