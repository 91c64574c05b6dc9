-- Records that have the same bytes are equal values, and equal values are added at once.
use mathlib.Core.Path.{◌≡◌, refl, sym, ◌∙◌, ap, subst}
use mathlib.Core.Bool.{Bool, true, false}
use mathlib.Core.List.{List, [], ◌∷◌, ◌++◌, append_assoc}
use Prim.Native.Nat.{ℕ, zero, suc, ◌+◌, ◌-◌, ◌*◌, ◌/◌, ◌≤◌, ◌<◌}
use native.Mathlib.Nat.{mul-suc, mul-one, add_assoc}
use native.Mathlib.Omega.{arith}
use native.Mathlib.Decide.{dec_lt}
use lib.Dec.{eqb}
use lib.ListN.{length, take, drop, get_or, length-append, length-drop, take-append-drop}
use lib.Seq.{take-take, take-add, drop-drop, take_at, drop_at}
use Rattle.value_table.specs.Value.{Head, value_format, record_size, record_kind, max_length, header, Values, none, value, size, encode, Proper, ValidAt}
use Rattle.value_table.specs.Inside.RecordBytes.{record_at}
use Rattle.byte_records.proofs.Format.{length-record, record_same}
use Rattle.value_table.proofs.TableLayout.{value-fits, length-encode}
use Rattle.counting_theory.specs.Trie.{add, Sorted}
use Rattle.counting_theory.specs.Label.{Counting, CountingType}
use Rattle.counting_theory.specs.declared.equivalence.Equivalence.{Equivalence}
use Rattle.counting_theory.specs.Raw.{raw}
use Rattle.counting_theory.specs.Inside.Times.{times}
use Rattle.inference.specs.Inside.Inferring.{EqualRecords, MostEqualRecords, MostEqualValues}
use Rattle.counting_theory.proofs.Label.{counting-laws}
use Rattle.counting_theory.proofs.Trie.Sorted.{sorted-add}
use Rattle.counting_theory.proofs.Times.{add_times}

-- a value n times, then others
unfoldable pub copies : ℕ → Head → ℕ → Values → Values → Values
copies zero head key content rest = rest
copies (suc n) head key content rest = value head key content (copies n head key content rest)

-- the first value of a run is added before the others
add-value : (e : Equivalence) (field : Bool) (w : ℕ) (head : Head) (key : ℕ) (content next : Values) (g : CountingType) →
    add Counting (times w (raw e field (value head key content next))) g ≡ add Counting (times w (raw e field next)) (add Counting (times w (raw e field (value head key content none))) g)
unfolding raw times add
add-value e true w head key content next g = refl
add-value e false w head key content next g = refl

module _ {t : List ℕ} {i j : ℕ} where
  pub equal-none : record_size * j ≤ length t → EqualRecords t i j 0
  equal-none h = record { within = omega arith; same = λ x l. absurd (omega arith) }

  pub equal_next : (n : ℕ) → EqualRecords t i j n → record_size * (j + n + 1) ≤ length t → record_at t (i + n) ≡ record_at t (j + n) → EqualRecords t i j (n + 1)
  equal_next n q h e = record { within = omega arith; same = λ x l. go x l (dec_lt x n) }
    where
      go : (x : ℕ) → x < n + 1 → Dec (x < n) → record_at t (i + x) ≡ record_at t (j + x)
      go x l (yes m) = q.same x m
      go x l (no m) = let z : x ≡ n = omega arith in rw z e

  pub equal-fewer : (n m : ℕ) → m ≤ n → EqualRecords t i j n → EqualRecords t i j m
  equal-fewer n m h q = record { within = omega (arith, q.within); same = λ x l. q.same x (omega arith) }

  -- the same from record i + k on
  equal-later : (k m n : ℕ) → k + m ≤ n → EqualRecords t i j n → EqualRecords t (i + k) (j + k) m
  equal-later k m n h q = record { within = omega (arith, q.within); same = λ x l. rw (add_assoc i k x, add_assoc j k x) (q.same (k + x) (omega arith)) }

-- as many equal values as there are whole ones in the most equal records
pub most_values : (t : List ℕ) (i next n r : ℕ) → (next - i) * r ≤ n → n < (next - i) * (r + 1) → MostEqualRecords t i next (length t / record_size) n → MostEqualValues t i next r
most_values t i next n r h l q =
    record { equal = equal-fewer n _ h q.equal; differ = λ z. q.differ (omega (arith, z.within)) (z.same n l) }

-- equal records have the same bytes
pub same_bytes_lem : (t : List ℕ) (i j n : ℕ) → EqualRecords t i j n → take (record_size * n) (drop (record_size * i) t) ≡ take (record_size * n) (drop (record_size * j) t)
same_bytes_lem t i j zero q = refl
same_bytes_lem t i j (suc n) q =
    let m : record_size * suc n ≡ record_size * n + record_size = omega arith in
    let at : (x : ℕ) → record_size * x + record_size * n ≡ record_size * (x + n) = λ x. omega arith in
    let cut : (x : ℕ) → take (record_size * suc n) (drop (record_size * x) t) ≡ take (record_size * n) (drop (record_size * x) t) ++ record_at t (x + n) =
    λ x. ap (λ z. take z (drop (record_size * x) t)) m ∙ take-add (record_size * n) record_size (drop (record_size * x) t)
    ∙ ap (λ z. take (record_size * n) (drop (record_size * x) t) ++ take record_size z) (drop-drop (record_size * n) (record_size * x) t ∙ ap (λ z. drop z t) (at x)) in
    cut i ∙ rw (same_bytes_lem t i j n (equal-fewer (suc n) n (omega arith) q), q.same n (omega arith)) (sym (cut j))

-- a part of the front of a list
pub take-inside : (k m n : ℕ) (l : List ℕ) → k + m ≤ n → take m (drop k (take n l)) ≡ take m (drop k l)
take-inside zero m n l h = take-take m n l (omega arith)
take-inside (suc k) m zero l h = absurd (omega arith)
take-inside (suc k) m (suc n) [] h = refl
take-inside (suc k) m (suc n) (x ∷ l) h = take-inside k m n l (omega arith)

-- and the same bytes hold equal records
pub same-records : (t : List ℕ) (i j n : ℕ) → take (record_size * n) (drop (record_size * i) t) ≡ take (record_size * n) (drop (record_size * j) t) →
    (x : ℕ) → x < n → record_at t (i + x) ≡ record_at t (j + x)
same-records t i j n e x l =
    let part : (k : ℕ) → take record_size (drop (record_size * x) (take (record_size * n) (drop (record_size * k) t))) ≡ record_at t (k + x) =
    λ k. let z : record_size * k + record_size * x ≡ record_size * (k + x) = omega arith in
    take-inside (record_size * x) record_size (record_size * n) (drop (record_size * k) t) (omega arith)
    ∙ ap (take record_size) (drop-drop (record_size * x) (record_size * k) t ∙ ap (λ p. drop p t) z) in
    sym (part i) ∙ ap (λ b. take record_size (drop (record_size * x) b)) e ∙ part j

append-same : (a b x y : List ℕ) → length a ≡ length b → a ++ x ≡ b ++ y → (a ≡ b) × (x ≡ y)
append-same a b x y n e =
    let k = length a in
    (sym (take_at a x k refl) ∙ ap (take k) e ∙ take_at b y k (sym n), sym (drop_at a x k refl) ∙ ap (drop k) e ∙ drop_at b y k (sym n))

-- values that begin with the same bytes
module _ {a b : Bool} {d d' : ℕ} {head head' : Head} {key key' : ℕ} {content content' : Values} (v : Proper a d head key content) (w : Proper b d' head' key' content')
    (small : size content < max_length) (small' : size content' < max_length) where
  same-header : (x y : List ℕ) → header head key (1 + size content) ++ x ≡ header head' key' (1 + size content') ++ y →
      (head.kind ≡ head'.kind) × (key ≡ key') × (size content ≡ size content') × (x ≡ y)
  unfolding header
  same-header x y e =
      let z = append-same (header head key (1 + size content)) (header head' key' (1 + size content')) x y (length-record value_format _ ∙ sym (length-record value_format _)) e in
      let n = record_same value_format _ _ (value-fits a d head key content v (omega arith)) (value-fits b d' head' key' content' w (omega arith)) refl refl z.0 in
      (ap (λ ns. get_or ns 0 0) n, ap (λ ns. get_or ns 2 0) n, omega (arith, ap (λ ns. get_or ns 3 0) n), z.1)

same-values : (a b : Bool) (d d' : ℕ) (x y : List ℕ) (vs ws : Values) → size vs ≤ max_length → ValidAt a d vs → ValidAt b d' ws → size vs ≡ size ws → encode vs ++ x ≡ encode ws ++ y → vs ≡ ws
unfolding size encode ValidAt
same-values a b d d' x y none none m v w n e = refl
same-values a b d d' x y none (value k' l' c' r') m v w n e = absurd (omega arith)
same-values a b d d' x y (value k l c r) none m v w n e = absurd (omega arith)
same-values a b d d' x y (value k l c r) (value k' l' c' r') m v w n e =
    let h = same-header v.0 w.0 (omega arith) (omega arith) _ _ (simp append_assoc at e) in
    let inner : c ≡ c' = same-values (eqb k.kind record_kind) (eqb k'.kind record_kind) (suc d) (suc d') _ _ c c' (omega arith) v.1 w.1 h.2 h.3 in
    let z = append-same (encode c) (encode c') _ _ (length-encode c ∙ ap (λ k. record_size * k) h.2 ∙ sym (length-encode c')) h.3 in
    let outer : r ≡ r' = same-values a b d d' x y r r' (omega arith) v.2 w.2 (omega (arith, h.2)) z.1 in
    λ o. value (record { kind = h.0 o }) (h.1 o) (inner o) (outer o)

module _ (t : List ℕ) (short : length t ≤ max_length) (as_fields : Bool) (depth : ℕ) where
  -- the values behind the first one are n copies of it, then the rest
  pub record Copied (i : ℕ) (head : Head) (key : ℕ) (content next : Values) (n : ℕ) : Type 0 where
    pub rest : Values
    pub is-copies : next ≡ copies n head key content rest
    pub rest-bytes : drop (record_size * (i + (1 + size content) + (1 + size content) * n)) t ≡ encode rest
    pub rest-valid : ValidAt as_fields depth rest

  -- a value alone, and those behind it
  module _ (i : ℕ) (head : Head) (key : ℕ) (content next : Values) (e : drop (record_size * i) t ≡ encode (value head key content next)) where
    abbrev single : List ℕ
    single = encode (value head key content none)

    single-length : length single ≡ record_size * (1 + size content)
    unfolding size
    single-length = length-encode (value head key content none) ∙ omega arith

    single-next : drop (record_size * i) t ≡ single ++ encode next
    unfolding encode
    single-next = e ∙ simp append_assoc

    behind : drop (record_size * (i + (1 + size content))) t ≡ encode next
    behind =
        let p : record_size * (i + (1 + size content)) ≡ record_size * i + record_size * (1 + size content) = omega arith in
        rw (p, ← drop-drop, single-next) (drop_at single (encode next) _ single-length)

    here : take (record_size * (1 + size content)) (drop (record_size * i) t) ≡ single
    here = rw single-next (take_at single (encode next) _ single-length)

    bound : record_size * (1 + size content) ≤ length t - record_size * i
    bound = omega (arith, length-drop (record_size * i) t, ap length single-next, length-append single (encode next), single-length)

  pub copied : (n i : ℕ) (head : Head) (key : ℕ) (content next : Values) → ValidAt as_fields depth (value head key content next) → drop (record_size * i) t ≡ encode (value head key content next) →
      EqualRecords t i (i + (1 + size content)) ((1 + size content) * n) → Copied i head key content next n
  unfolding copies ValidAt encode
  copied zero i head key content next v e q =
      let p : record_size * (i + (1 + size content) + (1 + size content) * 0) ≡ record_size * (i + (1 + size content)) = omega arith in
      record { rest = next; is-copies = refl; rest-bytes = rw p (behind i head key content next e); rest-valid = v.2 }
  copied (suc n) i head key content none v e q =
      let p : (1 + size content) * suc n ≡ (1 + size content) * n + (1 + size content) = mul-suc (1 + size content) n in
      absurd (omega (arith, q.within, length-drop (record_size * (i + (1 + size content))) t, ap length (behind i head key content none e)))
  copied (suc n) i head key content (value k l c s) v e q =
      let span = 1 + size content in
      let p : span * suc n ≡ span * n + span = mul-suc span n in
      let next = behind i head key content (value k l c s) e in
      let same = sym (here i head key content (value k l c s) e) ∙ same_bytes_lem t i (i + span) span (equal-fewer (span * suc n) span (omega (arith, p)) q) in
      let two : encode (value head key content none) ++ drop (record_size * span) (drop (record_size * (i + span)) t) ≡ encode (value k l c none) ++ encode s =
      rw (same, take-append-drop) (single-next (i + span) k l c s next) in
      let h = same-header v.0 v.2.0 (omega (arith, bound i head key content (value k l c s) e)) (omega (arith, bound (i + span) k l c s next)) _ _ (simp append_assoc at two) in
      let inner : content ≡ c = same-values _ _ _ _ _ _ content c (omega (arith, bound i head key content (value k l c s) e)) v.1 v.2.1 h.2 h.3 in
      let first : value k l c s ≡ value head key content s = λ o. value (record { kind = sym h.0 o }) (sym h.1 o) (sym inner o) s in
      let shifted : EqualRecords t (i + span) (i + span + span) (span * n) = equal-later span (span * n) (span * suc n) (omega (arith, p)) q in
      let r = copied n (i + span) head key content s (subst (ValidAt as_fields depth) first v.2) (next ∙ ap encode first) shifted in
      let z : i + span + span * suc n ≡ i + span + span + span * n = omega (arith, p) in
      record { rest = r.rest; is-copies = first ∙ ap (value head key content) r.is-copies; rest-bytes = rw z r.rest-bytes; rest-valid = r.rest-valid }

-- a run that begins with a value and n copies of it, added w times, is the rest of it added to what has that value w * (1 + n) times
module _ (e : Equivalence) (field : Bool) (w : ℕ) (head : Head) (key : ℕ) (content rest : Values) where
  abbrev alone : CountingType
  alone = raw e field (value head key content none)

  pub add-copies : (n : ℕ) (g : CountingType) → Sorted Counting g →
      add Counting (times w (raw e field (value head key content (copies n head key content rest)))) g ≡ add Counting (times w (raw e field rest)) (add Counting (times (w * (1 + n)) alone) g)
  unfolding copies
  add-copies zero g u = rw (mul-one w) (add-value e field w head key content rest g)
  add-copies (suc n) g u =
      let o : suc (1 + n) ≡ 1 + suc n = omega arith in
      let z : w * (1 + n) + w ≡ w * (1 + suc n) = sym (mul-suc w (1 + n)) ∙ ap (λ m. w * m) o in
      add-value e field w head key content (copies (suc n) head key content rest) g
      ∙ add-copies n (add Counting (times w alone) g) (sorted-add counting-laws (times w alone) g u)
      ∙ ap (add Counting (times w (raw e field rest))) (add_times (w * (1 + n)) w alone g u ∙ ap (λ m. add Counting (times m alone) g) z)
