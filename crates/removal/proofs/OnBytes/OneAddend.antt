-- What is left of a first addend on its bytes, by the counts of whole and part.
use mathlib.Core.Path.{◌≡◌, refl, sym, ap, ◌∙◌}
use mathlib.Core.Bool.{Bool, true, false, cond, not, ◌&&◌, ◌||◌}
use mathlib.Core.List.{List, [], ◌++◌, append-nil}
use mathlib.Core.Option.{Option, none, some}
use Prim.Native.Nat.{ℕ, ◌+◌, ◌-◌, ◌/◌, ◌≤◌, ◌<◌}
use native.Mathlib.Omega.{arith}
use lib.Dec.{eqb}
use lib.ListN.{length}
use borrow.Author.Tests.{eqb-true, le-leb, lt-leb}
use Rattle.value_table.specs.Value.{record_kind}
use Rattle.removal_theory.specs.Payload.{Payload}
use Rattle.counting_theory.specs.Trie.{nil, node, size}
use Rattle.counting_theory.specs.Label.{Label}
use Rattle.counting_theory.specs.declared.equivalence.Equivalence.{Equivalence}
use Rattle.counting_theory.specs.declared.equivalence.Equivalence.TheVariants.{Kind as by_kind}
use Rattle.removal_theory.specs.Label.{Counting, CountingType}
use Rattle.removal_theory.specs.Encoding.{type_size, type_kind, type_key, type_payload, encode, type_of}
use Rattle.removal_theory.specs.Inside.TypeBytes.{type_count}
use Rattle.counting_theory.specs.WellFormed.{max_total}
use Rattle.removal_theory.specs.WellFormed.{fields_of, field_counts}
use Rattle.type_arena.specs.declared.level.Level.{Level}
use Rattle.removal_arena.specs.Inside.Arena.{label_at, header_of}
use Rattle.removal_arena.specs.Inside.Addend.{body, Coded}
use Rattle.removal.specs.Difference.{Taken, short, gone, left, kept, emptied, taken_node, difference}
use Rattle.removal.specs.Removed.{taken_by, taken}
use Rattle.removal.specs.Inside.Removing.{keeps_counts, bytes_left, run_left, addend_left}
use Rattle.counting_theory.proofs.Order.{number-refl, less-compare, more-compare}
use Rattle.counting_theory.proofs.Label.{kind-eq}
use Rattle.removal_theory.proofs.Label.{counting-laws}
use Rattle.removal_theory.proofs.Tagged.Parts.{Shape}
use Rattle.removal_theory.proofs.Encoding.Header.{payload-count, length-encode}
use Rattle.counting_theory.proofs.Trie.Canonical.{some-none}
use Rattle.removal_arena.proofs.FirstAddend.{header-first, coded-length}
use Rattle.removal_arena.proofs.Runs.{At, Head}
use Rattle.removal.proofs.Difference.{steps, difference-self, removal-nil}
use Rattle.removal.proofs.Remains.{size-removal}
use Rattle.removal.proofs.Taken.{taken-laws}
use Rattle.removal.proofs.CountLimit.{limit-left, run-limit}
use Rattle.type_arena.specs.Inside.Layout.{label_by}

abbrev pub counts : ℕ → Payload
counts n = record { count = n }

-- what is left of a payload, by the counts
module _ (a b : Payload) where
  taken-short : a.count < b.count → taken a b ≡ short
  unfolding taken taken_by
  taken-short h = rw (less-compare a.count b.count h) refl

  taken-gone : a.count ≡ b.count → taken a b ≡ gone
  unfolding taken taken_by
  taken-gone h = rw (h, number-refl b.count) refl

  taken-left : b.count < a.count → taken a b ≡ left (counts (a.count - b.count))
  unfolding taken taken_by
  taken-left h = rw (more-compare a.count b.count h) refl

-- the header before what is left inside
unfoldable pub headed : ℕ → ℕ → ℕ → Option (List ℕ) → Option (List ℕ)
headed kind key n none = none
headed kind key n (some b) = some (header_of kind key (1 + length b / type_size) (counts n) ++ b)

-- whether the fields inside keep the record's count, if it is a record, and the limit inside: the same question
module _ (e : Equivalence) (field : Bool) (l : Label) (c d f : CountingType) (r : difference Counting taken c d ≡ some f) where
  fields-inside : (n : ℕ) → Shape e field l c → (not field && eqb l.kind record_kind ≡ false → fields_of by_kind max_total c ≡ true) →
      (not (eqb l.kind record_kind) || fields_of by_kind n f) ≡ fields_of by_kind (cond (not field && eqb l.kind record_kind) n max_total) f
  fields-inside n shape low = go field (eqb l.kind record_kind) refl shape low
    where
      stays : fields_of by_kind max_total c ≡ true → true ≡ fields_of by_kind max_total f
      stays h = sym (limit-left max_total (steps counting-laws taken-laws c d f r) h)

      go : (b t : Bool) → eqb l.kind record_kind ≡ t → Shape e b l c → (not b && t ≡ false → fields_of by_kind max_total c ≡ true) →
          (not t || fields_of by_kind n f) ≡ fields_of by_kind (cond (not b && t) n max_total) f
      go true true z s h = absurd (omega (arith, kind-eq s, eqb-true l.kind record_kind z))
      go true false z s h = stays (h refl)
      go false true z s h = refl
      go false false z s h = stays (h refl)

module _ {level : Level} (limit : ℕ) {x : List ℕ} (y : List ℕ) (h : Head level x) where
  abbrev e : Equivalence
  e = At level

  abbrev within : Option CountingType
  within = difference Counting taken (type_of e (body x)) (type_of e (body y))

  by-counts : (o : Taken Payload) → taken (type_payload x 0) (type_payload y 0) ≡ o → addend_left e limit x y ≡ bytes_left limit (taken_node o (label_at e x 0) within (some nil))
  unfolding addend_left
  by-counts o z = rw z refl

  pub short-left : type_count x 0 < type_count y 0 → addend_left e limit x y ≡ none
  unfolding taken_node bytes_left
  short-left i = by-counts short (taken-short (type_payload x 0) (type_payload y 0) (omega (arith, payload-count x 0, payload-count y 0)))

  gone-left : type_count x 0 ≡ type_count y 0 → addend_left e limit x y ≡ bytes_left limit (emptied within (some nil))
  unfolding taken_node
  gone-left i = by-counts gone (taken-gone (type_payload x 0) (type_payload y 0) (omega (arith, payload-count x 0, payload-count y 0)))

  pub same_left : type_count x 0 ≡ type_count y 0 → body x ≡ body y → addend_left e limit x y ≡ some []
  unfolding emptied bytes_left encode fields_of field_counts
  same_left i b = gone-left i ∙ rw (← b, difference-self counting-laws taken-laws (type_of e (body x))) refl

  pub other-left : Head level y → type_count x 0 ≡ type_count y 0 → ¬ (body x ≡ body y) → addend_left e limit x y ≡ none
  unfolding emptied bytes_left
  other-left g i b = gone-left i ∙ go within refl
    where
      go : (o : Option CountingType) → within ≡ o → bytes_left limit (emptied o (some nil)) ≡ none
      go none z = refl
      go (some nil) z =
          let s : type_of e (body x) ≡ type_of e (body y) = removal-nil counting-laws taken-laws (steps counting-laws taken-laws _ _ nil z) refl in
          absurd (b (sym h.first.is_body ∙ ap encode s ∙ g.first.is_body))
      go (some (node k a c t)) z = refl

  left-left : type_count y 0 < type_count x 0 →
      addend_left e limit x y ≡ bytes_left limit (kept (label_at e x 0) (counts (type_count x 0 - type_count y 0)) within (some nil))
  unfolding taken_node
  left-left i =
      rw (← payload-count x 0, ← payload-count y 0)
      (by-counts (left (counts ((type_payload x 0).count - (type_payload y 0).count))) (taken-left (type_payload x 0) (type_payload y 0) (omega (arith, payload-count x 0, payload-count y 0))))

  pub over-left : type_count y 0 < type_count x 0 → limit < type_count x 0 - type_count y 0 → addend_left e limit x y ≡ none
  unfolding kept bytes_left fields_of
  over-left i k = left-left i ∙ go within
    where
      go : (o : Option CountingType) → bytes_left limit (kept (label_at e x 0) (counts (type_count x 0 - type_count y 0)) o (some nil)) ≡ none
      go none = refl
      go (some c) = rw (lt-leb (type_count x 0 - type_count y 0) limit k) refl

  under-header : (n : ℕ) (c : CountingType) (p q : Bool) →
      cond (p && q && true) (some (header_of (type_kind x 0) (type_key x 0) (1 + size c) (counts n) ++ encode c)) none
      ≡ headed (type_kind x 0) (type_key x 0) n (cond (p && q) (some (encode c)) none)
  unfolding headed
  under-header n c true true = let span : length (encode c) / type_size ≡ size c = omega (arith, length-encode c) in rw span refl
  under-header n c true false = refl
  under-header n c false q = refl

  -- a node that stays over what is left inside: the same tests, and the header before the bytes
  kept-inside : (n m : ℕ) → n ≤ limit → m ≡ cond (not level.field && eqb (type_kind x 0) record_kind) n max_total → (c : CountingType) → within ≡ some c →
      bytes_left limit (some (node (label_at e x 0) (counts n) c nil)) ≡ headed (type_kind x 0) (type_key x 0) n (bytes_left m (some c))
  unfolding bytes_left fields_of field_counts encode label_by
  kept-inside n m k z c r =
      let low : not level.field && eqb (type_kind x 0) record_kind ≡ false → fields_of by_kind max_total (type_of e (body x)) ≡ true =
      λ u. run-limit e (body x) (rw u at h.first.in_body) h.in_body.limit in
      let fields = fields-inside e level.field (label_at e x 0) (type_of e (body x)) (type_of e (body y)) c r n h.first.is-shape low in
      rw (z, le-leb n limit k, fields, append-nil, header-first e x (1 + size c) (counts n)) (under-header n c (fields_of by_kind (cond (not level.field && eqb (type_kind x 0) record_kind) n max_total) c) (field_counts by_kind c))

  pub inside-left : (n m : ℕ) → type_count y 0 < type_count x 0 → n ≡ type_count x 0 - type_count y 0 → n ≤ limit →
      m ≡ cond (not level.field && eqb (type_kind x 0) record_kind) n max_total →
      addend_left e limit x y ≡ headed (type_kind x 0) (type_key x 0) n (run_left e m (body x) (body y))
  unfolding run_left kept bytes_left headed
  inside-left n m i j k z = left-left i ∙ rw (← j) (go within refl)
    where
      go : (o : Option CountingType) → within ≡ o → bytes_left limit (kept (label_at e x 0) (counts n) o (some nil)) ≡ headed (type_kind x 0) (type_key x 0) n (bytes_left m o)
      go none r = refl
      go (some c) r = kept-inside n m k z c r

-- no more is left of a run than it has
pub left-short : {e : Equivalence} {field : Bool} {x : List ℕ} (limit : ℕ) (y : List ℕ) {b : List ℕ} → Coded e field x → run_left e limit x y ≡ some b → length b ≤ length x
unfolding run_left bytes_left
left-short {e} {field} {x} limit y {b} k h = go (difference Counting taken (type_of e x) (type_of e y)) refl h
  where
    go : (o : Option CountingType) → difference Counting taken (type_of e x) (type_of e y) ≡ o → bytes_left limit o ≡ some b → length b ≤ length x
    go none z i = absurd (some-none (sym i))
    go (some f) z i = pick (keeps_counts limit f) i
      where
        pick : (t : Bool) → cond t (some (encode f)) none ≡ some b → length b ≤ length x
        pick true i =
            let s : encode f ≡ b = cc in
            rw (← s) (omega (arith, length-encode f, coded-length k, size-removal counting-laws taken-laws (steps counting-laws taken-laws _ _ f z)))
        pick false i = absurd (some-none (sym i))
