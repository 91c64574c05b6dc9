-- The call on bytes: after inference, after a merge, and what it gives.
use mathlib.Core.Path.{◌≡◌, refl, sym, ◌∙◌, ap}
use mathlib.Core.Bool.{Bool, true, false, cond, not, ◌||◌}
use mathlib.Core.List.{List}
use Prim.Native.Nat.{ℕ, ◌*◌, ◌≤◌}
use native.Mathlib.Omega.{arith}
use lib.Dec.{eqb}
use lib.ListN.{length}
use borrow.Author.Tests.{eq-eqb, le-ltb}
use Rattle.byte_records.specs.Number.{Bytes}
use Rattle.byte_records.proofs.Tests.{or_parts}
use Rattle.value_table.specs.Judged.{bad_length, messages}
use Rattle.value_table.specs.Outcome.{accepted}
use Rattle.counting_theory.specs.Trie.{size, reduce}
use Rattle.counting_theory.specs.Label.{Counting, CountingType}
use Rattle.counting_theory.specs.declared.equivalence.Equivalence.TheVariants.{Kind as by_kind, Label as by_label}
use Rattle.counting_theory.specs.Raw.{profile_of}
use Rattle.counting_theory.specs.Encoding.{type_size, type_records, encode, type_of}
use Rattle.counting_theory.specs.WellFormed.{within_limit, well_formed, bad_type_length, IsType}
use Rattle.counting_theory.specs.Answers.{equivalence_of, equivalence_number, Written, turned_down, largest_arena, judged_type, bad_buffers, inferred_under, inferred, merged_types}
use Rattle.folding.specs.Fold.{kind_type}
use Rattle.folding.specs.Folded.{bad_fold_lengths, folded, folded_in, IsAccepted, FoldsInferred, FoldsMerged, PartsFold, FoldsToType}
use Rattle.counting_theory.proofs.Trie.Profile.{reduce-comm}
use Rattle.counting_theory.proofs.Label.{counting-laws}
use Rattle.counting_theory.proofs.Encoding.Header.{length-encode}
use Rattle.counting_theory.proofs.WellFormed.Closed.{profile-type}
use Rattle.counting_theory.proofs.WellFormed.Profile.{fits-run}
use Rattle.counting_theory.proofs.WellFormed.Limit.{limit-part}
use Rattle.counting_theory.proofs.WellFormed.AcceptsExactly.{type-length, type-unique, well-formed-type}
use Rattle.counting_theory.proofs.Ways.Calls.{accepted-table, inferred-profile, encode-length, encode-formed, merged-types}
use Rattle.counting_theory.proofs.Ways.Merges.{own-bytes, largest-allowed, written-parts, accepted-merge}
use Rattle.answers.proofs.Exact.{Exact, exact-cond, exact-stored}
use Rattle.folding.proofs.KindType.{kind-profile, kind-reduce, kind-size, kind_grows}
use Rattle.folding.proofs.KindIsType.{kind-type}

pub exact-folded : (b : List ℕ) (arena work : ℕ) → Exact (folded b arena work)
unfolding folded
exact-folded b arena work =
    let f = kind_type (type_of by_label b) in
    exact-cond (bad_fold_lengths (length b) arena work) (turned_down 1 0) _ refl
    (exact-cond (not (well_formed by_label b)) (turned_down 8 0) _ refl
    (exact-cond (within_limit f) _ (turned_down 10 0) (exact-stored arena f) refl))

-- the call on a well-formed type
folded-type : {b : List ℕ} {f : CountingType} (n : ℕ) → IsType by_label b f → bad_type_length n ≡ false → folded_in n b ≡ merged_types (kind_type f) n
unfolding folded
folded-type {b} {f} n t h =
    let u = own-bytes t in
    ap (folded_in n) t.bytes
    ∙ rw (encode-length by_label f u, h, eq-eqb n n refl, encode-formed by_label f u, ← type-unique by_label (encode f) f u) refl

-- the arena of an accepted inference
inferred-arena : (table : List ℕ) (equivalence m : ℕ) → IsAccepted (inferred table equivalence m m) → bad_type_length m ≡ false
unfolding inferred
inferred-arena table equivalence m h = go (bad_buffers (length table) m m) refl h
  where
    go : (x : Bool) → bad_buffers (length table) m m ≡ x → IsAccepted (cond x (turned_down 1 0) (inferred_under (equivalence_of equivalence) table m)) → bad_type_length m ≡ false
    go true i h = absurd (omega arith)
    go false i h = (or_parts (bad_length (length table)) (bad_type_length m) (or_parts (bad_length (length table) || bad_type_length m) (not (eqb m m)) i).0).1

pub folds-inferred : FoldsInferred
folds-inferred table m n a h allowed =
    let f = profile_of by_label (messages table) in
    let arena = inferred-arena table (equivalence_number by_label) m h in
    let z = inferred-profile by_label m arena table a m m refl refl in
    let w = written-parts f m (rw z at h) in
    let v = accepted-table table a in
    let t = profile-type by_label (messages table) v.valid (fits-run (messages table) v.room) (omega (arith, w.1, (type-length m arena).1)) w.0 in
    ap (λ (x : Written). folded_in n x.bytes) (z ∙ w.2)
    ∙ folded-type n t allowed
    ∙ ap (λ k. merged_types k n) (kind-profile (messages table))
    ∙ sym (inferred-profile by_kind n allowed table a n n refl refl)

-- the type of an input that is accepted
record Input (b : List ℕ) (n : ℕ) : Type 0 where
  is-type : IsType by_label b (type_of by_label b)
  allowed : bad_type_length n ≡ false

accepted-input : (b : List ℕ) (n : ℕ) → Bytes b → IsAccepted (folded_in n b) → Input b n
unfolding folded
accepted-input b n p h = go (bad_fold_lengths (length b) n n) (well_formed by_label b) refl refl h
  where
    go : (x y : Bool) → bad_fold_lengths (length b) n n ≡ x → well_formed by_label b ≡ y →
        IsAccepted (cond x (turned_down 1 0) (cond (not y) (turned_down 8 0) (merged_types (kind_type (type_of by_label b)) n))) → Input b n
    go true y i j h = absurd (omega arith)
    go false false i j h = absurd (omega arith)
    go false true i j h =
        let u = or_parts _ (not (eqb n n)) i in
        let v = or_parts (bad_type_length (length b)) (bad_type_length n) u.0 in
        record { is-type = (well-formed-type by_label b p v.0).0 j; allowed = v.1 }

-- what an accepted call has written
record Output (b : List ℕ) (n : ℕ) : Type 0 where
  is-type : IsType by_label b (type_of by_label b)
  limit : within_limit (kind_type (type_of by_label b)) ≡ true
  room : type_size * size (kind_type (type_of by_label b)) ≤ n
  written : folded_in n b ≡ record { outcome = accepted (size (kind_type (type_of by_label b))); bytes = encode (kind_type (type_of by_label b)) }

accepted-output : (b : List ℕ) (n : ℕ) → Bytes b → IsAccepted (folded_in n b) → Output b n
accepted-output b n p h =
    let i = accepted-input b n p h in
    let z = folded-type n i.is-type i.allowed in
    let w = written-parts (kind_type (type_of by_label b)) n (rw z at h) in
    record { is-type = i.is-type; limit = w.0; room = w.1; written = z ∙ w.2 }

pub folds-merged : FoldsMerged
folds-merged first second n h allowed =
    let r = accepted-merge by_label first second largest_arena h.first-bytes h.second-bytes h.merges in
    let x = accepted-output first largest_arena h.first-bytes h.first-folds in
    let y = accepted-output second largest_arena h.second-bytes h.second-folds in
    let f = type_of by_label first in
    let g = type_of by_label second in
    folded-type n r.both allowed
    ∙ ap (λ k. merged_types k n) (kind-reduce f g r.first.sorted r.second.sorted)
    ∙ sym (merged-types by_kind (kind_type f) (kind_type g) n n allowed refl (kind-type x.is-type x.limit) (kind-type y.is-type y.limit))
    ∙ rw (x.written, y.written) refl

fits-largest : {b : List ℕ} {f : CountingType} → IsType by_label b f → within_limit (kind_type f) ≡ true → IsAccepted (folded_in largest_arena b)
fits-largest {b} {f} t limit =
    rw (folded-type largest_arena t largest-allowed, limit, le-ltb largest_arena (type_size * size (kind_type f)) (omega (arith, kind-size f, t.room))) refl

pub parts-fold : PartsFold
parts-fold first second p q h k =
    let r = accepted-merge by_label first second largest_arena p q h in
    let f = type_of by_label first in
    let g = type_of by_label second in
    let u = r.first.sorted in
    let v = r.second.sorted in
    let limit : within_limit (kind_type (reduce Counting f g)) ≡ true = (written-parts _ largest_arena (rw (folded-type largest_arena r.both largest-allowed) at k)).0 in
    record {
      first-bytes = p;
      second-bytes = q;
      merges = h;
      first-folds = fits-largest r.first (limit-part (kind_type f) _ (kind_grows g f v u) (rw (reduce-comm counting-laws f g u v) at limit));
      second-folds = fits-largest r.second (limit-part (kind_type g) _ (kind_grows f g u v) limit);
    }

kind-judged : (f : CountingType) → IsType by_kind (encode (kind_type f)) (kind_type f) → judged_type (encode (kind_type f)) (equivalence_number by_kind) ≡ accepted (size (kind_type f))
unfolding judged_type
kind-judged f t =
    let n : type_records (encode (kind_type f)) ≡ size (kind_type f) = omega (arith, length-encode (kind_type f)) in
    rw (encode-length by_kind (kind_type f) t, encode-formed by_kind (kind_type f) t, n) refl

pub folds-to-type : FoldsToType
folds-to-type b n p h =
    let x = accepted-output b n p h in
    let f = type_of by_label b in
    rw x.written (record {
      no_more = omega (arith, kind-size f, ap length x.is-type.bytes, length-encode f);
      formed = kind-judged f (kind-type x.is-type x.limit);
    })
