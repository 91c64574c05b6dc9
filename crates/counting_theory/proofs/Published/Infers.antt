-- The inference rules of document 000 give the profile, which is reduced.
use mathlib.Core.Path.{◌≡◌, refl, sym, ◌∙◌, ap, subst}
use mathlib.Core.Bool.{Bool, true, false}
use Prim.Native.Nat.{ℕ, suc}
use lib.Dec.{eqb}
use Rattle.value_table.specs.Value.{Head, record_kind, Values, none, value, Proper, ValidAt, join_values}
use Rattle.counting_theory.specs.Payload.{Payload, one}
use Rattle.counting_theory.specs.Trie.{nil, insert, add, profile}
use Rattle.counting_theory.specs.Label.{Label, label_of, Counting, CountingType}
use Rattle.counting_theory.specs.declared.equivalence.Equivalence.{Equivalence}
use Rattle.counting_theory.specs.Raw.{class_of, addend, raw, profile_of}
use Rattle.counting_theory.specs.Encoding.{sibling_keys}
use Rattle.counting_theory.specs.Inferred.{own_type, Infers, empty, single, union, InfersProfile, ProfileReduced}
use Rattle.counting_theory.proofs.Trie.Sorted.{sorted-profile}
use Rattle.counting_theory.proofs.Label.{counting-laws}
use Rattle.counting_theory.proofs.Tagged.Profile.{profile-addend, shape-class, inferred, tagged-profile}
use Rattle.counting_theory.proofs.Published.Reduce.{sorted-reduced}
use Rattle.counting_theory.proofs.Values.Join.{reduce_runs, valid-parts}

profile-single : (field : Bool) (key : ℕ) (class : Label) (a : Payload) (inside : CountingType) →
    addend field key class a (profile Counting inside) nil ≡ profile Counting (addend field key class a inside nil)
unfolding add insert
profile-single true key class a inside = refl
profile-single false key class a inside = refl

module _ (eq : Equivalence) where
  abbrev run_profile : Bool → Values → CountingType
  run_profile field vs = profile Counting (raw eq field vs)

  -- one value, with the profile of its content
  module _ (field : Bool) (depth : ℕ) (head : Head) (key : ℕ) (content : Values)
      (p : Proper field depth head key content) (h : ValidAt (eqb head.kind record_kind) (suc depth) content) where
    abbrev inside : CountingType
    inside = run_profile (eqb head.kind record_kind) content

    class-own : class_of eq head.kind content ≡ label_of eq head.kind 0 (sibling_keys inside)
    unfolding raw add
    class-own = (shape-class eq field depth head key content inside p (λ e. rw e refl) (inferred eq (eqb head.kind record_kind) (suc depth) content h)).tagged

    infers-own : Infers eq (eqb head.kind record_kind) content inside →
        Infers eq field (value head key content none) (addend field key (class_of eq head.kind content) (one head content) inside nil)
    infers-own i = subst (λ (l : Label). Infers eq field (value head key content none) (addend field key l (one head content) inside nil)) (sym class-own) (single i)

    own-profile : (f : CountingType) → f ≡ inside → own_type eq field head key content f ≡ run_profile field (value head key content none)
    unfolding raw
    own-profile f e =
        ap (own_type eq field head key content) e ∙ ap (λ (l : Label). addend field key l (one head content) inside nil) (sym class-own)
        ∙ profile-single field key (class_of eq head.kind content) (one head content) (raw eq (eqb head.kind record_kind) content)

  infers-run : {field : Bool} {vs : Values} {t : CountingType} → Infers eq field vs t → (depth : ℕ) → ValidAt field depth vs → t ≡ run_profile field vs
  unfolding ValidAt
  infers-run empty depth h = unfold raw add in refl
  infers-run (single {field} {head} {key} {content} {inside} i) depth h =
      own-profile field depth head key content h.0 h.1 inside (infers-run i (suc depth) h.1)
  infers-run (union {field} {xs} {ys} i j) depth h =
      let p = valid-parts field depth xs ys h in
      rw (infers-run i depth p.0, infers-run j depth p.1) (reduce_runs eq field xs ys)

  run-infers : (field : Bool) (depth : ℕ) (vs : Values) → ValidAt field depth vs → Infers eq field vs (run_profile field vs)
  unfolding raw add ValidAt join_values
  run-infers field depth none h = empty
  run-infers field depth (value head key content next) h =
      let first = infers-own field depth head key content h.0 h.1 (run-infers (eqb head.kind record_kind) (suc depth) content h.1) in
      rw (profile-addend field key (class_of eq head.kind content) (one head content) (raw eq (eqb head.kind record_kind) content) (raw eq field next))
      (union first (run-infers field depth next h.2))

pub infers-profile : InfersProfile
unfolding profile_of
infers-profile eq messages t h = (λ i. infers-run eq i 1 h, λ e. rw e (run-infers eq false 1 messages h))

pub profile-reduced : ProfileReduced
unfolding profile_of
profile-reduced eq messages h =
    let p = tagged-profile eq messages h in
    let u = sorted-profile counting-laws (raw eq false messages) in
    record { tagged = p; sorted = u; reduced = sorted-reduced eq false (profile_of eq messages) p u }
