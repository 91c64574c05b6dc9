-- The profile of valid values is a type.
use mathlib.Core.Path.{◌≡◌, refl, sym, ◌∙◌, ap}
use mathlib.Core.Bool.{Bool, true, false}
use Prim.Native.Nat.{ℕ, suc}
use lib.Dec.{eqb}
use borrow.Author.Tests.{eqb-true}
use Rattle.value_table.specs.Value.{Head, record_kind, Values, none, value, keys, member, Distinct, Proper, ValidAt, Valid}
use Rattle.counting_theory.specs.Payload.{Payload, one}
use Rattle.counting_theory.specs.Trie.{nil, node, insert, add, profile, reduce}
use Rattle.counting_theory.specs.Inside.TrieLaws.{append}
use Rattle.counting_theory.specs.Label.{Label, Counting, CountingType}
use Rattle.counting_theory.specs.declared.equivalence.Equivalence.{Equivalence}
use Rattle.counting_theory.specs.Raw.{insert_key, ascending, class_of, addend, raw, profile_of}
use Rattle.counting_theory.specs.Encoding.{sibling_keys, AddendShape, Tagged}
use Rattle.counting_theory.proofs.Trie.Profile.{reduce-profile}
use Rattle.counting_theory.proofs.KeyList.{member-ascending}
use Rattle.counting_theory.proofs.Label.{counting-laws}
use Rattle.counting_theory.proofs.Tagged.Parts.{listed-cong}
use Rattle.counting_theory.proofs.Tagged.Keys.{keys-insert}
use Rattle.counting_theory.proofs.Tagged.Reduce.{tagged-reduce}

-- a run's profile is that of its first value, merged with that of the others
pub profile-addend : (field : Bool) (key : ℕ) (class : Label) (a : Payload) (inside next : CountingType) →
    profile Counting (addend field key class a inside next) ≡ reduce Counting (addend field key class a (profile Counting inside) nil) (profile Counting next)
unfolding append add insert
profile-addend true key class a inside next = sym (reduce-profile counting-laws (addend true key class a inside nil) next)
profile-addend false key class a inside next = sym (reduce-profile counting-laws (addend false key class a inside nil) next)

module _ (eq : Equivalence) where
  -- what the profile f of the run vs is
  pub record Inferred (field : Bool) (vs : Values) (f : CountingType) : Type 0 where
    pub is-tagged : Tagged eq field f
    pub has-keys : field ≡ true → Distinct (keys vs) → sibling_keys f ≡ ascending (keys vs)

  pub shape-class : (field : Bool) (depth : ℕ) (head : Head) (key : ℕ) (content : Values) (f : CountingType) → Proper field depth head key content →
      (content ≡ none → f ≡ nil) → Inferred (eqb head.kind record_kind) content f → AddendShape eq (class_of eq head.kind content) f
  shape-class field depth head key content f p empty i =
      let e = listed-cong eq head.kind (ascending (keys content)) (sibling_keys f) (λ t. sym (i.has-keys t (p.distinct (eqb-true head.kind record_kind t)))) in
      record {
        kind-low = p.kind-low;
        kind-high = p.kind-high;
        tagged = λ j. record { kind = head.kind; key = 0; keys = e j };
        scalar = λ h. empty (p.scalar h);
      }

  tagged-addend : (field : Bool) (key : ℕ) (head : Head) (content : Values) (f : CountingType) → AddendShape eq (class_of eq head.kind content) f →
      Tagged eq (eqb head.kind record_kind) f → Tagged eq field (addend field key (class_of eq head.kind content) (one head content) f nil)
  tagged-addend true key head content f h i = (refl, (h, i, tt), tt)
  tagged-addend false key head content f h i = (h, i, tt)

  -- the first value of a run, with the profile f of its content
  pub tagged-first : (field : Bool) (depth : ℕ) (head : Head) (key : ℕ) (content : Values) (f : CountingType) → Proper field depth head key content →
      (content ≡ none → f ≡ nil) → Inferred (eqb head.kind record_kind) content f → Tagged eq field (addend field key (class_of eq head.kind content) (one head content) f nil)
  tagged-first field depth head key content f p empty i =
      tagged-addend field key head content f (shape-class field depth head key content f p empty i) i.is-tagged

  keys-addend : (field : Bool) (key : ℕ) (class : Label) (a : Payload) (c g : CountingType) → field ≡ true → Tagged eq field g → member key (sibling_keys g) ≡ false →
      sibling_keys (reduce Counting (addend field key class a c nil) g) ≡ insert_key key (sibling_keys g)
  keys-addend true key class a c g t p h = keys-insert eq key (node class a c nil) g p h
  keys-addend false key class a c g t p h = cc

  pub inferred : (field : Bool) (depth : ℕ) (vs : Values) → ValidAt field depth vs → Inferred field vs (profile Counting (raw eq field vs))
  unfolding raw ValidAt Distinct add keys ascending sibling_keys
  inferred field depth none h = record { is-tagged = tt; has-keys = λ t d. refl }
  inferred field depth (value head key content next) h =
      let c = profile Counting (raw eq (eqb head.kind record_kind) content) in
      let g = profile Counting (raw eq field next) in
      let i = inferred (eqb head.kind record_kind) (suc depth) content h.1 in
      let j = inferred field depth next h.2 in
      let class = class_of eq head.kind content in
      let first = tagged-first field depth head key content c h.0 (λ e. rw e refl) i in
      rw (profile-addend field key class (one head content) (raw eq (eqb head.kind record_kind) content) (raw eq field next)) (record {
        is-tagged = tagged-reduce eq field (addend field key class (one head content) c nil) g first j.is-tagged;
        has-keys = λ t d.
            let e = j.has-keys t d.1 in
            keys-addend field key class (one head content) c g t j.is-tagged (ap (member key) e ∙ member-ascending key (keys next) ∙ d.0) ∙ ap (insert_key key) e;
      })

  pub tagged-profile : (messages : Values) → Valid messages → Tagged eq false (profile_of eq messages)
  unfolding profile_of
  tagged-profile messages h = (inferred false 1 messages h).is-tagged
