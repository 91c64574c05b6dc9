-- The type of messages whose keys are 1 to 64: the keys of each record ascend, and a word can hold them.
use mathlib.Core.Path.{◌≡◌, refl, sym, ◌∙◌}
use mathlib.Core.Bool.{Bool, true, false}
use mathlib.Core.List.{List, [], ◌∷◌}
use Prim.Native.Nat.Ordering.{lt}
use Prim.Native.Nat.{ℕ, ◌≤◌, ◌<◌, compare}
use native.Mathlib.Omega.{arith}
use borrow.Author.Tests.{eq-eqb, ne_eqb, le-leb}
use Rattle.value_table.specs.Value.{record_kind, Values, member, Distinct, Valid}
use Rattle.counting_theory.specs.Trie.{nil, node, Before, Sorted}
use Rattle.counting_theory.specs.Label.{Label, listed, field_label, Counting, CountingType}
use Rattle.counting_theory.specs.declared.equivalence.Equivalence.TheVariants.{Label as by_label}
use Rattle.counting_theory.specs.Raw.{insert_key, ascending, raw, profile_of}
use Rattle.counting_theory.specs.Encoding.{sibling_keys, Tagged}
use Rattle.counting_theory.proofs.Label.{counting-laws, compare-fields, kind-eq}
use Rattle.counting_theory.proofs.Order.{compare-less, less-compare}
use Rattle.counting_theory.proofs.Trie.Sorted.{sorted-profile}
use Rattle.counting_theory.proofs.Tagged.Profile.{tagged-profile}
use Rattle.counting_theory.proofs.Tagged.Parts.{holds_fields, Shape, tagged-parts, shape-keys}
use Rattle.key_word.specs.Word.{Within, word_bits}
use Rattle.tag_bus.proofs.Labels.{Labels, KeyWithin, ValueKeys, labels-profile}

-- keys above k that ascend
abbrev Rising : ℕ → List ℕ → Type 0
Rising k [] = Unit {0}
Rising k (x ∷ xs) = (k < x) × Rising x xs

rising-new : (j k : ℕ) (xs : List ℕ) → j ≤ k → Rising k xs → member j xs ≡ false
unfolding member
rising-new j k [] h r = refl
rising-new j k (x ∷ xs) h r = rw (ne_eqb j x (λ e. omega arith)) (rising-new j x xs (omega arith) r.1)

rising-distinct : (k : ℕ) (xs : List ℕ) → Rising k xs → Distinct xs
unfolding Distinct
rising-distinct k [] r = tt
rising-distinct k (x ∷ xs) r = (rising-new x x xs (omega arith) r.1, rising-distinct x xs r.1)

rising-ascending : (k : ℕ) (xs : List ℕ) → Rising k xs → ascending xs ≡ xs
unfolding ascending insert_key
rising-ascending k [] r = refl
rising-ascending k (x ∷ []) r = refl
rising-ascending k (x ∷ (y ∷ ys)) r = rw (rising-ascending x (y ∷ ys) r.1) (rw (le-leb x y (omega (arith, r.1.0))) refl)

before_same : (l k : Label) (f : CountingType) → l ≡ k → Before Counting l f → Before Counting k f
before_same l k f e b = rw (← e) b

rising-fields : (k : ℕ) (c : CountingType) → Tagged by_label true c → Sorted Counting c → Before Counting (field_label k) c → Rising k (sibling_keys c)
unfolding sibling_keys
rising-fields k nil t s b = tt
rising-fields k (node l a c n) t s b =
    let e : compare k l.key ≡ lt = sym (compare-fields k l.key) ∙ (rw t.0 at b) in
    (compare-less k l.key e, rising-fields l.key n t.2 s.2 (before_same l (field_label l.key) n t.0 s.0))

module _ (m : ℕ) where
  within-fields : (c : CountingType) → Tagged by_label true c → Labels (KeyWithin m) c → Within m (sibling_keys c)
  unfolding sibling_keys
  within-fields nil t u = tt
  within-fields (node l a c s) t u = (u.0.key-low (kind-eq t.0), u.0.key-high, within-fields s t.2 u.2)

  -- the first key is above 0
  first_field : (c : CountingType) → Tagged by_label true c → Labels (KeyWithin m) c → Before Counting (field_label 0) c
  first_field nil t u = tt
  first_field (node l a c s) t u = rw t.0 (compare-fields 0 l.key ∙ less-compare 0 l.key (u.0.key-low (kind-eq t.0)))

-- an addend of kind 5 with these children
pub record WordNode (l : Label) (c : CountingType) : Type 0 where
  pub label : l.keys ≡ sibling_keys c
  pub ascend : ascending (sibling_keys c) ≡ sibling_keys c
  pub distinct : Distinct (sibling_keys c)
  pub within : Within word_bits (sibling_keys c)

abbrev pub Worded : CountingType → Type 0
Worded nil = Unit {0}
Worded (node l a c s) = (l.kind ≡ record_kind → WordNode l c) × Worded c × Worded s

-- no field is of kind 5
fields-inside : (field : Bool) (l : Label) (c : CountingType) → Shape by_label field l c → l.kind ≡ record_kind → Tagged by_label (holds_fields field l) c → Tagged by_label true c
fields-inside true l c h e t = absurd (omega (arith, kind-eq h))
fields-inside false l c h e t = rw (eq-eqb l.kind record_kind e) at t

word-node : (field : Bool) (l : Label) (c : CountingType) → Shape by_label field l c → Tagged by_label (holds_fields field l) c → Sorted Counting c → Labels (KeyWithin word_bits) c →
    l.kind ≡ record_kind → WordNode l c
unfolding listed
word-node field l c shape t s u e =
    let fields = fields-inside field l c shape e t in
    let r = rising-fields 0 c fields s (first_field word_bits c fields u) in
    record {
      label = shape-keys by_label field l c shape ∙ rw (eq-eqb l.kind record_kind e) refl;
      ascend = rising-ascending 0 (sibling_keys c) r;
      distinct = rising-distinct 0 (sibling_keys c) r;
      within = within-fields word_bits c fields u;
    }

worded : (field : Bool) (f : CountingType) → Tagged by_label field f → Sorted Counting f → Labels (KeyWithin word_bits) f → Worded f
worded field nil t s u = tt
worded field (node l a c n) t s u =
    let p = tagged-parts by_label field l a c n t in
    (word-node field l c p.0 p.1 s.1 u.1, worded (holds_fields field l) c p.1 s.1 u.1, worded field n p.2 s.2 u.2)

pub worded-profile : (messages : Values) → Valid messages → ValueKeys word_bits messages → Worded (profile_of by_label messages)
unfolding profile_of
worded-profile messages valid keys =
    worded false (profile_of by_label messages) (tagged-profile by_label messages valid) (sorted-profile counting-laws (raw by_label false messages))
    (labels-profile word_bits messages valid keys)
