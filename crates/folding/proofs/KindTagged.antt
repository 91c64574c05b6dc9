-- Under kind a type's key lists make no difference: what is tagged under label is tagged under kind, and so is a profile of it.
use mathlib.Core.Path.{◌≡◌, refl, sym, ◌∙◌}
use mathlib.Core.Bool.{Bool, true, false}
use mathlib.Core.List.{[]}
use Rattle.counting_theory.specs.Payload.{Payload}
use Rattle.counting_theory.specs.Trie.{nil, node, insert, add, profile, reduce, Sorted}
use Rattle.counting_theory.specs.Inside.TrieLaws.{append}
use Rattle.counting_theory.specs.Label.{Label, listed, Counting, CountingType}
use Rattle.counting_theory.specs.declared.equivalence.Equivalence.TheVariants.{Kind as by_kind, Label as by_label}
use Rattle.counting_theory.specs.Encoding.{Tagged}
use Rattle.folding.specs.Fold.{relabel, kind_label, kind_type}
use Rattle.counting_theory.proofs.Trie.Sorted.{sorted-profile}
use Rattle.counting_theory.proofs.Trie.Profile.{reduce-profile, reduce-add, add_comm}
use Rattle.counting_theory.proofs.Label.{kind-eq, counting-laws}
use Rattle.counting_theory.proofs.Tagged.Parts.{holds_fields, Shape, tagged-parts, parts-tagged}
use Rattle.counting_theory.proofs.Tagged.Reduce.{tagged-reduce}

-- under kind a node keeps its shape whatever stands inside it, if nothing still does in a scalar
shape-inside : (field : Bool) (l : Label) (c d : CountingType) → (c ≡ nil → d ≡ nil) → Shape by_kind field l c → Shape by_kind field l d
unfolding listed
shape-inside true l c d h s = s
shape-inside false l c d h s = record { kind-low = s.kind-low; kind-high = s.kind-high; tagged = s.tagged; scalar = λ k. h (s.scalar k) }

shape-kind : (field : Bool) (l : Label) (c : CountingType) → Shape by_label field l c → Shape by_kind field (kind_label l) c
unfolding listed
shape-kind true l c s = λ i. record { kind = kind-eq s i; key = l.key; keys = [] }
shape-kind false l c s =
    record {
      kind-low = s.kind-low;
      kind-high = s.kind-high;
      tagged = λ i. record { kind = l.kind; key = (s.tagged i).key; keys = [] };
      scalar = s.scalar;
    }

holds-kind : (field : Bool) (l : Label) → holds_fields field (kind_label l) ≡ holds_fields field l
holds-kind true l = refl
holds-kind false l = refl

relabel-nil : (c : CountingType) → c ≡ nil → relabel kind_label c ≡ nil
unfolding relabel
relabel-nil c z = rw z refl

pub tagged-relabel : (field : Bool) (f : CountingType) → Tagged by_label field f → Tagged by_kind field (relabel kind_label f)
unfolding relabel
tagged-relabel field nil h = tt
tagged-relabel field (node l a c s) h =
    let p = tagged-parts by_label field l a c s h in
    parts-tagged by_kind field (kind_label l) a (relabel kind_label c) (relabel kind_label s) (
      shape-inside field (kind_label l) c (relabel kind_label c) (relabel-nil c) (shape-kind field l c p.0),
      rw (holds-kind field l) (tagged-relabel (holds_fields field l) c p.1),
      tagged-relabel field s p.2,
    )

profile-nil : (c : CountingType) → c ≡ nil → profile Counting c ≡ nil
unfolding add
profile-nil c z = rw z refl

profile-node : (l : Label) (a : Payload) (c s : CountingType) → profile Counting (node l a c s) ≡ reduce Counting (node l a (profile Counting c) nil) (profile Counting s)
unfolding append add insert
profile-node l a c s = sym (reduce-profile counting-laws (node l a c nil) s)

tagged-profile : (field : Bool) (r : CountingType) → Tagged by_kind field r → Tagged by_kind field (profile Counting r)
unfolding add
tagged-profile field nil h = tt
tagged-profile field (node l a c s) h =
    let p = tagged-parts by_kind field l a c s h in
    let d = profile Counting c in
    rw (profile-node l a c s)
    (tagged-reduce by_kind field (node l a d nil) (profile Counting s)
    (parts-tagged by_kind field l a d nil (shape-inside field l c d (profile-nil c) p.0, tagged-profile (holds_fields field l) c p.1, tt))
    (tagged-profile field s p.2))

pub kind-tagged : (field : Bool) (f : CountingType) → Tagged by_label field f → Tagged by_kind field (kind_type f)
unfolding kind_type
kind-tagged field f h = tagged-profile field (relabel kind_label f) (tagged-relabel field f h)

-- a first node alone, over the kind type of its children
pub first-tagged : (field : Bool) (l : Label) (a : Payload) (c s : CountingType) → Tagged by_label field (node l a c s) → Tagged by_kind field (node (kind_label l) a (kind_type c) nil)
unfolding kind_type
first-tagged field l a c s h =
    let p = tagged-parts by_label field l a c s h in
    parts-tagged by_kind field (kind_label l) a (kind_type c) nil (
      shape-inside field (kind_label l) c (kind_type c) (λ z. profile-nil (relabel kind_label c) (relabel-nil c z)) (shape-kind field l c p.0),
      rw (holds-kind field l) (kind-tagged (holds_fields field l) c p.1),
      tt,
    )

-- siblings under kind to which others are added
pub tagged-add : (field : Bool) (r f : CountingType) → Tagged by_kind field r → Tagged by_kind field f → Sorted Counting f → Tagged by_kind field (add Counting r f)
tagged-add field r f h i u =
    let p = profile Counting r in
    let z : reduce Counting f p ≡ add Counting r f = reduce-add counting-laws f p u (sorted-profile counting-laws r) ∙ sym (add_comm counting-laws r f u) in
    rw z at (tagged-reduce by_kind field f p i (tagged-profile field r h))
