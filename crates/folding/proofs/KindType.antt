-- The kind type: of a profile, of a reduced type, at each place, by its first node, and its size and totals.
use mathlib.Core.Path.{◌≡◌, refl, sym, ◌∙◌, ap}
use mathlib.Core.Bool.{Bool, true, false}
use Prim.Native.Nat.{◌*◌, ◌≤◌}
use native.Mathlib.Omega.{arith}
use lib.Dec.{eqb}
use Rattle.value_table.specs.Value.{record_kind, Values, none, value}
use Rattle.counting_theory.specs.Payload.{Payload}
use Rattle.counting_theory.specs.Trie.{nil, node, size, insert, add, profile, reduce, Sorted, total, largest_below, largest_total}
use Rattle.counting_theory.specs.Inside.TrieLaws.{append, NoLarger}
use Rattle.counting_theory.specs.Label.{Label, listed, Counting, CountingType}
use Rattle.counting_theory.specs.declared.equivalence.Equivalence.TheVariants.{Kind as by_kind, Label as by_label}
use Rattle.counting_theory.specs.Raw.{raw, profile_of}
use Rattle.counting_theory.specs.WellFormed.{max_total}
use Rattle.folding.specs.Fold.{relabel, kind_label, kind_type, JoinsPlaces}
use Rattle.counting_theory.proofs.Trie.Sorted.{sorted-profile}
use Rattle.counting_theory.proofs.Trie.Profile.{lookup-profile, reduce-profile, reduce-add}
use Rattle.counting_theory.proofs.Trie.Growth.{total-add, add-grows}
use Rattle.counting_theory.proofs.Label.{counting-laws}
use Rattle.counting_theory.proofs.Ways.Weights.{weights, weights-add, largest-le}
use Rattle.folding.proofs.Relabel.{profile-relabel, reduce-relabel, size-relabel, size-profile}

pub joins-places : JoinsPlaces
unfolding kind_type
joins-places f place = lookup-profile counting-laws (relabel kind_label f) place

relabel-raw : (field : Bool) (vs : Values) → relabel kind_label (raw by_label field vs) ≡ raw by_kind field vs
unfolding relabel raw listed
relabel-raw field none = refl
relabel-raw true (value head key content next) = rw (relabel-raw (eqb head.kind record_kind) content, relabel-raw true next) refl
relabel-raw false (value head key content next) = rw (relabel-raw (eqb head.kind record_kind) content, relabel-raw false next) refl

-- the kind type of some messages' label type is their type under kind
pub kind-profile : (messages : Values) → kind_type (profile_of by_label messages) ≡ profile_of by_kind messages
unfolding kind_type profile_of
kind-profile messages =
    profile-relabel counting-laws kind_label (raw by_label false messages) ∙ ap (profile Counting) (relabel-raw false messages)

pub kind-reduce : (f g : CountingType) → Sorted Counting f → Sorted Counting g → kind_type (reduce Counting f g) ≡ reduce Counting (kind_type f) (kind_type g)
unfolding kind_type
kind-reduce f g u v = reduce-relabel counting-laws kind_label f g u v

pub kind-size : (f : CountingType) → size (kind_type f) ≤ size f
unfolding kind_type
kind-size f = omega (arith, size-profile Counting (relabel kind_label f), size-relabel counting-laws kind_label f)

pub kind-sorted : (f : CountingType) → Sorted Counting (kind_type f)
unfolding kind_type
kind-sorted f = sorted-profile counting-laws (relabel kind_label f)

-- whatever limits the kind type of a reduced type keeps, that of either part keeps
pub kind_grows : (f g : CountingType) → Sorted Counting f → Sorted Counting g → NoLarger Counting (kind_type g) (kind_type (reduce Counting f g))
kind_grows f g u v =
    rw (kind-reduce f g u v, reduce-add counting-laws (kind_type f) (kind_type g) (kind-sorted f) (kind-sorted g)) (add-grows counting-laws (kind_type f) (kind_type g))

pub kind-nil : kind_type nil ≡ nil
unfolding kind_type relabel add
kind-nil = refl

-- a node over the kind type of its children, merged with that of its siblings
pub kind-node : (l : Label) (a : Payload) (c s : CountingType) → kind_type (node l a c s) ≡ reduce Counting (node (kind_label l) a (kind_type c) nil) (kind_type s)
unfolding kind_type relabel append add insert
kind-node l a c s = sym (reduce-profile counting-laws (node (kind_label l) a (relabel kind_label c) nil) (relabel kind_label s))

pub total-relabel : (f : CountingType) → total Counting (relabel kind_label f) ≡ total Counting f
unfolding relabel total
total-relabel nil = refl
total-relabel (node l a c s) = rw (total-relabel s) refl

pub kind-total : (f : CountingType) → total Counting (kind_type f) ≡ total Counting f
unfolding kind_type total
kind-total f = omega (arith, total-add counting-laws (relabel kind_label f) nil, total-relabel f)

weights-relabel : (f : CountingType) → weights Counting (relabel kind_label f) ≡ weights Counting f
unfolding weights relabel
weights-relabel nil = refl
weights-relabel (node l a c s) = rw (weights-relabel c, weights-relabel s) refl

weights-size : (f : CountingType) → total Counting f ≤ max_total → largest_below Counting f ≤ max_total → weights Counting f ≤ max_total * size f
unfolding total largest_below weights size
weights-size nil h i = omega arith
weights-size (node l a c s) h i = omega (arith, weights-size c (omega arith) (omega arith), weights-size s (omega arith) (omega arith))

-- no union of the kind type totals more than the limit, for each record
pub kind-below : (f : CountingType) → largest_total Counting f ≤ max_total → largest_total Counting (kind_type f) ≤ max_total * size f
unfolding kind_type weights largest_total
kind-below f h =
    let r = relabel kind_label f in
    omega (arith, largest-le counting-laws (profile Counting r), weights-add counting-laws r nil, weights-relabel f, weights-size f (omega arith) (omega arith))
