-- Profiles and merges within the limits are well-formed types.
use mathlib.Core.Path.{refl}
use mathlib.Core.Bool.{false}
use mathlib.Core.List.{List}
use Prim.Native.Nat.{ℕ}
use Rattle.counting_theory.specs.Trie.{reduce}
use Rattle.counting_theory.specs.Label.{Counting, CountingType}
use Rattle.counting_theory.specs.declared.equivalence.Equivalence.{Equivalence}
use Rattle.counting_theory.specs.Raw.{raw, profile_of}
use Rattle.counting_theory.specs.WellFormed.{IsType, ProfileIsType, ReduceIsType}
use Rattle.counting_theory.proofs.Trie.Sorted.{sorted-profile, sorted-reduce}
use Rattle.counting_theory.proofs.Label.{counting-laws}
use Rattle.counting_theory.proofs.Tagged.Profile.{tagged-profile}
use Rattle.counting_theory.proofs.Tagged.Reduce.{tagged-reduce}
use Rattle.counting_theory.proofs.Values.Totals.{profile-totals, reduce-totals}
use Rattle.counting_theory.proofs.WellFormed.Nodes.{EachNode, each-node, each-shallow, each-counted, each-field_counts, each-measured}
use Rattle.counting_theory.proofs.WellFormed.Reduce.{each-reduce}
use Rattle.counting_theory.proofs.WellFormed.Profile.{each-profile}

pub profile-type : ProfileIsType
unfolding profile_of
profile-type e messages valid fits room limit =
    let each : EachNode e false 1 (profile_of e messages) = each-profile e messages valid fits in
    record {
      bytes = refl;
      room = room;
      tagged = tagged-profile e messages valid;
      shallow = each-shallow e false 1 (profile_of e messages) each;
      sorted = sorted-profile counting-laws (raw e false messages);
      counts = each-counted e false 1 (profile_of e messages) each;
      limit = limit;
      totals = profile-totals e messages valid;
      fields = each-field_counts e false 1 (profile_of e messages) each;
      payloads = each-measured e false 1 (profile_of e messages) each;
    }

pub type-nodes : {e : Equivalence} {b : List ℕ} {f : CountingType} → IsType e b f → EachNode e false 1 f
type-nodes {e} {f = f} t = each-node e false 1 f t.shallow t.counts t.fields t.payloads

pub reduce-type : ReduceIsType
reduce-type e a b f g t u room limit =
    let each : EachNode e false 1 (reduce Counting f g) = each-reduce e false 1 f g t.tagged u.tagged (type-nodes t) (type-nodes u) in
    record {
      bytes = refl;
      room = room;
      tagged = tagged-reduce e false f g t.tagged u.tagged;
      shallow = each-shallow e false 1 (reduce Counting f g) each;
      sorted = sorted-reduce counting-laws f g t.sorted u.sorted;
      counts = each-counted e false 1 (reduce Counting f g) each;
      limit = limit;
      totals = reduce-totals f g t.sorted u.sorted t.totals u.totals;
      fields = each-field_counts e false 1 (reduce Counting f g) each;
      payloads = each-measured e false 1 (reduce Counting f g) each;
    }
