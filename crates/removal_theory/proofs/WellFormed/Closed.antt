-- Merges of removal's types within the limits are well-formed types.
use mathlib.Core.Path.{refl}
use mathlib.Core.Bool.{false}
use mathlib.Core.List.{List}
use Prim.Native.Nat.{ℕ}
use Rattle.counting_theory.specs.Trie.{reduce}
use Rattle.counting_theory.specs.declared.equivalence.Equivalence.{Equivalence}
use Rattle.removal_theory.specs.Label.{Counting, CountingType}
use Rattle.removal_theory.specs.WellFormed.{IsType, ReduceIsType}
use Rattle.counting_theory.proofs.Trie.Sorted.{sorted-reduce}
use Rattle.removal_theory.proofs.Label.{counting-laws}
use Rattle.removal_theory.proofs.Tagged.Reduce.{tagged-reduce}
use Rattle.removal_theory.proofs.Values.Totals.{reduce-totals}
use Rattle.removal_theory.proofs.WellFormed.Nodes.{EachNode, each-node, each-shallow, each-counted, each-field_counts, each-measured}
use Rattle.removal_theory.proofs.WellFormed.Reduce.{each-reduce}

pub type-nodes : {e : Equivalence} {b : List ℕ} {f : CountingType} → IsType e b f → EachNode e false 1 f
type-nodes {e} {f = f} t = each-node e false 1 f t.shallow t.counts t.fields t.payloads

pub reduce-type : ReduceIsType
reduce-type e a b f g t u room limit =
    let each : EachNode e false 1 (reduce Counting f g) = each-reduce e false 1 f g t.tagged u.tagged (type-nodes t) (type-nodes u) in
    record {
      bytes = refl;
      room = room;
      tagged = tagged-reduce e false f g t.tagged u.tagged;
      shallow = each-shallow e false 1 (reduce Counting f g) each;
      sorted = sorted-reduce counting-laws f g t.sorted u.sorted;
      counts = each-counted e false 1 (reduce Counting f g) each;
      limit = limit;
      totals = reduce-totals f g t.sorted u.sorted t.totals u.totals;
      fields = each-field_counts e false 1 (reduce Counting f g) each;
      payloads = each-measured e false 1 (reduce Counting f g) each;
    }
