-- The bytes of a type under label, read under kind: the same tries without key lists.
use mathlib.Core.Path.{◌≡◌, refl, sym, ◌∙◌, ap}
use mathlib.Core.Bool.{Bool}
use mathlib.Core.List.{List}
use Prim.Native.Nat.{ℕ}
use Rattle.counting_theory.specs.Trie.{nil, node}
use Rattle.counting_theory.specs.Label.{CountingType}
use Rattle.counting_theory.specs.declared.equivalence.Equivalence.TheVariants.{Kind as by_kind, Label as by_label}
use Rattle.counting_theory.specs.Encoding.{header, encode, type_of}
use Rattle.counting_theory.specs.Inside.TypeBytes.{Fitting}
use Rattle.type_arena.specs.Inside.Addend.{Coded}
use Rattle.folding.specs.Fold.{relabel, kind_label}
use Rattle.counting_theory.proofs.Label.{counting-laws}
use Rattle.type_arena.proofs.FirstAddend.{coded-type}
use Rattle.folding.proofs.Relabel.{size-relabel}
use Rattle.folding.proofs.KindTagged.{tagged-relabel}

encode-relabel : (f : CountingType) → encode (relabel kind_label f) ≡ encode f
unfolding encode relabel header
encode-relabel nil = refl
encode-relabel (node l a c s) = rw (size-relabel counting-laws kind_label c, encode-relabel c, encode-relabel s) refl

fitting-relabel : (f : CountingType) → Fitting f → Fitting (relabel kind_label f)
unfolding Fitting relabel
fitting-relabel nil h = tt
fitting-relabel (node l a c s) h = (rw (size-relabel counting-laws kind_label c) h.0, fitting-relabel c h.1, fitting-relabel s h.2)

pub coded-kind : {field : Bool} {x : List ℕ} → Coded by_label field x → Coded by_kind field x
coded-kind {field} k =
    record {
      trie = relabel kind_label k.trie;
      bytes = k.bytes ∙ sym (encode-relabel k.trie);
      tagged = tagged-relabel field k.trie k.tagged;
      fitting = fitting-relabel k.trie k.fitting;
    }

pub type-kind : {field : Bool} {x : List ℕ} → Coded by_label field x → type_of by_kind x ≡ relabel kind_label (type_of by_label x)
unfolding coded-kind
type-kind k = coded-type (coded-kind k) ∙ ap (relabel kind_label) (sym (coded-type k))
