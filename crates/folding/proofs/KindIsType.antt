-- The kind type of a well-formed type under label: well formed under kind exactly if it keeps the limit on totals.
use mathlib.Core.Path.{◌≡◌, refl, sym, ◌∙◌}
use mathlib.Core.Bool.{Bool, true, false, true≢false}
use mathlib.Core.List.{List}
use Prim.Native.Nat.{ℕ}
use native.Mathlib.Omega.{arith}
use Rattle.byte_records.proofs.Tests.{and_parts}
use Rattle.counting_theory.specs.Label.{CountingType}
use Rattle.counting_theory.specs.declared.equivalence.Equivalence.TheVariants.{Kind as by_kind, Label as by_label}
use Rattle.counting_theory.specs.Encoding.{type_records, encode, type_of}
use Rattle.counting_theory.specs.Inside.TypeBytes.{Fitting}
use Rattle.counting_theory.specs.WellFormed.{laid_out, within_limit, obeys, well_formed, IsType}
use Rattle.folding.specs.Fold.{kind_type}
use Rattle.counting_theory.proofs.Encoding.Decode.{decode-encode}
use Rattle.counting_theory.proofs.WellFormed.Nodes.{EachNode, each-shallow, each-counted, each-field_counts, each-measured}
use Rattle.counting_theory.proofs.WellFormed.Closed.{type-nodes}
use Rattle.counting_theory.proofs.WellFormed.Limit.{limit-totals}
use Rattle.counting_theory.proofs.WellFormed.Fitting.{fitting}
use Rattle.counting_theory.proofs.WellFormed.Rules.{obeys-rules}
use Rattle.counting_theory.proofs.Ways.Calls.{encode-formed}
use Rattle.folding.proofs.KindType.{kind-size, kind-sorted, kind-below}
use Rattle.folding.proofs.KindTagged.{kind-tagged}
use Rattle.folding.proofs.KindNodes.{kind-each, kind-totals}

module _ {b : List ℕ} {f : CountingType} (t : IsType by_label b f) where
  each : EachNode by_kind false 1 (kind_type f)
  each = kind-each false 1 f t.tagged t.sorted (type-nodes t)

  pub kind-type : within_limit (kind_type f) ≡ true → IsType by_kind (encode (kind_type f)) (kind_type f)
  kind-type limit =
      record {
        bytes = refl;
        room = omega (arith, kind-size f, t.room);
        tagged = kind-tagged false f t.tagged;
        shallow = each-shallow by_kind false 1 (kind_type f) each;
        sorted = kind-sorted f;
        counts = each-counted by_kind false 1 (kind_type f) each;
        limit = limit;
        totals = kind-totals f t.totals;
        fields = each-field_counts by_kind false 1 (kind_type f) each;
        payloads = each-measured by_kind false 1 (kind_type f) each;
      }

  -- its counts fit their bytes, above the limit too
  kind-fitting : Fitting (kind_type f)
  kind-fitting =
      fitting by_kind false 1 (kind_type f) (kind-tagged false f t.tagged) (each-shallow by_kind false 1 (kind_type f) each) (kind-totals f t.totals)
      (each-measured by_kind false 1 (kind_type f) each) (omega (arith, kind-size f, t.room)) (omega (arith, kind-below f (limit-totals f t.limit), t.room))

  formed-limit : well_formed by_kind (encode (kind_type f)) ≡ true → within_limit (kind_type f) ≡ true
  unfolding well_formed
  formed-limit h =
      let b = encode (kind_type f) in
      let o = (and_parts (laid_out b (type_records b) 0 (type_records b) false 1) (obeys by_kind (type_of by_kind b)) h).1 in
      rw (decode-encode by_kind false (kind_type f) (kind-tagged false f t.tagged) kind-fitting) at (obeys-rules by_kind (type_of by_kind b) o).limit

  pub kind-formed : well_formed by_kind (encode (kind_type f)) ≡ within_limit (kind_type f)
  kind-formed = go (well_formed by_kind (encode (kind_type f))) (within_limit (kind_type f)) refl refl
    where
      go : (v w : Bool) → well_formed by_kind (encode (kind_type f)) ≡ v → within_limit (kind_type f) ≡ w → v ≡ w
      go true w x y = sym (formed-limit x) ∙ y
      go false true x y = absurd (true≢false (sym (encode-formed by_kind (kind_type f) (kind-type y)) ∙ x))
      go false false x y = refl
