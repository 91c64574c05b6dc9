-- What the check asks of one record of document 01 is what the theory asks of it.
use mathlib.Core.Path.{◌≡◌, refl, ◌∙◌, sym}
use mathlib.Core.Bool.{Bool, true}
use mathlib.Core.List.{List}
use Prim.Native.Nat.{ℕ}
use Rattle.counting_theory.specs.declared.equivalence.Equivalence.{Equivalence}
use Rattle.counting_theory.specs.WellFormed as theory
use Rattle.counting_theory.proofs.WellFormed.Record.{TypeRecord, type-record, record-test}
use Rattle.type_check.specs.Inside.Reading.{full}
use Rattle.type_check.specs.Inside.Checker.{Run, type_record, fits}
use Rattle.type_check.proofs.OnePass.Fits.{is_fields, depth_of, Follows, fits-parts, parts-fit}

record-is : (b : List ℕ) (p end : ℕ) (field : Bool) (depth : ℕ) → type_record full b p end field depth ≡ theory.type_record b p end field depth
unfolding type_record theory.type_record
record-is b p end field depth = refl

module _ (e : Equivalence) (b : List ℕ) (p end : ℕ) where
  pub fits-record : (r : Run) → fits full e b p end r ≡ true → TypeRecord b p end (is_fields r) (depth_of r) × Follows full e b p r
  fits-record r h =
      let x = fits-parts full e b p end r h in
      (type-record b p end (is_fields r) (depth_of r) (sym (record-is b p end (is_fields r) (depth_of r)) ∙ x.0), x.1)

  pub record-fits : (r : Run) → TypeRecord b p end (is_fields r) (depth_of r) → Follows full e b p r → fits full e b p end r ≡ true
  record-fits r h = parts-fit full e b p end r (record-is b p end (is_fields r) (depth_of r) ∙ record-test b p end (is_fields r) (depth_of r) h)
