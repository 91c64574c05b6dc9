-- The rules of one type record by itself, as a test and as what it says.
use mathlib.Core.Path.{◌≡◌, refl}
use mathlib.Core.Bool.{Bool, true, false, cond, ◌||◌}
use mathlib.Core.List.{List}
use Prim.Native.Nat.{ℕ, ◌+◌, ◌≤◌}
use lib.Dec.{eqb, leb, ltb}
use borrow.Author.Tests.{leb-true, le-leb, le-ltb, ltb-false, eqb-true, eq-eqb}
use Rattle.value_table.specs.Value.{max_depth, array_kind, last_scalar}
use Rattle.byte_records.proofs.Tests.{and_parts}
use Rattle.counting_theory.specs.Label.{field_kind}
use Rattle.counting_theory.specs.Encoding.{type_kind, type_zero, type_key, type_span}
use Rattle.counting_theory.specs.WellFormed.{field_record, addend_record, type_record}
use Rattle.counting_theory.proofs.WellFormed.Tests.{both, three-parts, three}

pub record FieldRecord (b : List ℕ) (i : ℕ) : Type 0 where
  pub kind-is : type_kind b i ≡ field_kind
  pub keyed : 1 ≤ type_key b i
  pub filled : 2 ≤ type_span b i

pub record AddendRecord (b : List ℕ) (i depth : ℕ) : Type 0 where
  pub kind-low : 1 ≤ type_kind b i
  pub kind-high : type_kind b i ≤ array_kind
  pub unkeyed : type_key b i ≡ 0
  pub shallow : depth ≤ max_depth
  pub scalar : type_kind b i ≤ last_scalar → type_span b i ≡ 1

abbrev pub OwnRecord : List ℕ → ℕ → Bool → ℕ → Type 0
OwnRecord b i true depth = FieldRecord b i
OwnRecord b i false depth = AddendRecord b i depth

pub record TypeRecord (b : List ℕ) (i end : ℕ) (field : Bool) (depth : ℕ) : Type 0 where
  pub zeroed : type_zero b i ≡ 0
  pub span-low : 1 ≤ type_span b i
  pub span_fits : i + type_span b i ≤ end
  pub own : OwnRecord b i field depth

module _ (b : List ℕ) (i : ℕ) where
  scalar-span : type_kind b i ≤ last_scalar → (ltb last_scalar (type_kind b i) || eqb (type_span b i) 1) ≡ true → type_span b i ≡ 1
  scalar-span k h = eqb-true (type_span b i) 1 (rw (le-ltb last_scalar (type_kind b i) k) at h)

  span-scalar : (type_kind b i ≤ last_scalar → type_span b i ≡ 1) → (ltb last_scalar (type_kind b i) || eqb (type_span b i) 1) ≡ true
  span-scalar h = go (ltb last_scalar (type_kind b i)) refl
    where
      go : (t : Bool) → ltb last_scalar (type_kind b i) ≡ t → (t || eqb (type_span b i) 1) ≡ true
      go true z = refl
      go false z = eq-eqb (type_span b i) 1 (h (ltb-false last_scalar (type_kind b i) z))

  own-record : (field : Bool) (depth : ℕ) → cond field (field_record b i) (addend_record b i depth) ≡ true → OwnRecord b i field depth
  own-record true depth h =
      let p = three-parts (eqb (type_kind b i) field_kind) (leb 1 (type_key b i)) (leb 2 (type_span b i)) h in
      record {
        kind-is = eqb-true (type_kind b i) field_kind p.0;
        keyed = leb-true 1 (type_key b i) p.1;
        filled = leb-true 2 (type_span b i) p.2;
      }
  own-record false depth h =
      let p = three-parts _ (leb depth max_depth) (ltb last_scalar (type_kind b i) || eqb (type_span b i) 1) h in
      let q = three-parts (leb 1 (type_kind b i)) (leb (type_kind b i) array_kind) (eqb (type_key b i) 0) p.0 in
      record {
        kind-low = leb-true 1 (type_kind b i) q.0;
        kind-high = leb-true (type_kind b i) array_kind q.1;
        unkeyed = eqb-true (type_key b i) 0 q.2;
        shallow = leb-true depth max_depth p.1;
        scalar = λ k. scalar-span k p.2;
      }

  own-test : (field : Bool) (depth : ℕ) → OwnRecord b i field depth → cond field (field_record b i) (addend_record b i depth) ≡ true
  own-test true depth r =
      three (eq-eqb (type_kind b i) field_kind r.kind-is) (le-leb 1 (type_key b i) r.keyed) (le-leb 2 (type_span b i) r.filled)
  own-test false depth r =
      three (three (le-leb 1 (type_kind b i) r.kind-low) (le-leb (type_kind b i) array_kind r.kind-high) (eq-eqb (type_key b i) 0 r.unkeyed))
      (le-leb depth max_depth r.shallow) (span-scalar r.scalar)

  module _ (end : ℕ) (field : Bool) (depth : ℕ) where
    pub type-record : type_record b i end field depth ≡ true → TypeRecord b i end field depth
    unfolding type_record
    type-record h =
        let p = and_parts _ (cond field (field_record b i) (addend_record b i depth)) h in
        let q = three-parts (eqb (type_zero b i) 0) (leb 1 (type_span b i)) (leb (i + type_span b i) end) p.0 in
        record {
          zeroed = eqb-true (type_zero b i) 0 q.0;
          span-low = leb-true 1 (type_span b i) q.1;
          span_fits = leb-true (i + type_span b i) end q.2;
          own = own-record field depth p.1;
        }

    pub record-test : TypeRecord b i end field depth → type_record b i end field depth ≡ true
    unfolding type_record
    record-test r =
        both (three (eq-eqb (type_zero b i) 0 r.zeroed) (le-leb 1 (type_span b i) r.span-low) (le-leb (i + type_span b i) end r.span_fits))
        (own-test field depth r.own)
