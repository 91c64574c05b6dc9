-- Refusals 3 to 7, 15 and 17 of one record: its fault is 0 exactly when it breaks no rule and its key is not too large.
use mathlib.Core.Path.{◌≡◌, refl}
use mathlib.Core.Bool.{Bool, true, false, cond, not, ◌&&◌}
use mathlib.Core.List.{List}
use Prim.Native.Nat.{ℕ, suc, ◌+◌, ◌≤◌, ◌<◌}
use native.Mathlib.Omega.{arith}
use lib.Dec.{eqb, leb, ltb}
use lib.ListN.{length}
use borrow.Author.Tests.{ltb-false, leb-true, leb-false, eqb-true, eqb-false, not-false, le-ltb, le-leb, lt-leb, eq-eqb, ne_eqb}
use Rattle.value_table.specs.Value.{records, kind_at, zero_at, key_at, span_at, member, KeyFits, last_scalar, array_kind, max_depth, max_fields}
use Rattle.value_table.specs.Judged.{Open, end_of, in_record, seen, bad_kind, bad_span, bad_key, too_large, repeated, too_many, too_deep, fault}
use Rattle.value_table.specs.Inside.RecordBytes.{PlainScalar}
use Rattle.byte_records.proofs.Tests.{or_parts, and_parts, and-false}

-- record i breaks no rule in a parent that ends at `end`, has had the keys `before`, and holds values at `depth`
pub record Faultless (b : List ℕ) (i end : ℕ) (field : Bool) (before : List ℕ) (depth : ℕ) : Type 0 where
  pub kind-low : 1 ≤ kind_at b i
  pub kind-high : kind_at b i ≤ array_kind
  pub zeroed : zero_at b i ≡ 0
  pub span-low : 1 ≤ span_at b i
  pub span_fits : i + span_at b i ≤ end
  pub scalar : kind_at b i ≤ last_scalar → span_at b i ≤ 1
  pub keyed : KeyFits field (key_at b i)
  pub fresh : field ≡ true → member (key_at b i) before ≡ false
  pub few : field ≡ true → length before < max_fields
  pub shallow : depth ≤ max_depth

-- the same inside the open values around record i
abbrev pub FaultlessIn : List ℕ → ℕ → List Open → Type 0
FaultlessIn b i around = Faultless b i (end_of (records b) around) (in_record around) (seen around) (suc (length around))

-- the kind and the span of a scalar of one record are no fault
pub scalar-fine : (b : List ℕ) (i end : ℕ) → PlainScalar b i → i < end → (bad_kind b i ≡ false) × (bad_span b i end ≡ false)
unfolding bad_kind bad_span
scalar-fine b i end p m = (
  rw (le-leb 1 (kind_at b i) p.kind-low, le-leb (kind_at b i) array_kind (omega (arith, p.kind-high)), eq-eqb (zero_at b i) 0 p.zeroed) refl,
  rw (p.single, le-ltb end (i + 1) (omega arith), and-false (leb (kind_at b i) last_scalar) false (λ e. refl)) refl,
)

passed : (t : Bool) (k x : ℕ) → cond t (suc k) x ≡ 0 → (t ≡ false) × (x ≡ 0)
passed true k x e = absurd (omega arith)
passed false k x e = (refl, e)

positive : (n : ℕ) → eqb n 0 ≡ false → 1 ≤ n
positive n e = omega (arith, eqb-false n 0 e)

key_fits : (field : Bool) (key : ℕ) → key < 65536 → cond field (eqb key 0) (not (eqb key 0)) ≡ false → KeyFits field key
key_fits true key h e = (positive key e, h)
key_fits false key h e = eqb-true key 0 (not-false (eqb key 0) e)

key-passes : (field : Bool) (key : ℕ) → KeyFits field key → cond field (eqb key 0) (not (eqb key 0)) ≡ false
key-passes true key h = ne_eqb key 0 (omega arith)
key-passes false key h = rw (eq-eqb key 0 h) refl

small-key : (field : Bool) (largest key : ℕ) → KeyFits field key → (field && ltb largest key) ≡ false → key ≤ largest
small-key true largest key f e = ltb-false largest key e
small-key false largest key f e = omega arith

module _ (largest : ℕ) (b : List ℕ) (i end : ℕ) (field : Bool) (before : List ℕ) (depth : ℕ) where
  pub faultless : key_at b i < 65536 → fault largest b i end field before depth ≡ 0 → Faultless b i end field before depth × (key_at b i ≤ largest)
  unfolding fault bad_kind bad_span bad_key too_large repeated too_many too_deep
  faultless below e =
      let kind = passed (bad_kind b i) 2 _ e in
      let span = passed (bad_span b i end) 3 _ kind.1 in
      let key = passed (bad_key b i field) 4 _ span.1 in
      let large = passed (too_large largest b i field) 16 _ key.1 in
      let again = passed (repeated b i field before) 5 _ large.1 in
      let many = passed (too_many field (length before)) 14 _ again.1 in
      let deep = passed (too_deep depth) 6 0 many.1 in
      let kinds = or_parts _ _ kind.0 in
      let range = and_parts _ _ (not-false _ kinds.0) in
      let spans = or_parts _ _ span.0 in
      let bounds = or_parts _ _ spans.0 in
      let fits = key_fits field (key_at b i) below key.0 in (
        record {
          kind-low = leb-true 1 (kind_at b i) range.0;
          kind-high = leb-true (kind_at b i) array_kind range.1;
          zeroed = eqb-true (zero_at b i) 0 (not-false _ kinds.1);
          span-low = positive (span_at b i) bounds.0;
          span_fits = ltb-false end (i + span_at b i) bounds.1;
          scalar = λ h. ltb-false 1 (span_at b i) (rw (le-leb (kind_at b i) last_scalar h) at spans.1);
          keyed = fits;
          fresh = λ h. rw h at again.0;
          few = λ h. leb-false max_fields (length before) (rw h at many.0);
          shallow = ltb-false max_depth depth deep.0;
        },
        small-key field largest (key_at b i) fits large.0,
      )

  pub faultless-zero : Faultless b i end field before depth → key_at b i ≤ largest → fault largest b i end field before depth ≡ 0
  unfolding fault bad_kind bad_span bad_key too_large repeated too_many too_deep
  faultless-zero f small =
      rw (
        le-leb 1 (kind_at b i) f.kind-low,
        le-leb (kind_at b i) array_kind f.kind-high,
        eq-eqb (zero_at b i) 0 f.zeroed,
        ne_eqb (span_at b i) 0 (omega arith),
        le-ltb end (i + span_at b i) f.span_fits,
        and-false (leb (kind_at b i) last_scalar) (ltb 1 (span_at b i)) (λ h. le-ltb 1 (span_at b i) (f.scalar (leb-true (kind_at b i) last_scalar h))),
        key-passes field (key_at b i) f.keyed,
        and-false field (ltb largest (key_at b i)) (λ h. le-ltb largest (key_at b i) small),
        and-false field (member (key_at b i) before) f.fresh,
        and-false field (leb max_fields (length before)) (λ h. lt-leb max_fields (length before) (f.few h)),
        le-ltb max_depth depth f.shallow,
      )
      refl
