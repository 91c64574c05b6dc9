-- Laws of the earlier siblings of a record, for the search of a repeated key and for the walk.
use mathlib.Core.Path.{◌≡◌, refl, sym, ap, ◌∙◌}
use mathlib.Core.Bool.{Bool, true, false}
use mathlib.Core.List.{List, ◌∷◌}
use Prim.Native.Nat.{ℕ, ◌+◌, ◌≤◌, ◌<◌}
use native.Mathlib.Omega.{arith}
use borrow.Author.Tests.{eq-eqb, ne_eqb}
use Rattle.std.specs.Prelude.{Option, None, Some, is_some}
use lib.ListN.{length}
use Rattle.value_table.specs.Value.{key_at, span_at, member}
use Rattle.value_table.specs.Judged.{repeated, too_many}
use Rattle.byte_records.specs.Inside.Chain.{Chain}
use Rattle.value_table.specs.Inside.EarlierFields.{FieldsBefore, field, other, EarlierFields}
use Rattle.byte_records.proofs.Chain.{Sibling, chain-le, chain-sibling, chain-done}

member-head : {key x : ℕ} (xs : List ℕ) → key ≡ x → member key (x ∷ xs) ≡ true
unfolding member
member-head {key} {x} xs e = rw (eq-eqb key x e) refl

pub member-tail : {key x : ℕ} (xs : List ℕ) → (key ≡ x → ⊥) → member key (x ∷ xs) ≡ member key xs
unfolding member
member-tail {key} {x} xs n = rw (ne_eqb key x n) refl

-- a key stands among all fields exactly if it stands among those from record p on
pub record Left (b : List ℕ) (i key : ℕ) (all : List ℕ) (p : ℕ) : Type 0 where
  pub keys : List ℕ
  pub chain : Chain (span_at b) (key_at b) i p keys
  pub same : member key all ≡ member key keys

module _ {b : List ℕ} {i : ℕ} where
  module _ {key p : ℕ} {all : List ℕ} (w : Left b i key all p) where
    pub left_step : p < i → Sibling (span_at b) (key_at b) i p w.keys
    left_step l = chain-sibling (λ e. omega arith) w.chain

    pub left-found : p < i → key_at b p ≡ key → true ≡ member key all
    left-found l e = sym (w.same ∙ (ap (member key) (left_step l).head ∙ member-head _ (sym e)))

    pub left-next : p < i → (key_at b p ≡ key → ⊥) → Left b i key all (p + span_at b p)
    left-next l n =
        let s = left_step l in
        record { keys = s.keys; chain = s.chain; same = w.same ∙ (ap (member key) s.head ∙ member-tail _ (λ e. n (sym e))) }

    pub left-none : i ≤ p → false ≡ member key all
    unfolding member
    left-none l = sym (w.same ∙ ap (member key) (chain-done (omega (arith, chain-le w.chain)) w.chain))

-- `first` tells whether record i is a field
module _ {b : List ℕ} {i : ℕ} where
  pub first_field : {first : Option ℕ} {g f : Bool} {ks : List ℕ} → g ≡ is_some first → FieldsBefore b i first f ks → g ≡ f
  first_field e (field h) = e
  first_field e other = e

  pub many-same : {first : Option ℕ} {before : ℕ} {g f : Bool} {ks : List ℕ} → g ≡ is_some first → FieldsBefore b i first f ks → (f ≡ true → length ks ≡ before) →
      too_many g before ≡ too_many f (length ks)
  unfolding too_many
  many-same e (field h) n = rw (e, n refl) refl
  many-same e other n = rw e refl

  pub unrepeated : {f : Bool} {ks : List ℕ} → FieldsBefore b i None f ks → false ≡ repeated b i f ks
  unfolding repeated
  unrepeated other = refl

  pub siblings : {first : ℕ} {f : Bool} {ks : List ℕ} → FieldsBefore b i (Some first) f ks → EarlierFields b i first
  siblings (field {ks = ks} h) = record { keys = ks; chain = h }

  pub repeated-member : {first : ℕ} {r f : Bool} {ks : List ℕ} → FieldsBefore b i (Some first) f ks → (Chain (span_at b) (key_at b) i first ks → r ≡ member (key_at b i) ks) →
      r ≡ repeated b i f ks
  unfolding repeated
  repeated-member (field h) m = m h
