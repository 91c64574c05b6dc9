-- The records that have a key are as many as the fields with that key, since the keys of a record differ.
use mathlib.Core.Path.{◌≡◌, refl}
use mathlib.Core.Bool.{Bool, true, false, cond, ◌&&◌, ◌||◌}
use mathlib.Core.List.{List, [], ◌∷◌, flat_map}
use Prim.Native.Nat.{ℕ, ◌+◌}
use native.Mathlib.Omega.{arith}
use lib.Dec.{eqb}
use lib.ListN.{length, length-append}
use borrow.Author.Tests.{eqb-true}
use Rattle.value_table.specs.Value.{Values, none, value, keys, member, Distinct, record_kind}
use Rattle.byte_records.proofs.Tests.{or_parts}
use Rattle.counting_theory.specs.Place.{Value, values_with, field_of, field_values, select, having}
use Rattle.counting_theory.proofs.Values.Every.{Every, ValidValue, EachValid, every_map}

with_none : (k : ℕ) (c : Values) → member k (keys c) ≡ false → values_with k c ≡ []
unfolding keys member values_with
with_none k none h = refl
with_none k (value head key content next) h =
    let p = or_parts (eqb k key) (member k (keys next)) h in
    rw p.0 (with_none k next p.1)

length-with : (k : ℕ) (c : Values) → Distinct (keys c) → length (values_with k c) ≡ cond (member k (keys c)) 1 0
unfolding keys member Distinct values_with
length-with k none d = refl
length-with k (value head key content next) d = go (eqb k key) refl (length-with k next d.1)
  where
    v : Value
    v = record { head = head; content = content }

    go : (b : Bool) → eqb k key ≡ b → length (values_with k next) ≡ cond (member k (keys next)) 1 0 →
        length (cond b (v ∷ values_with k next) (values_with k next)) ≡ cond (b || member k (keys next)) 1 0
    go true e i = rw (with_none k next (rw (eqb-true k key e) d.0)) refl
    go false e i = i

-- where f gives one value for each that passes the test, and none for the others
length-select : (f : Value → List Value) (test : Value → Bool) (M : List Value) → Every (λ v. length (f v) ≡ cond (test v) 1 0) M →
    length (flat_map f M) ≡ length (select test M)
unfolding flat_map select
length-select f test [] h = refl
length-select f test (v ∷ M) h = rw (length-append (f v) (flat_map f M), h.0, length-select f test M h.1) (go (test v))
  where
    go : (b : Bool) → cond b 1 0 + length (select test M) ≡ length (cond b (v ∷ select test M) (select test M))
    go true = omega arith
    go false = omega arith

pub length-having : (k : ℕ) (M : List Value) → EachValid M → length (field_values k M) ≡ length (having k M)
unfolding field_values having
length-having k M m = length-select (field_of k) _ M (every_map ValidValue _ one M m)
  where
    one : (v : Value) → ValidValue v → length (field_of k v) ≡ cond (eqb v.head.kind record_kind && member k (keys v.content)) 1 0
    one v p = go (eqb v.head.kind record_kind) refl
      where
        go : (b : Bool) → eqb v.head.kind record_kind ≡ b → length (cond b (values_with k v.content) []) ≡ cond (b && member k (keys v.content)) 1 0
        go true e = length-with k v.content (p.proper.distinct (eqb-true v.head.kind record_kind e))
        go false e = refl
