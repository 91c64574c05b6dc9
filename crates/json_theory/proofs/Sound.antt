-- The values of the open levels are valid so far, and a value that is added keeps them so exactly if it is valid itself.
use mathlib.Core.Path.{◌≡◌, refl, ap}
use mathlib.Core.Bool.{Bool, true, false}
use mathlib.Core.List.{List, [], ◌∷◌, ◌++◌}
use Prim.Native.Nat.{ℕ, suc, ◌+◌, ◌≤◌, ◌<◌}
use native.Mathlib.Omega.{arith}
use lib.Dec.{eqb}
use Rattle.value_table.specs.Value.{Head, Values, none, value, size, count, keys, member, Distinct, KeyFits, Proper, ValidAt, record_kind, array_kind, last_scalar, max_depth, max_fields, join_values}
use Rattle.json_theory.specs.Grammar.{Container, array, object, head_of, kind_of}
use Rattle.json_theory.specs.Steps.{Stack, base, level, add}
use Rattle.json_theory.specs.Reader.{depth, written}
use Rattle.value_table.proofs.TableLayout.{distinct_snoc, distinct-parts}

pub size-join : (a b : Values) → size (join_values a b) ≡ size a + size b
unfolding size join_values
size-join none b = omega arith
size-join (value head key content n) b = omega (arith, size-join n b)

pub count-join : (a b : Values) → count (join_values a b) ≡ count a + count b
unfolding count join_values
count-join none b = omega arith
count-join (value head key content n) b = omega (arith, count-join n b)

keys-join : (a b : Values) → keys (join_values a b) ≡ keys a ++ keys b
unfolding keys join_values
keys-join none b = refl
keys-join (value head key content n) b = ap (λ (ks : List ℕ). key ∷ ks) (keys-join n b)

valid-add : (field : Bool) (d : ℕ) (a : Values) (head : Head) (key : ℕ) (content : Values) → ValidAt field d a → Proper field d head key content →
    ValidAt (eqb head.kind record_kind) (suc d) content → ValidAt field d (join_values a (value head key content none))
unfolding ValidAt join_values
valid-add field d none head key content h p v = (p, v, tt)
valid-add field d (value k l c n) head key content h p v = (h.0, h.1, valid-add field d n head key content h.2 p v)

valid-drop : (field : Bool) (d : ℕ) (a : Values) (head : Head) (key : ℕ) (content : Values) → ValidAt field d (join_values a (value head key content none)) →
    ValidAt field d a × Proper field d head key content × ValidAt (eqb head.kind record_kind) (suc d) content
unfolding ValidAt join_values
valid-drop field d none head key content h = (tt, h.0, h.1)
valid-drop field d (value k l c n) head key content h = let r = valid-drop field d n head key content h.2 in ((h.0, h.1, r.0), r.1, r.2)

-- whether the values of a level are fields, which have keys of their own
abbrev pub fields_of : Container → Bool
fields_of array = false
fields_of object = true

abbrev pub field_in : Stack → Bool
field_in (base ms) = false
field_in (level o key done outer) = fields_of o

abbrev pub KeyOk : ℕ → Stack → Type 0
KeyOk key (base ms) = key ≡ 0
KeyOk key (level array k done outer) = key ≡ 0
KeyOk key (level object k done outer) = (1 ≤ key) × (key < 65536) × (member key (keys done) ≡ false) × (count done < max_fields)

pub key_fits : (key : ℕ) (around : Stack) → KeyOk key around → KeyFits (field_in around) key
key_fits key (base ms) h = h
key_fits key (level array k done outer) h = h
key_fits key (level object k done outer) h = (h.0, h.1)

-- the fields of a record have distinct keys and are not too many
abbrev pub FieldsIn : Container → Values → Type 0
FieldsIn array done = Unit {0}
FieldsIn object done = Distinct (keys done) × (count done ≤ max_fields)

abbrev pub Sound : Stack → Type 0
Sound (base ms) = ValidAt false 1 ms
Sound (level o key done outer) =
    (suc (depth outer) ≤ max_depth) × KeyOk key outer × ValidAt (fields_of o) (suc (suc (depth outer))) done × FieldsIn o done × Sound outer

module _ (head : Head) (key : ℕ) (content : Values) where
  -- the value stands at the innermost level
  abbrev pub Own : Stack → Type 0
  Own around = Proper (field_in around) (suc (depth around)) head key content × ValidAt (eqb head.kind record_kind) (suc (suc (depth around))) content

  pub sound-add : (around : Stack) → Sound around → KeyOk key around → Own around → Sound (add (value head key content none) around)
  unfolding depth keys count
  sound-add (base ms) h k p = valid-add false 1 ms head key content h p.0 p.1
  sound-add (level array l done outer) h k p = (h.0, h.1, valid-add false _ done head key content h.2 p.0 p.1, tt, h.4)
  sound-add (level object l done outer) h k p = (
    h.0,
    h.1,
    valid-add true _ done head key content h.2 p.0 p.1,
    (rw keys-join (distinct_snoc key (keys done) k.2 h.3.0), omega (arith, k.3, count-join done (value head key content none))),
    h.4,
  )

  pub sound-drop : (around : Stack) → Sound (add (value head key content none) around) → Sound around × KeyOk key around × Own around
  unfolding depth keys count
  sound-drop (base ms) h = let r = valid-drop false 1 ms head key content h in (r.0, r.1.keyed, (r.1, r.2))
  sound-drop (level array l done outer) h =
      let r = valid-drop false _ done head key content h.2 in
      ((h.0, h.1, r.0, tt, h.4), r.1.keyed, (r.1, r.2))
  sound-drop (level object l done outer) h =
      let r = valid-drop true _ done head key content h.2 in
      let d : Distinct (keys done ++ (key ∷ [])) = rw keys-join at h.3.0 in
      let x = distinct-parts key (keys done) d in
      let few : count done < max_fields = omega (arith, h.3.1, count-join done (value head key content none)) in
      ((h.0, h.1, r.0, (x.0, omega arith), h.4), (r.1.keyed.0, r.1.keyed.1, x.1, few), (r.1, r.2))

pub written-add : (v : Values) (around : Stack) → written (add v around) ≡ written around + size v
unfolding written
written-add v (base ms) = size-join ms v
written-add v (level o key done outer) = omega (arith, size-join done v)

-- scalars
pub scalar-own : (head : Head) (key : ℕ) (around : Stack) → 1 ≤ head.kind → head.kind ≤ last_scalar → KeyOk key around → suc (depth around) ≤ max_depth → Own head key none around
unfolding ValidAt Distinct keys count
scalar-own head key around a b k d =
    (record { kind-low = a; kind-high = omega arith; scalar = λ h. refl; keyed = key_fits key around k; distinct = λ h. tt; few = λ h. omega arith; shallow = d }, tt)

-- an array or object that ends
own-kind : (o : Container) → (1 ≤ kind_of o) × (kind_of o ≤ array_kind) × (last_scalar < kind_of o)
own-kind array = (omega arith, omega arith, omega arith)
own-kind object = (omega arith, omega arith, omega arith)

pub sound-shut : (o : Container) (key : ℕ) (done : Values) (outer : Stack) → Sound (level o key done outer) → Sound (add (value (head_of (kind_of o)) key done none) outer)
sound-shut o key done outer h =
    sound-add (head_of (kind_of o)) key done outer h.4 h.1 (
      record {
        kind-low = (own-kind o).0;
        kind-high = (own-kind o).1;
        scalar = λ k. absurd (omega (arith, (own-kind o).2));
        keyed = key_fits key outer h.1;
        distinct = λ e. (fields o h.3 e).0;
        few = λ e. (fields o h.3 e).1;
        shallow = h.0;
      },
      inner o h.2,
    )
  where
    fields : (o : Container) → FieldsIn o done → kind_of o ≡ record_kind → FieldsIn object done
    fields array d e = absurd (omega arith)
    fields object d e = d

    inner : (o : Container) → ValidAt (fields_of o) (suc (suc (depth outer))) done → ValidAt (eqb (kind_of o) record_kind) (suc (suc (depth outer))) done
    inner array v = v
    inner object v = v

pub shut-sound : (o : Container) (key : ℕ) (done : Values) (outer : Stack) → Sound (add (value (head_of (kind_of o)) key done none) outer) → Sound (level o key done outer)
shut-sound o key done outer h =
    let r = sound-drop (head_of (kind_of o)) key done outer h in
    (r.2.0.shallow, r.1, inner o r.2.1, fields o r.2.0.distinct r.2.0.few, r.0)
  where
    fields : (o : Container) → (kind_of o ≡ record_kind → Distinct (keys done)) → (kind_of o ≡ record_kind → count done ≤ max_fields) → FieldsIn o done
    fields array d f = tt
    fields object d f = (d refl, f refl)

    inner : (o : Container) → ValidAt (eqb (kind_of o) record_kind) (suc (suc (depth outer))) done → ValidAt (fields_of o) (suc (suc (depth outer))) done
    inner array v = v
    inner object v = v
