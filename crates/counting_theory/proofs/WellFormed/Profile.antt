-- What is asked of each node holds in the profile of valid values.
use mathlib.Core.Path.{◌≡◌, refl, sym, ◌∙◌, ap}
use mathlib.Core.Bool.{Bool, true, false, cond, true≢false}
use Prim.Native.Nat.{ℕ, suc, ◌+◌, ◌*◌, ◌≤◌}
use native.Mathlib.Numerals.{add-one}
use native.Mathlib.Nat.{add-zero}
use native.Mathlib.Omega.{arith}
use lib.Dec.{eqb}
use borrow.Author.Tests.{eqb-true, ne_eqb}
use Rattle.value_table.specs.Value.{Head, record_size, max_length, record_kind, Values, none, value, keys, member, Distinct, Proper, ValidAt, Valid}
use Rattle.value_table.specs.Value as table
use Rattle.counting_theory.specs.Payload.{one, proper}
use Rattle.counting_theory.specs.Trie.{nil, add, profile, total}
use Rattle.counting_theory.specs.Label.{field_kind, Counting, CountingType}
use Rattle.counting_theory.specs.declared.equivalence.Equivalence.{Equivalence}
use Rattle.counting_theory.specs.Raw.{class_of, addend, raw, profile_of}
use Rattle.counting_theory.specs.WellFormed.{depth_inside, fields_of, EachFits}
use Rattle.counting_theory.proofs.Payload.{count-one, count-field, proper-one, proper-field}
use Rattle.counting_theory.proofs.Label.{counting-laws}
use Rattle.counting_theory.proofs.Trie.Growth.{total-add}
use Rattle.counting_theory.proofs.KeyList.{member-ascending}
use Rattle.counting_theory.proofs.Tagged.Profile.{profile-addend, inferred, tagged-first}
use Rattle.counting_theory.proofs.WellFormed.Nodes.{Own, EachNode}
use Rattle.counting_theory.proofs.WellFormed.Fields.{fields-insert}
use Rattle.counting_theory.proofs.WellFormed.Reduce.{each-reduce}

-- the depth of the values of a run at this depth: a field has its record's depth
abbrev value_depth : Bool → ℕ → ℕ
value_depth field depth = cond field (suc depth) depth

inner-depth : (fields : Bool) (depth : ℕ) → suc depth ≡ value_depth fields (depth_inside fields depth)
inner-depth true depth = refl
inner-depth false depth = omega arith

pub fits-run : (vs : Values) → record_size * table.size vs ≤ max_length → EachFits vs
unfolding table.size
fits-run none h = tt
fits-run (value head key content next) h = (omega arith, fits-run next (omega arith))

module _ (e : Equivalence) where
  -- the fields of a single record
  single-record : (depth : ℕ) (vs : Values) → ValidAt true depth vs → Distinct (keys vs) → fields_of e 1 (profile Counting (raw e true vs)) ≡ true
  unfolding raw ValidAt Distinct keys add fields_of
  single-record depth none h d = refl
  single-record depth (value head key content next) h d =
      let i = inferred e true depth next h.2 in
      rw (profile-addend true key (class_of e head.kind content) (one head content) (raw e (eqb head.kind record_kind) content) (raw e true next))
      (fields-insert e key _ (profile Counting (raw e true next)) i.is-tagged
      (ap (member key) (i.has-keys refl d.1) ∙ member-ascending key (keys next) ∙ d.0) (single-record depth next h.2 d.1))

  each-addend : (field : Bool) (depth : ℕ) (head : Head) (key : ℕ) (content : Values) (c : CountingType) → Proper field (value_depth field depth) head key content →
      (eqb head.kind record_kind ≡ true → fields_of e 1 c ≡ true) → proper head.kind (one head content) (total Counting c) ≡ true →
      EachNode e (eqb head.kind record_kind) (depth_inside (eqb head.kind record_kind) (value_depth field depth)) c →
      EachNode e field depth (addend field key (class_of e head.kind content) (one head content) c nil)
  each-addend true depth head key content c p h m i =
      let own : Own e false (depth + 1) (class_of e head.kind content) (one head content) c =
      record { placed = omega (arith, p.shallow); positive = omega (arith, count-one head content); fields = λ t. rw (count-one head content) (h t); payload = m } in (
        record { placed = p.keyed; positive = omega (arith, count-field); fields = λ t. absurd (true≢false (sym t)); payload = proper-field field_kind _ (λ z. omega arith) },
        (own, rw (add-one depth) i, tt),
        tt,
      )
  each-addend false depth head key content c p h m i =
      (record { placed = p.shallow; positive = omega (arith, count-one head content); fields = λ t. rw (count-one head content) (h t); payload = m }, i, tt)

  -- a run of values that are no fields counts each of them
  total-run : (field : Bool) (depth : ℕ) (vs : Values) → ValidAt field depth vs → total Counting (raw e false vs) ≡ table.count vs
  unfolding raw ValidAt total table.count
  total-run field depth none h = refl
  total-run field depth (value head key content next) h =
      rw (ne_eqb head.kind field_kind (λ z. omega arith)) (omega (arith, count-one head content, total-run field depth next h.2))

  content-payload : (depth : ℕ) (head : Head) (content : Values) → ValidAt (eqb head.kind record_kind) depth content → record_size * (1 + table.size content) ≤ max_length →
      proper head.kind (one head content) (total Counting (profile Counting (raw e (eqb head.kind record_kind) content))) ≡ true
  unfolding total
  content-payload depth head content v room =
      proper-one head content _ (λ z. rw z (total-add counting-laws (raw e false content) nil ∙ rw add-zero (total-run _ depth content v))) room

  each-run : (field : Bool) (depth : ℕ) (vs : Values) → ValidAt field (value_depth field depth) vs → EachFits vs → EachNode e field depth (profile Counting (raw e field vs))
  unfolding raw ValidAt add
  each-run field depth none h w = tt
  each-run field depth (value head key content next) h w =
      let t : Bool = eqb head.kind record_kind in
      let d : ℕ = value_depth field depth in
      let c = profile Counting (raw e t content) in
      let g = profile Counting (raw e field next) in
      let inner : ValidAt t (value_depth t (depth_inside t d)) content = rw (← inner-depth t d) h.1 in
      let first = tagged-first e field d head key content c h.0 (λ z. rw z refl) (inferred e t (suc d) content h.1) in
      let single : t ≡ true → fields_of e 1 c ≡ true = λ z. rw z (single-record (suc d) content (rw z at h.1) (h.0.distinct (eqb-true head.kind record_kind z))) in
      rw (profile-addend field key (class_of e head.kind content) (one head content) (raw e t content) (raw e field next))
      (each-reduce e field depth (addend field key (class_of e head.kind content) (one head content) c nil) g first (inferred e field d next h.2).is-tagged
      (each-addend field depth head key content c h.0 single (content-payload (suc d) head content h.1 w.0)
      (each-run t (depth_inside t d) content inner (fits-run content (omega arith)))) (each-run field depth next h.2 w.1))

  pub each-profile : (messages : Values) → Valid messages → EachFits messages → EachNode e false 1 (profile_of e messages)
  unfolding profile_of
  each-profile messages h w = each-run false 1 messages h w
