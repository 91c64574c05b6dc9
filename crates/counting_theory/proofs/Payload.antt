-- The laws of payloads: what the other proofs know of them.
use mathlib.Core.Path.{◌≡◌, refl}
use mathlib.Core.Bool.{Bool, true, false, cond}
use mathlib.Core.List.{List, [], ◌∷◌}
use Prim.Native.Nat.{ℕ, ◌+◌, ◌*◌, ◌-◌, ◌^◌, ◌≤◌, ◌<◌, min, max}
use native.Mathlib.Nat.{add_comm, add_assoc, add-mul, one-mul, mul-le-mul_left}
use native.Mathlib.Omega.{arith}
use lib.Dec.{eqb, leb}
use lib.ListN.{length}
use borrow.Author.Tests.{eqb-true, eq-eqb, ne_eqb, leb-true, le-leb}
use Rattle.byte_records.specs.Inside.Fits.{Fits}
use Rattle.byte_records.proofs.Tests.{and_parts}
use Rattle.value_table.specs.Value.{Head, record_size, max_length, array_kind, Values, none, value}
use Rattle.value_table.specs.Value as table
use Rattle.counting_theory.specs.Payload.{Payload, payload_format, numbers, of_numbers, one, one_field, join, copies, max_elements, lengths_fit, no_lengths, proper}

pub join-comm : (a b : Payload) → join a b ≡ join b a
unfolding join
join-comm a b =
    let s : min a.shortest b.shortest ≡ min b.shortest a.shortest = omega arith in
    let l : max a.longest b.longest ≡ max b.longest a.longest = omega arith in
    λ i. record { count = add_comm a.count b.count i; shortest = s i; longest = l i }

pub join-assoc : (a b c : Payload) → join (join a b) c ≡ join a (join b c)
unfolding join
join-assoc a b c =
    let s : min (min a.shortest b.shortest) c.shortest ≡ min a.shortest (min b.shortest c.shortest) = omega arith in
    let l : max (max a.longest b.longest) c.longest ≡ max a.longest (max b.longest c.longest) = omega arith in
    λ i. record { count = add_assoc a.count b.count c.count i; shortest = s i; longest = l i }

pub count-join : (a b : Payload) → (join a b).count ≡ a.count + b.count
unfolding join
count-join a b = refl

pub count-one : (head : Head) (content : Values) → (one head content).count ≡ 1
unfolding one
count-one head content = refl

pub count-field : one_field.count ≡ 1
unfolding one_field
count-field = refl

-- copies
pub copies-one : (a : Payload) → copies 1 a ≡ a
unfolding copies
copies-one a = λ i. record { count = one-mul a.count i; shortest = a.shortest; longest = a.longest }

pub copies-add : (m n : ℕ) (a : Payload) → copies (m + n) a ≡ join (copies m a) (copies n a)
unfolding copies join
copies-add m n a =
    let s : a.shortest ≡ min a.shortest a.shortest = omega arith in
    let l : a.longest ≡ max a.longest a.longest = omega arith in
    λ i. record { count = add-mul m n a.count i; shortest = s i; longest = l i }

-- numbers and bytes
pub length-numbers : (a : Payload) → length (numbers a) ≡ length payload_format
unfolding numbers
length-numbers a = refl

pub numbers-read : (a : Payload) → of_numbers (numbers a) ≡ a
unfolding numbers of_numbers
numbers-read a = refl

pub numbers-written : (ns : List ℕ) → length ns ≡ length payload_format → numbers (of_numbers ns) ≡ ns
unfolding numbers of_numbers
numbers-written [] h = absurd (omega arith)
numbers-written (n ∷ []) h = absurd (omega arith)
numbers-written (n ∷ m ∷ []) h = absurd (omega arith)
numbers-written (n ∷ m ∷ k ∷ []) h = refl
numbers-written (n ∷ m ∷ k ∷ j ∷ ns) h = absurd (omega arith)

-- what the two tests of lengths say
pub record Lengths (a : Payload) (elements : ℕ) : Type 0 where
  pub ordered : a.shortest ≤ a.longest
  pub small : a.longest ≤ max_elements
  pub enough : a.longest + (a.count - 1) * a.shortest ≤ elements
  pub few : elements ≤ a.shortest + (a.count - 1) * a.longest

module _ (a : Payload) (m : ℕ) where
  lengths-hold : lengths_fit a m ≡ true → Lengths a m
  lengths-hold h =
      let p = and_parts _ (leb m (a.shortest + (a.count - 1) * a.longest)) h in
      let q = and_parts _ (leb (a.longest + (a.count - 1) * a.shortest) m) p.0 in
      let r = and_parts (leb a.shortest a.longest) (leb a.longest max_elements) q.0 in
      record { ordered = leb-true _ _ r.0; small = leb-true _ _ r.1; enough = leb-true _ _ q.1; few = leb-true _ _ p.1 }

  lengths-test : Lengths a m → lengths_fit a m ≡ true
  lengths-test h = rw (le-leb _ _ h.ordered, le-leb _ _ h.small, le-leb _ _ h.enough, le-leb _ _ h.few) refl

no_lengths_lem : (a : Payload) → no_lengths a ≡ true → (a.shortest ≡ 0) × (a.longest ≡ 0)
no_lengths_lem a h = let p = and_parts (eqb a.shortest 0) (eqb a.longest 0) h in (eqb-true _ _ p.0, eqb-true _ _ p.1)

pub numbers_fit : (kind : ℕ) (a : Payload) (within : ℕ) → proper kind a within ≡ true → a.count < 2 ^ 64 → Fits payload_format (numbers a)
unfolding numbers proper
numbers_fit kind a within p h = go (eqb kind array_kind) p
  where
    go : (t : Bool) → cond t (lengths_fit a within) (no_lengths a) ≡ true → Fits payload_format (numbers a)
    go true i = let f = lengths-hold a within i in (h, (omega (arith, f.ordered, f.small), (omega (arith, f.small), tt)))
    go false i = let f = no_lengths_lem a i in (h, (omega (arith, f), (omega (arith, f), tt)))

-- what is asked of a payload
lengths-join : (a b : Payload) (m n : ℕ) → 1 ≤ a.count → 1 ≤ b.count → Lengths a m → Lengths b n → Lengths (join a b) (m + n)
unfolding join
lengths-join a b m n x y f g =
    let p = a.count - 1 in
    let q = b.count - 1 in
    let s = min a.shortest b.shortest in
    let l = max a.longest b.longest in
    let counts : a.count + b.count - 1 ≡ p + q + 1 = omega arith in
    let spread : (k : ℕ) → (a.count + b.count - 1) * k ≡ p * k + q * k + k = λ k. rw (counts, add-mul, add-mul, one-mul) refl in
    record {
      ordered = omega (arith, f.ordered, g.ordered);
      small = omega (arith, f.small, g.small);
      enough =
          rw (spread s) (omega (
            arith,
            mul-le-mul_left {m = s} {n = a.shortest} p (omega arith),
            mul-le-mul_left {m = s} {n = b.shortest} q (omega arith),
            f.enough,
            g.enough,
            f.ordered,
            g.ordered,
          ));
      few =
          rw (spread l) (omega (
            arith,
            mul-le-mul_left {m = a.longest} {n = l} p (omega arith),
            mul-le-mul_left {m = b.longest} {n = l} q (omega arith),
            f.few,
            g.few,
            f.ordered,
            g.ordered,
          ));
    }

pub proper-join : (kind : ℕ) (a b : Payload) (m n : ℕ) → 1 ≤ a.count → 1 ≤ b.count → proper kind a m ≡ true → proper kind b n ≡ true →
    proper kind (join a b) (m + n) ≡ true
unfolding proper join
proper-join kind a b m n x y p q = go (eqb kind array_kind) p q
  where
    go : (t : Bool) → cond t (lengths_fit a m) (no_lengths a) ≡ true → cond t (lengths_fit b n) (no_lengths b) ≡ true →
        cond t (lengths_fit (join a b) (m + n)) (no_lengths (join a b)) ≡ true
    go true i j = lengths-test (join a b) (m + n) (lengths-join a b m n x y (lengths-hold a m i) (lengths-hold b n j))
    go false i j =
        let f = no_lengths_lem a i in
        let g = no_lengths_lem b j in
        rw (eq-eqb (join a b).shortest 0 (omega (arith, f, g)), eq-eqb (join a b).longest 0 (omega (arith, f, g))) refl

pub count-size : (vs : Values) → table.count vs ≤ table.size vs
unfolding table.count table.size
count-size none = omega arith
count-size (value kind key content next) = omega (arith, count-size next)

lengths-one : (n : ℕ) → n ≤ max_elements → Lengths (record { count = 1; shortest = n; longest = n }) n
lengths-one n h = let e : (1 - 1) * n ≡ 0 = omega arith in record { ordered = omega arith; small = h; enough = rw e (omega arith); few = rw e (omega arith) }

pub proper-one : (head : Head) (content : Values) (within : ℕ) → (head.kind ≡ array_kind → within ≡ table.count content) →
    record_size * (1 + table.size content) ≤ max_length → proper head.kind (one head content) within ≡ true
unfolding proper one
proper-one head content within h room = go (eqb head.kind array_kind) refl
  where
    go : (t : Bool) → eqb head.kind array_kind ≡ t →
        let n = cond t (table.count content) 0 in
        let a : Payload = record { count = 1; shortest = n; longest = n } in
        cond t (lengths_fit a within) (no_lengths a) ≡ true
    go true i =
        let few : table.count content ≤ max_elements = omega (arith, count-size content) in
        rw (h (eqb-true head.kind array_kind i)) (lengths-test _ (table.count content) (lengths-one (table.count content) few))
    go false i = refl

-- by kind
pub proper-array : (kind : ℕ) (a : Payload) (within : ℕ) → kind ≡ array_kind → proper kind a within ≡ lengths_fit a within
unfolding proper
proper-array kind a within h = rw (eq-eqb kind array_kind h) refl

pub proper-other : (kind : ℕ) (a : Payload) (within : ℕ) → ¬ (kind ≡ array_kind) → proper kind a within ≡ no_lengths a
unfolding proper
proper-other kind a within h = rw (ne_eqb kind array_kind h) refl

pub proper-field : (kind within : ℕ) → ¬ (kind ≡ array_kind) → proper kind one_field within ≡ true
unfolding one_field
proper-field kind within h = proper-other kind one_field within h
