-- What is left of a run on its bytes, one addend at a time.
use mathlib.Core.Path.{◌≡◌, refl, sym, ap, ◌∙◌}
use mathlib.Core.Bool.{Bool, true, false, cond, not, ◌&&◌, ◌||◌}
use mathlib.Core.List.{List, [], ◌++◌, append_assoc, append-nil}
use mathlib.Core.Option.{Option, none, some}
use Prim.Native.Nat.Ordering.{eq}
use Prim.Native.Nat.Ordering.{gt}
use Prim.Native.Nat.Ordering.{lt}
use Prim.Native.Nat.{ℕ, ◌+◌, ◌<◌}
use native.Mathlib.Omega.{arith}
use lib.Dec.{eqb, leb, ltb}
use native.Mathlib.Decide.{dec_lt}
use borrow.Author.Tests.{le-leb, lt-leb, le-ltb, lt-ltb}
use Rattle.value_table.specs.Value.{record_kind}
use Rattle.removal_theory.specs.Payload.{Payload}
use Rattle.counting_theory.specs.Trie.{nil, node, size}
use Rattle.counting_theory.specs.Label.{Label}
use Rattle.counting_theory.specs.declared.equivalence.Equivalence.{Equivalence}
use Rattle.counting_theory.specs.declared.equivalence.Equivalence.TheVariants.{Kind as by_kind}
use Rattle.removal_theory.specs.Label.{Counting, CountingType}
use Rattle.removal_theory.specs.Encoding.{type_payload, header, encode, type_of}
use Rattle.removal_theory.specs.WellFormed.{fields_of, field_counts}
use Rattle.type_arena.specs.declared.level.Level.{Level}
use Rattle.removal_arena.specs.Inside.Arena.{label_at}
use Rattle.removal_arena.specs.Inside.Addend.{front, body, rest}
use Rattle.removal.specs.Difference.{Taken, short, gone, left, kept, emptied, taken_node, difference_step, difference_node, difference}
use Rattle.removal.specs.Removed.{taken}
use Rattle.removal.specs.Inside.Removing.{WholeRun, bytes_left, run_left, addend_left, followed}
use Rattle.counting_theory.proofs.WellFormed.Tests.{implies}
use Rattle.removal_theory.proofs.WellFormed.Nodes.{field_counts-parts}
use Rattle.removal_arena.proofs.FirstAddend.{header-first, coded-type, type-empty}
use Rattle.removal_arena.proofs.Runs.{At, order, Head}
use Rattle.removal.proofs.OnBytes.Placing.{unless, followed-empty, followed-none, followed-tests}

encode-node : (l : Label) (a : Payload) (c s : CountingType) → encode (node l a c s) ≡ encode (node l a c nil) ++ encode s
unfolding encode
encode-node l a c s = rw append-nil (sym (append_assoc (header l (1 + size c) a) (encode c) (encode s)))

-- a node that stays, and what is left of its siblings
kept-bytes : (limit : ℕ) (l : Label) (a : Payload) (c s : CountingType) →
    bytes_left limit (some (node l a c s)) ≡ followed (bytes_left limit (some (node l a c nil))) (bytes_left limit (some s))
unfolding bytes_left fields_of field_counts
kept-bytes limit l a c s =
    rw (encode-node l a c s)
    (followed-tests (leb a.count limit) (fields_of by_kind limit s) (not (eqb l.kind record_kind) || fields_of by_kind a.count c) (field_counts by_kind c)
    (field_counts by_kind s) (encode (node l a c nil)) (encode s))

node-bytes : (limit : ℕ) (o : Taken Payload) (l : Label) (c s : Option CountingType) →
    bytes_left limit (taken_node o l c s) ≡ followed (bytes_left limit (taken_node o l c (some nil))) (bytes_left limit s)
unfolding bytes_left taken_node followed emptied kept encode fields_of field_counts
node-bytes limit short l c s = refl
node-bytes limit gone l none s = refl
node-bytes limit gone l (some nil) s = sym (followed-empty (bytes_left limit s))
node-bytes limit gone l (some (node k b d t)) s = refl
node-bytes limit (left a) l none s = refl
node-bytes limit (left a) l (some c) none = sym (followed-none (bytes_left limit (some (node l a c nil))))
node-bytes limit (left a) l (some c) (some s) = kept-bytes limit l a c s

-- one step: p is what is left of the first addend, and x' and y' follow
abbrev pub Step : Equivalence → ℕ → List ℕ → List ℕ → Option (List ℕ) → List ℕ → List ℕ → Type 0
Step e limit x y p x' y' = run_left e limit x y ≡ followed p (run_left e limit x' y')

-- a count that is not above the limit
within-limit : (limit n : ℕ) (z : List ℕ) → cond ((leb n limit && true) && true) (some z) none ≡ unless (ltb limit n) (some z)
unfolding unless
within-limit limit n z = go (dec_lt limit n)
  where
    go : Dec (limit < n) → cond ((leb n limit && true) && true) (some z) none ≡ unless (ltb limit n) (some z)
    go (yes h) = rw (lt-leb n limit h, lt-ltb limit n h) refl
    go (no h) = rw (le-leb n limit (omega arith), le-ltb limit n (omega arith)) refl

module _ {level : Level} (limit : ℕ) {x : List ℕ} (h : Head level x) (w : WholeRun level limit x) where
  front_bytes : encode (node (label_at (At level) x 0) (type_payload x 0) (type_of (At level) (body x)) nil) ≡ front x
  unfolding encode
  front_bytes = rw (append-nil, header-first, h.first.is_body) (sym h.first.is_front)

  -- the first addend as it is keeps the counts but for its own
  front-left :
      bytes_left limit (some (node (label_at (At level) x 0) (type_payload x 0) (type_of (At level) (body x)) nil)) ≡ unless (ltb limit (type_payload x 0).count) (some (front x))
  unfolding bytes_left fields_of field_counts
  front-left =
      let l : Label = label_at (At level) x 0 in
      let c : CountingType = type_of (At level) (body x) in
      let p = field_counts-parts by_kind l (type_payload x 0) c (type_of (At level) (rest x)) (rw h.first.is-type at w.fields) in
      rw (implies (eqb l.kind record_kind) (fields_of by_kind (type_payload x 0).count c) p.0, p.1, front_bytes)
      (within-limit limit (type_payload x 0).count (front x))

module _ {level : Level} (limit : ℕ) {x y : List ℕ} (h : Head level x) (g : Head level y) where
  abbrev e : Equivalence
  e = At level

  abbrev less : CountingType → CountingType → Option CountingType
  less = difference Counting taken

  differs-less : lt ≡ order e x y → less (type_of e x) (type_of e y) ≡ taken_node (left (type_payload x 0)) (label_at e x 0) (some (type_of e (body x))) (less (type_of e (rest x)) (type_of e y))
  unfolding difference difference_node difference_step taken_node
  differs-less i = rw (h.first.is-type, g.first.is-type, ← i) refl

  pub step_less : WholeRun level limit x → lt ≡ order e x y → Step e limit x y (unless (ltb limit (type_payload x 0).count) (some (front x))) (rest x) y
  unfolding run_left taken_node kept
  step_less w i =
      let s = less (type_of e (rest x)) (type_of e y) in
      ap (bytes_left limit) (differs-less i) ∙ node-bytes limit (left (type_payload x 0)) (label_at e x 0) (some (type_of e (body x))) s
      ∙ ap (λ p. followed p (bytes_left limit s)) (front-left limit h w)

  pub step-more : gt ≡ order e x y → Step e limit x y none x (rest y)
  unfolding run_left difference difference_node difference_step bytes_left followed
  step-more i = rw (h.first.is-type, g.first.is-type, ← i) refl

  pub step_same : eq ≡ order e x y → Step e limit x y (addend_left e limit x y) (rest x) (rest y)
  unfolding run_left addend_left difference difference_node difference_step
  step_same i =
      rw (h.first.is-type, g.first.is-type, ← i)
      (node-bytes limit (taken (type_payload x 0) (type_payload y 0)) (label_at e x 0) (less (type_of e (body x)) (type_of e (body y)))
      (less (type_of e (rest x)) (type_of e (rest y))))

-- the whole has run out before the part
pub whole_out : {level : Level} (limit : ℕ) {y : List ℕ} → Head level y → run_left (At level) limit [] y ≡ none
unfolding run_left difference bytes_left
whole_out {level} limit g = rw (type-empty (At level), g.first.is-type) refl

less-nothing : (f : CountingType) → difference Counting taken f nil ≡ some f
unfolding difference difference_node
less-nothing nil = refl
less-nothing (node l a c s) = refl

-- the part has run out
pub part_out : {level : Level} (limit : ℕ) (x : List ℕ) → WholeRun level limit x →
    run_left (At level) limit x [] ≡ unless (not (fields_of by_kind limit (type_of (At level) x))) (some x)
unfolding run_left bytes_left unless
part_out {level} limit x w =
    let f : CountingType = type_of (At level) x in
    let z : encode f ≡ x = ap encode (coded-type w.run.coded) ∙ sym w.run.coded.bytes in
    rw (type-empty (At level), less-nothing f, w.fields, z) (go (fields_of by_kind limit f))
  where
    go : (b : Bool) → cond (b && true) (some x) none ≡ unless (not b) (some x)
    go true = refl
    go false = refl
