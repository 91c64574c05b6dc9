-- The places of 6, 7, 11, 13 and 15 mean what is said of them.
use mathlib.Core.Path.{◌≡◌, refl, sym, subst}
use mathlib.Core.Bool.{Bool, true, false, cond}
use mathlib.Core.Logic.{◌⊎◌, inl, inr}
use mathlib.Core.List.{List, [], ◌∷◌, ◌++◌, append-nil}
use Prim.Native.Nat.{ℕ, ◌+◌, ◌/◌, ◌≤◌, ◌<◌}
use native.Mathlib.Omega.{arith}
use lib.Dec.{eqb}
use lib.ListN.{length}
use Rattle.byte_records.specs.Number.{Bytes}
use Rattle.value_table.specs.Value.{Values, none, value, join_values, Valid, ValidAt, size, max_depth, max_fields, record_size}
use Rattle.json_theory.specs.Grammar.{is_space, tight, array, object, head_of, kind_of, closer}
use Rattle.json_theory.specs.Parts.{Turn, go as go_on, ended, stuck, StringPart, next_in_string, start}
use Rattle.json_theory.specs.Steps.{Stack, base, level, add, State, gap, after, need, first, next_key, in_key, colon, in_string, in_number, in_literal, wrong, begin, item, shut, step}
use Rattle.json_theory.specs.Inside.Run.{run}
use Rattle.json_theory.specs.Book.{key_number}
use Rattle.json_theory.specs.Reader.{depth, written, items_in, value_fault, key_fault, key_ends, limit_fault, is_wrong, read}
use Rattle.json_theory.specs.Places.{first_message, first_item, ValueAt, as_message, as_element, Keyed, ended_with, so_far, InOrder, ValueRefused, KeyRefused, SevenMeans, ElevenMeans, ThirteenMeans, SixMeans, FifteenMeans}
use Rattle.json_theory.proofs.ToCome.{join-none}
use Rattle.json_theory.proofs.Turn.{begin-up}
use Rattle.json_theory.proofs.Viable.{viable}
use Rattle.json_theory.proofs.Parts.{StringBack, string-up}
use Rattle.json_theory.proofs.Whole.{AllBytes}
use Rattle.json_theory.proofs.Sound.{KeyOk, Sound, sound-shut, size-join}
use Rattle.json_theory.proofs.Limits.{InObject, Shaped, Full, Good, value-says, key-says, fits}
use Rattle.json_theory.proofs.Readings.{not-twelve}
use Rattle.json_theory.proofs.Refusals.{FaultOf, FaultFree, refused-at}
use Rattle.json_theory.proofs.Book.{number_small}
use Rattle.json_theory.proofs.Promises.{all-bytes, lengths-fit, reading-fault}
use Rattle.json_theory.proofs.Standing.{Stands, key-ends, stands-step}

-- the values that began before
ended-valid : (v : Values) (around : Stack) → Sound (add v around) → Valid (ended_with v around)
unfolding ended_with
ended-valid v (base ms) h = h
ended-valid v (level o key done outer) h =
    ended-valid (value (head_of (kind_of o)) key (join_values done v) none) outer (sound-shut o key (join_values done v) outer h)

ended-size : (v : Values) (around : Stack) → size (ended_with v around) ≡ written around + size v
unfolding ended_with written size
ended-size v (base ms) = size-join ms v
ended-size v (level o key done outer) =
    omega (arith, ended-size (value (head_of (kind_of o)) key (join_values done v) none) outer, size-join done v)

so-far-size : (around : Stack) → size (so_far around) ≡ written around
unfolding size
so-far-size around = omega (arith, ended-size none around)

add_none : (around : Stack) → add none around ≡ around
add_none (base ms) = rw join-none
add_none (level o key done outer) = rw join-none

full-order : (n : ℕ) (around : Stack) → Full (n / record_size) around → InOrder n around
full-order n around h =
    record { valid = ended-valid none around (rw add_none h.0); room = omega (arith, so-far-size around, h.1) }

sound-depth : (around : Stack) → Sound around → depth around ≤ max_depth
unfolding depth
sound-depth (base ms) h = omega arith
sound-depth (level o key done outer) h = h.0

keyed : (key : ℕ) (around : Stack) → KeyOk key around → Keyed key around
keyed key (base ms) h = h
keyed key (level array k done outer) h = h
keyed key (level object k done outer) h = (h.0, h.2, h.3)

-- where the reader stands behind bytes with no fault
abbrev Standing : (List ℕ → ℕ) → ℕ → List ℕ → State → List ℕ → Type 0
Standing name room text σ s = AllBytes s × Shaped σ × Good room σ × Stands name text σ s

module _ (name : List ℕ → ℕ) (room : ℕ) (text : List ℕ) (fitting : (w : List ℕ) → name w < 65536) where
  run-stands : (σ : State) (a s : List ℕ) → Standing name room text σ (a ++ s) → FaultFree name room σ a → Standing name room text (run name σ a) s
  unfolding run
  run-stands σ [] s h e = h
  run-stands σ (c ∷ a) s h e =
      let z = not-twelve (is_wrong (step name σ c)) (limit_fault name room σ c) 0 (λ e. omega arith) e.0 in
      let x = fits room name fitting σ c h.1 z.0 in
      run-stands (step name σ c) a s (h.0.1, x.0, x.2 h.2 z.1, stands-step name text c (a ++ s) h.0.0 σ h.1 h.3) e.1

-- a fault behind a test that failed
past : (b : Bool) (σ τ : State) (g f : ℕ) → is_wrong (cond b σ τ) ≡ false → cond b 0 g ≡ f → 1 ≤ f → (is_wrong τ ≡ false) × (g ≡ f)
past true σ τ g f a e l = absurd (omega arith)
past false σ τ g f a e l = (a, e)

module _ (text book : List ℕ) (n f : ℕ) (P : Stack → Type 0) (Q : List ℕ → Stack → Type 0)
    (value-wrong : (around : Stack) → Full (n / record_size) around → value_fault (n / record_size) around ≡ f → P around)
    (key-wrong : (w : List ℕ) (around : Stack) → InObject around → Sound around → key_fault (key_number book w) around ≡ f → Q w around) where
  abbrev Refused : ℕ → Type 0
  Refused q = ValueRefused text book n q P ⊎ KeyRefused text book n q Q

  module _ (seen : List ℕ) (c : ℕ) (s : List ℕ) (parts : text ≡ seen ++ (c ∷ s)) (small : c < 256) (some : 1 ≤ f) where
    value-refused : (b : Bool) (σ : State) (key : ℕ) (around : Stack) → ValueAt (key_number book) text key around (c ∷ s) →
        Full (n / record_size) around × KeyOk key around → is_wrong (cond b σ (begin (start c) key around)) ≡ false →
        cond b 0 (value_fault (n / record_size) around) ≡ f → Refused (length seen)
    value-refused b σ key around v g a e =
        let p = past b σ (begin (start c) key around) (value_fault (n / record_size) around) f a e some in
        let x = viable (key_number book) (begin (start c) key around) p.0 in
        let y = begin-up (key_number book) c x.0 x.1 small key around x.2 in
        inl (record {
          seen = seen;
          c = c;
          left = s;
          key = key;
          around = around;
          parts = parts;
          place = refl;
          stands = v;
          begins = (x.0, y.0, y.1, y.2, y.3);
          keyed = keyed key around g.1;
          in_order = full-order n around g.0;
          wrong = value-wrong around g.0 p.1;
        })

    byte-refused : (σ : State) → Shaped σ → Good (n / record_size) σ → Stands (key_number book) text σ (c ∷ s) → is_wrong (step (key_number book) σ c) ≡ false →
        limit_fault (key_number book) (n / record_size) σ c ≡ f → Refused (length seen)
    unfolding step limit_fault key_ends item
    byte-refused (gap ms) sh g h a e = value-refused (is_space c) (gap ms) 0 (base ms) (as_message h) (g, refl) a e
    byte-refused (after around) sh g h a e = absurd (omega arith)
    byte-refused (need key around) sh g h a e = value-refused (is_space c) (need key around) key around h g a e
    byte-refused (first array key outer) sh g h a e =
        let p = past (is_space c) (first array key outer) _ _ f a e some in
        let v = as_element (first_item h.1 h.2) in
        value-refused (eqb c (closer array)) (shut array key none outer) 0 (level array key none outer) v (g, refl) p.0 p.1
    byte-refused (first object key outer) sh g h a e = absurd (omega arith)
    byte-refused (next_key around) sh g h a e = absurd (omega arith)
    byte-refused (in_key part spelled around) sh g h a e = look (next_in_string part c) (string-up part c small) e
      where
        look : (turn : Turn StringPart) → StringBack part turn c → key_ends (key_number book) (n / record_size) turn spelled around ≡ f → Refused (length seen)
        look (go_on q) x e = absurd (omega arith)
        look ended x e =
            inr (record {
              seen = seen;
              left = s;
              spelled = spelled;
              around = around;
              parts = rw x.0 at parts;
              place = refl;
              stands = key-ends (key_number book) text c s small around spelled sh (rw x.0 at h.0) (rw append-nil at (h.1 [] x.1));
              in_order = full-order n around g;
              wrong = key-wrong spelled around sh g.0 e;
            })
        look stuck x e = absurd (omega arith)
    byte-refused (colon key around) sh g h a e = absurd (omega arith)
    byte-refused (in_string part around) sh g h a e = absurd (omega arith)
    byte-refused (in_number part around) sh g h a e = absurd (omega arith)
    byte-refused (in_literal l ls around) sh g h a e = absurd (omega arith)
    byte-refused wrong sh g h a e = absurd (omega arith)

  refused-means : (1 < f) × (f ≡ 12 → ⊥) × (f ≡ 14 → ⊥) → Bytes text → (read text book n).outcome.number ≡ f → Refused (read text book n).outcome.place
  unfolding written size ValidAt
  refused-means x b h =
      let p = reading-fault text book n f x.0 x.2 h in
      let r = refused-at (key_number book) (n / record_size) (gap none) 0 text f _ refl p.1 in
      let l = number_small book (lengths-fit text book n p.0).0 in
      let y = subst (Standing (key_number book) (n / record_size) text (gap none)) r.parts (all-bytes text b, tt, (tt, omega arith), first_message tight) in
      let z = run-stands (key_number book) (n / record_size) text l (gap none) r.seen r.left y r.before in
      subst Refused (sym (omega (arith, r.place))) (look r.seen r.left r.parts r.faulty z)
    where
      look : (seen left : List ℕ) → text ≡ seen ++ left → FaultOf (key_number book) (n / record_size) (run (key_number book) (gap none) seen) left f →
          Standing (key_number book) (n / record_size) text (run (key_number book) (gap none) seen) left → Refused (length seen)
      look seen [] e k y = absurd (x.1 k.0)
      look seen (c ∷ s) e k y =
          let σ = run (key_number book) (gap none) seen in
          let z = not-twelve (is_wrong (step (key_number book) σ c)) (limit_fault (key_number book) (n / record_size) σ c) f x.1 k.0 in
          byte-refused seen c s e y.0.0 k.1 σ y.1 y.2 y.3 z.0 z.1

-- no other fault has this number
left-only : {A B : Type 0} → (B → ⊥) → A ⊎ B → A
left-only f (inl a) = a
left-only f (inr b) = absurd (f b)

right-only : {A B : Type 0} → (A → ⊥) → A ⊎ B → B
right-only f (inl a) = absurd (f a)
right-only f (inr b) = b

pub seven-means : SevenMeans
seven-means text book n b h =
    left-only (λ r. r.wrong) (refused-means text book n 7 _ (λ w around. ⊥)
    (λ around g e. value-says (n / record_size) around 7 e (λ x d. omega (arith, sound-depth around g.0))
    (λ x d w. absurd (omega arith)) (λ x d w. absurd (omega arith)))
    (λ w around i g e. key-says (key_number book w) around 7 e (λ x k. omega arith) (λ x k m. omega arith) (λ x k m l. omega arith) (λ x k m l. omega arith))
    (omega arith, (λ e. omega arith), λ e. omega arith) b h)

pub eleven-means : ElevenMeans
eleven-means text book n b h =
    left-only (λ r. r.wrong) (refused-means text book n 11 _ (λ w around. ⊥)
    (λ around g e. value-says (n / record_size) around 11 e (λ x d. absurd (omega arith))
    (λ x d w. (d, omega (arith, g.1, so-far-size around))) (λ x d w. absurd (omega arith)))
    (λ w around i g e. key-says (key_number book w) around 11 e (λ x k. omega arith) (λ x k m. omega arith) (λ x k m l. omega arith) (λ x k m l. omega arith))
    (omega arith, (λ e. omega arith), λ e. omega arith) b h)

pub thirteen-means : ThirteenMeans
thirteen-means text book n b h =
    right-only (λ r. r.wrong) (refused-means text book n 13 (λ around. ⊥) _
    (λ around g e. value-says (n / record_size) around 13 e (λ x d. omega arith) (λ x d w. omega arith) (λ x d w. omega arith))
    (λ w around i g e. key-says (key_number book w) around 13 e (λ x k. k) (λ x k m. absurd (omega arith)) (λ x k m l. absurd (omega arith)) (λ x k m l. absurd (omega arith)))
    (omega arith, (λ e. omega arith), λ e. omega arith) b h)

pub six-means : SixMeans
six-means text book n b h =
    right-only (λ r. r.wrong) (refused-means text book n 6 (λ around. ⊥) _
    (λ around g e. value-says (n / record_size) around 6 e (λ x d. omega arith) (λ x d w. omega arith) (λ x d w. omega arith))
    (λ w around i g e. key-says (key_number book w) around 6 e (λ x k. absurd (omega arith)) (λ x k m. (k, m)) (λ x k m l. absurd (omega arith)) (λ x k m l. absurd (omega arith)))
    (omega arith, (λ e. omega arith), λ e. omega arith) b h)

-- an object that is sound has at most 256 members
full-object : (around : Stack) → InObject around → Sound around → max_fields ≤ items_in around → items_in around ≡ max_fields
full-object (base ms) i h l = absurd i
full-object (level array key done outer) i h l = absurd i
full-object (level object key done outer) i h l = omega (arith, h.3.1)

pub fifteen-means : FifteenMeans
fifteen-means text book n b h =
    right-only (λ r. r.wrong) (refused-means text book n 15 (λ around. ⊥) _
    (λ around g e. value-says (n / record_size) around 15 e (λ x d. omega arith) (λ x d w. omega arith) (λ x d w. omega arith))
    (λ w around i g e. key-says (key_number book w) around 15 e (λ x k. absurd (omega arith)) (λ x k m. absurd (omega arith))
    (λ x k m l. (k, m, full-object around i g l)) (λ x k m l. absurd (omega arith)))
    (omega arith, (λ e. omega arith), λ e. omega arith) b h)
