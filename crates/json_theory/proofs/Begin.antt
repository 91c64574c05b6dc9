-- The first byte of a value.
use mathlib.Core.Path.{◌≡◌, refl, sym, ◌∙◌, ap, subst}
use mathlib.Core.Bool.{Bool, true, false, cond}
use mathlib.Core.Logic.{◌⊎◌, inl, inr}
use mathlib.Core.List.{List, [], ◌∷◌, ◌++◌}
use Prim.Native.Nat.{ℕ, ◌≤◌, ◌<◌}
use native.Mathlib.Omega.{arith}
use lib.Dec.{eqb}
use borrow.Author.Tests.{eqb-true}
use Rattle.value_table.specs.Value.{Head, Values, none, last_scalar}
use Rattle.json_theory.specs.Rx.{Rx, Word, within}
use Rattle.json_theory.specs.Inside.Derivative.{nullable, rest}
use Rattle.json_theory.specs.Grammar
use Rattle.json_theory.specs.Grammar.{quote, Container, array, object, head_of, kind_of, opener, Scalar, null, is_false, is_true, is_number, Value, scalar, container, Content}
use Rattle.json_theory.specs.Parts.{plain, minus, nought, whole, Start, letters, number, string, open', nothing, start}
use Rattle.json_theory.specs.Inside.Remaining.{string_rest, number_rest}
use Rattle.json_theory.proofs.Rx.{false-true, cons-append, word-nullable, word-rest, rest-word}
use Rattle.json_theory.proofs.Parts.{number_start, start-fact}

-- which byte it is
abbrev pub Which : ℕ → Start → Type 0
Which c (letters kind l ls) = (m : List ℕ) → Scalar (c ∷ l ∷ (ls ++ m)) (head_of kind) m
Which c (number part) = Unit {0}
Which c string = c ≡ quote
Which c (open' o) = c ≡ opener o
Which c nothing = Unit {0}

pub pick : {A : Type 0} (P : A → Type 0) (t : Bool) (a b : A) → (t ≡ true → P a) → P b → P (cond t a b)
pick P true a b f g = f refl
pick P false a b f g = g

pub which : (c : ℕ) → Which c (start c)
unfolding start
which c =
    pick (Which c) (eqb c quote) string _ (λ h. eqb-true c quote h)
    (pick (Which c) (eqb c 0x2D) (number minus) _ (λ h. tt)
    (pick (Which c) (eqb c 0x30) (number nought) _ (λ h. tt)
    (pick (Which c) (within 0x31 0x39 c) (number whole) _ (λ h. tt)
    (pick (Which c) (eqb c 0x5B) (open' array) _ (λ h. eqb-true c 0x5B h)
    (pick (Which c) (eqb c 0x7B) (open' object) _ (λ h. eqb-true c 0x7B h)
    (pick (Which c) (eqb c 0x6E) (letters 1 0x75 (0x6C ∷ 0x6C ∷ [])) _ (λ h m. rw (eqb-true c 0x6E h) null)
    (pick (Which c) (eqb c 0x66) (letters 2 0x61 (0x6C ∷ 0x73 ∷ 0x65 ∷ [])) _ (λ h m. rw (eqb-true c 0x66 h) is_false)
    (pick (Which c) (eqb c 0x74) (letters 2 0x72 (0x75 ∷ 0x65 ∷ [])) nothing (λ h m. rw (eqb-true c 0x74 h) is_true)
    tt))))))))

module _ (name : List ℕ → ℕ) where
  abbrev pub Began : Start → List ℕ → Head → Values → List ℕ → Type 0
  Began (letters k l ls) s head content m = (head ≡ head_of k) × (content ≡ none) × (s ≡ l ∷ (ls ++ m))
  Began (number part) s head content m = (head ≡ head_of 3) × (content ≡ none) × ((w : List ℕ) × Word (number_rest part) w × (s ≡ w ++ m))
  Began string s head content m = (head ≡ head_of 4) × (content ≡ none) × ((w : List ℕ) × Word (string_rest plain) w × (s ≡ w ++ (quote ∷ m)))
  Began (open' o) s head content m = (head ≡ head_of (kind_of o)) × Content name o s content m
  Began nothing s head content m = ⊥

  scalar-down : {x m : List ℕ} {head : Head} (c : ℕ) (s : List ℕ) → c < 256 → Scalar x head m → x ≡ c ∷ s → Began (start c) s head none m
  unfolding start string_rest nullable
  scalar-down c s small (null {m}) q =
      let p : 0x6E ≡ c = cc in
      let z : s ≡ 0x75 ∷ 0x6C ∷ 0x6C ∷ m = cc in
      subst (λ (c : ℕ). Began (start c) s (head_of 1) none m) p (refl, refl, z)
  scalar-down c s small (is_false {m}) q =
      let p : 0x66 ≡ c = cc in
      let z : s ≡ 0x61 ∷ 0x6C ∷ 0x73 ∷ 0x65 ∷ m = cc in
      subst (λ (c : ℕ). Began (start c) s (head_of 2) none m) p (refl, refl, z)
  scalar-down c s small (is_true {m}) q =
      let p : 0x74 ≡ c = cc in
      let z : s ≡ 0x72 ∷ 0x75 ∷ 0x65 ∷ m = cc in
      subst (λ (c : ℕ). Began (start c) s (head_of 2) none m) p (refl, refl, z)
  scalar-down c s small (is_number {w} {m} h) q = look (cons-append c s w m (sym q))
    where
      go : (st : Start) (v : List ℕ) → s ≡ v ++ m → Word (number_start st) v → Began st s (head_of 3) none m
      go (letters k l ls) v e h = absurd h
      go (number part) v e h = (refl, refl, (v, h, e))
      go string v e h = absurd h
      go (open' o) v e h = absurd h
      go nothing v e h = h

      look : ((w ≡ []) × (m ≡ c ∷ s)) ⊎ ((v : List ℕ) × (w ≡ c ∷ v) × (s ≡ v ++ m)) → Began (start c) s (head_of 3) none m
      look (inl x) = false-true (word-nullable Grammar.number (subst (λ (u : List ℕ). Word Grammar.number u) x.0 h))
      look (inr x) =
          go (start c) x.0 x.2
          (subst (λ (r : Rx). Word r x.0) (start-fact c small).0
          (word-rest Grammar.number c x.0 (subst (λ (u : List ℕ). Word Grammar.number u) x.1 h)))
  scalar-down c s small (Grammar.string {w} {m} h) q =
      let p : quote ≡ c = cc in
      let z : s ≡ w ++ (quote ∷ m) = cc in
      subst (λ (c : ℕ). Began (start c) s (head_of 4) none m) p (refl, refl, (w, h, z))

  pub value-down : {x m : List ℕ} {head : Head} {content : Values} (c : ℕ) (s : List ℕ) → c < 256 → Value name x head content m → x ≡ c ∷ s → Began (start c) s head content m
  unfolding start
  value-down c s small (scalar h) q = scalar-down c s small h q
  value-down c s small (container {o} {s = t} {m} {vs} h) q = go o h refl
    where
      z : t ≡ s
      z = cc

      p : opener o ≡ c
      p = cc

      go : (u : Container) → Content name u t vs m → o ≡ u → Began (start c) s (head_of (kind_of u)) vs m
      go array h e = subst (λ (c : ℕ). Began (start c) s (head_of (kind_of array)) vs m) (ap opener (sym e) ∙ p) (refl, subst (λ (x : List ℕ). Content name array x vs m) z h)
      go object h e = subst (λ (c : ℕ). Began (start c) s (head_of (kind_of object)) vs m) (ap opener (sym e) ∙ p) (refl, subst (λ (x : List ℕ). Content name object x vs m) z h)

  pub value-up : {m : List ℕ} {head : Head} {content : Values} (c : ℕ) (s : List ℕ) → c < 256 → Began (start c) s head content m → Value name (c ∷ s) head content m
  unfolding string_rest
  value-up {m} {head} {content} c s small = go (start c) (which c) (start-fact c small).0
    where
      go : (st : Start) → Which c st → rest Grammar.number c ≡ number_start st → Began st s head content m → Value name (c ∷ s) head content m
      go (letters k l ls) w f h = rw (h.0, h.1, h.2) (scalar (w m))
      go (number part) w f h =
          let v = h.2.0 in
          let z = rest-word Grammar.number c v (subst (λ (r : Rx). Word r v) (sym f) h.2.1) in
          rw (h.0, h.1, h.2.2) (scalar (is_number {w = c ∷ v} z))
      go string w f h = rw (w, h.0, h.1, h.2.2) (scalar (Grammar.string h.2.1))
      go (open' o) w f h = rw (w, h.0) (container h.1)
      go nothing w f h = absurd h

-- a literal's head
abbrev pub ScalarKind : Start → Type 0
ScalarKind (letters kind l ls) = (1 ≤ kind) × (kind ≤ last_scalar)
ScalarKind (number part) = Unit {0}
ScalarKind string = Unit {0}
ScalarKind (open' o) = Unit {0}
ScalarKind nothing = Unit {0}

pub scalar-kind : (c : ℕ) → ScalarKind (start c)
unfolding start
scalar-kind c =
    pick ScalarKind (eqb c quote) string _ (λ h. tt)
    (pick ScalarKind (eqb c 0x2D) (number minus) _ (λ h. tt)
    (pick ScalarKind (eqb c 0x30) (number nought) _ (λ h. tt)
    (pick ScalarKind (within 0x31 0x39 c) (number whole) _ (λ h. tt)
    (pick ScalarKind (eqb c 0x5B) (open' array) _ (λ h. tt)
    (pick ScalarKind (eqb c 0x7B) (open' object) _ (λ h. tt)
    (pick ScalarKind (eqb c 0x6E) (letters 1 0x75 (0x6C ∷ 0x6C ∷ [])) _ (λ h. (omega arith, omega arith))
    (pick ScalarKind (eqb c 0x66) (letters 2 0x61 (0x6C ∷ 0x73 ∷ 0x65 ∷ [])) _ (λ h. (omega arith, omega arith))
    (pick ScalarKind (eqb c 0x74) (letters 2 0x72 (0x75 ∷ 0x65 ∷ [])) nothing (λ h. (omega arith, omega arith))
    tt))))))))
