-- Optional payloads are a commutative monoid.
use mathlib.Core.Path.{◌≡◌, refl, sym, ◌∙◌, ap}
use mathlib.Core.Option.{Option, none, some}
use Rattle.counting_theory.specs.Trie.{TrieOps, ◌⊞◌ as join_option}
use Rattle.counting_theory.specs.Inside.TrieLaws.{TrieLaws}

module _ {T : TrieOps} (W : TrieLaws T) where
  open T use {Payload}
  open W use {join-comm, join-assoc}

  infixr 66 ◌⊞◌
  abbrev ◌⊞◌ : Option Payload → Option Payload → Option Payload
  x ⊞ y = join_option T x y

  pub ⊞-none : (x : Option Payload) → x ⊞ none ≡ x
  unfolding join_option
  ⊞-none none = refl
  ⊞-none (some a) = refl

  pub ⊞-comm : (x y : Option Payload) → x ⊞ y ≡ y ⊞ x
  unfolding join_option
  ⊞-comm none none = refl
  ⊞-comm none (some b) = refl
  ⊞-comm (some a) none = refl
  ⊞-comm (some a) (some b) = ap some (join-comm a b)

  pub ⊞-assoc : (x y z : Option Payload) → (x ⊞ y) ⊞ z ≡ x ⊞ (y ⊞ z)
  unfolding join_option
  ⊞-assoc none y z = refl
  ⊞-assoc (some a) none z = refl
  ⊞-assoc (some a) (some b) none = refl
  ⊞-assoc (some a) (some b) (some c) = ap some (join-assoc a b c)

  pub ⊞-left-comm : (x y z : Option Payload) → x ⊞ (y ⊞ z) ≡ y ⊞ (x ⊞ z)
  ⊞-left-comm x y z = sym (⊞-assoc x y z) ∙ ap (λ w. w ⊞ z) (⊞-comm x y) ∙ ⊞-assoc y x z
